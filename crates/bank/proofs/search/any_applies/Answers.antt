use Rattle.std.proofs.Common.{true, false, length, arith}
use Rattle.answers.specs.Questions.{list_refused}
use Rattle.opentype.specs.Meaning.{subtable}
use Rattle.bank.specs.Searches.{some_applies}
use Rattle.bank.proofs.Searching.{answer_is, decides_some, none_applies, passed, some_applies_at}
use Rattle.bank.proofs.search.any_applies.Goals as goal

pub returns-then-branch : goal.returns-then-branch
returns-then-branch g c =
    let bank = g.B.Matching.meaning c.args.bank.now in
    let glyphs = c.args.glyphs.now in
    let bare = c.args.zero_context in
    let k = c.loop-k.k in
    let here = answer_is (list_refused (length glyphs)) _ ((subtable bank k).matching.applies glyphs bare) true c.in_ok-would_apply.ensures.value c.if-branch.true in
    let some = some_applies_at bank glyphs bare k (omega arith) here in
    record {
      value = passed (list_refused (length glyphs)) _ true (some_applies bank glyphs bare) c.in_ok-ask_list.ensures some;
      exactly = decides_some bank glyphs bare true some;
    }

pub returns : goal.returns
returns g c =
    let bank = g.B.Matching.meaning c.args.bank.now in
    let glyphs = c.args.glyphs.now in
    let bare = c.args.zero_context in
    let none = none_applies bank glyphs bare c.loop-k.k (omega arith) c.loop-k.invariant in
    record {
      value = passed (list_refused (length glyphs)) _ false (some_applies bank glyphs bare) c.in_ok-ask_list.ensures none;
      exactly = decides_some bank glyphs bare false none;
    }
