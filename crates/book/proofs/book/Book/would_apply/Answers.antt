use Rattle.std.proofs.Common.{ℕ, ◌<◌, true, ◌&&◌, length, sym, arith}
use Rattle.std.proofs.lemmas.Bool.{and_from}
use Rattle.answers.specs.Questions.{list_refused}
use Rattle.bank.proofs.Searching.{answer_is, passed}
use Rattle.opentype.proofs.Matched.{any_met}
use Rattle.opentype.specs.Meaning.{subtable}
use Rattle.book.specs.Scans.{may_try}
use Rattle.book.proofs.book.Book.would_apply.Goals as goal

pub returns-then-branch : goal.returns-then-branch
returns-then-branch g c =
    let bank = g.B.Matching.meaning c.args.self.now.bank in
    let slots = c.args.self.now.slots.table in
    let glyphs = c.args.glyphs.now in
    let bare = c.args.zero_context in
    let k = c.loop-k.k in
    let below : k < length bank = omega arith in
    let applies = answer_is (list_refused (length glyphs)) _ ((subtable bank k).matching.applies glyphs bare) true c.in_ok-would_apply.ensures.value c.if-branch.true in
    let test = λ (k : ℕ). may_try slots glyphs 0 k && (subtable bank k).matching.applies glyphs bare in
    let yes = any_met test (length bank) k below (and_from _ _ (sym c.if-may_try.ensures.value) applies) in
    record { value = passed (list_refused (length glyphs)) _ true _ c.in_ok-ask_list.ensures yes }
