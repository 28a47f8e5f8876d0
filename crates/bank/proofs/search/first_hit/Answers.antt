use Rattle.std.proofs.Common.{◌<◌, length, Some, None, arith}
use Rattle.answers.specs.Questions.{place_refused}
use Rattle.opentype.specs.Meaning.{subtable}
use Rattle.bank.specs.Answers.{hit_of}
use Rattle.bank.specs.Searches.{first_hit}
use Rattle.bank.proofs.Searching.{answer_is, none_first, passed, some_first, told_some}
use Rattle.bank.proofs.search.first_hit.Goals as goal

pub returns-in-Some : goal.returns-in-Some
returns-in-Some g c =
    let bank = g.B.Matching.meaning c.args.bank.now in
    let run = c.args.run.now in
    let place = c.args.place in
    let k = c.loop-k.k in
    let hit = c.in-Some.hit in
    let below : k < length bank = omega arith in
    let here = answer_is (place_refused (length run) place) _ (hit_of (subtable bank k) k run place) (Some hit) c.in_ok-hit.ensures.value c.in-Some.is in
    let p = told_some place k ((subtable bank k).matching.finds run place) hit here in
    record {
      value = passed (place_refused (length run) place) _ (Some hit) (first_hit bank run place) c.in_ok-ask_place.ensures
          (some_first bank run place k hit below c.loop-k.invariant here);
      exactly = (k, p.0, below, p.1, p.2, c.loop-k.invariant);
    }

pub returns : goal.returns
returns g c =
    let bank = g.B.Matching.meaning c.args.bank.now in
    let run = c.args.run.now in
    let place = c.args.place in
    record {
      value = passed (place_refused (length run) place) _ None (first_hit bank run place) c.in_ok-ask_place.ensures
          (none_first bank run place (λ j l. c.loop-k.invariant j (omega arith)));
      exactly = λ j l. c.loop-k.invariant j (omega arith);
    }
