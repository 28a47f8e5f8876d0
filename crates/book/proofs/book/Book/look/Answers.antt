use Rattle.std.proofs.Common.{ℕ, ◌+◌, ◌<◌, length, Some, None, sym, subst, arith}
use Rattle.answers.specs.Questions.{place_refused}
use Rattle.bank.proofs.Searching.{answer_is, passed}
use Rattle.bank.specs.Answers.{hit_of}
use Rattle.opentype.specs.Meaning.{subtable}
use Rattle.book.specs.Scans.{may_try}
use Rattle.book.proofs.Looking.{Looked, looks, met, missed, skipped}
use Rattle.book.proofs.book.Book.look.Goals as goal
use Rattle.book.proofs.book.Book.look.Goals.{then-may_try+in_ok-hit+in_default, else-may_try}

pub returns-in-Some-clause-value : goal.returns-in-Some-clause-value
returns-in-Some-clause-value g c =
    let bank = g.B.Matching.meaning c.args.self.now.bank in
    let slots = c.args.self.now.slots.table in
    let run = c.args.run.now in
    let place = c.args.place in
    let k = c.loop-k.k in
    let below : k < length bank = omega arith in
    let here = answer_is (place_refused (length run) place) _ (hit_of (subtable bank k) k run place) (Some c.in-Some.hit) c.in_ok-hit.ensures.value c.in-Some.is in
    let w = met (may_try slots run place) (λ (k : ℕ). hit_of (subtable bank k) k run place) k c.loop-k.tries c.loop-k.invariant (length bank) c.in-Some.hit (sym c.if-may_try.ensures.value) here below in
    passed (place_refused (length run) place) _ _ _ c.in_ok-ask_place.ensures (looks _ _ _ _ w.0 w.1)

pub loop-k-preserved : goal.loop-k-preserved
loop-k-preserved g c =
    let bank = g.B.Matching.meaning c.args.self.now.bank in
    let slots = c.args.self.now.slots.table in
    let run = c.args.run.now in
    let place = c.args.place in
    let k = c.loop-k.k in
    let test = may_try slots run place in
    let hit = λ (k : ℕ). hit_of (subtable bank k) k run place in
    elim c.if-may_try.branch [
      | then-may_try+in_ok-hit+in_default w ↦
          subst (Looked test hit (k + 1)) (sym w.tries-is)
          (missed test hit k c.loop-k.tries c.loop-k.invariant (sym w.if-may_try.ensures.value)
          (answer_is (place_refused (length run) place) _ (hit k) None w.in_ok-hit.ensures.value w.in_default.is))
      | else-may_try w ↦
          subst (Looked test hit (k + 1)) (sym w.tries-is) (skipped test hit k c.loop-k.tries c.loop-k.invariant (sym w.if-may_try.ensures.value))
    ]
