use Rattle.std.proofs.Common.{◌<◌, ◌≤◌, length, sym, refl, ap, ◌∙◌, arith}
use Rattle.answers.specs.Questions.{place_refused}
use Rattle.bank.proofs.Searching.{answer_is}
use Rattle.book.specs.declared.book.Look.{Look}
use Rattle.book.proofs.Scanning.{run_passed, scanned_full, scanned_hit, scanned_miss}
use Rattle.book.proofs.book.Book.scan.Goals as goal
use Rattle.book.proofs.book.Book.scan.Goals.{in-Some+else-found-hits, in_default}

pub returns-then-found-hits : goal.returns-then-found-hits
returns-then-found-hits g c =
    let bank = g.B.Matching.meaning c.args.self.now.bank in
    let slots = c.args.self.now.slots.table in
    let run = c.args.run.now in
    let place = c.loop-place.place in
    let few = run_passed (length run) _ c.in_ok-ask_run.ensures in
    let look = answer_is (place_refused (length run) place) _ _ _ c.in_ok-look.ensures.value refl in
    let full : length c.args.hits.now ≤ c.loop-place.found = omega arith in
    let w = scanned_full bank slots run c.args.hits.now place c.loop-place.found c.loop-place.tries c.loop-place.hits c.loop-place.invariant c.in-Some.hit
    few c.loop-place-test.true full (ap (λ (l : Look). l.hit) look ∙ c.in-Some.is) in
    record { answer = w.0; list = w.1 }

pub loop-place-preserved : goal.loop-place-preserved
loop-place-preserved g c =
    let bank = g.B.Matching.meaning c.args.self.now.bank in
    let slots = c.args.self.now.slots.table in
    let run = c.args.run.now in
    let old = c.args.hits.now in
    let place = c.loop-place.place in
    let look = answer_is (place_refused (length run) place) _ _ _ c.in_ok-look.ensures.value refl in
    let tries = sym (ap (λ (l : Look). l.tries) look) in
    let few = c.in_ok-look.ensures.few in
    elim c.match-look.branch [
      | in-Some+else-found-hits w ↦
          let space : c.loop-place.found < length old = omega arith in
          scanned_hit bank slots run old place c.loop-place.found c.loop-place.tries c.loop-place.hits c.loop-place.invariant _ _ w.in-Some.hit _
          space (ap (λ (l : Look). l.hit) look ∙ w.in-Some.is) tries few w.found-is w.hits-is
      | in_default w ↦
          scanned_miss bank slots run old place c.loop-place.found c.loop-place.tries c.loop-place.hits c.loop-place.invariant _ _ _
          (ap (λ (l : Look). l.hit) look ∙ w.in_default.is) tries few w.found-is w.hits-is
    ]
