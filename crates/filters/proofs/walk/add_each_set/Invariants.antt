use Rattle.std.proofs.Common.{ℕ, length, Ok}
use Rattle.opentype.specs.Filters.{add_set}
use Rattle.opentype.specs.Walks.{walk_below}
use Rattle.rules.specs.Views.{sets_of}
use Rattle.adding.specs.Walked.{CarriedOut}
use Rattle.filters.proofs.walk.add_each_set.Given as goal

-- the sets so far are walked
abbrev pub invariant-loop-set : goal.invariant-loop-set
invariant-loop-set g l =
    let all = sets_of g.F.Set.Width.BYTES g.F.Offset.Width.BYTES g.F.Value.Width.BYTES l.sets in
    CarriedOut (walk_below (λ (k : ℕ). add_set (g.A.AddSecond.adding l.adding) (all.entry k)) (length l.yielded)) l.initial.gathering l.gathering (Ok tt)
