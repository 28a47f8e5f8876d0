use Rattle.std.proofs.Common.{ℕ, length, Ok}
use Rattle.opentype.specs.Filters.{add_rule}
use Rattle.opentype.specs.Walks.{walk_below}
use Rattle.rules.specs.Views.{rules_of}
use Rattle.adding.specs.Walked.{CarriedOut}
use Rattle.filters.proofs.walk.add_rules.Given as goal

-- the rules so far are walked
abbrev pub invariant-loop-rule : goal.invariant-loop-rule
invariant-loop-rule g l =
    let all = rules_of g.F.Offset.Width.BYTES g.F.Value.Width.BYTES l.rules in
    CarriedOut (walk_below (λ (k : ℕ). add_rule (g.A.AddSecond.adding l.adding) (all.entry k)) (length l.yielded)) l.initial.gathering l.gathering (Ok tt)
