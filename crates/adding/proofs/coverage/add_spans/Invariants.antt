use Rattle.std.proofs.Common.{◌≡◌, ℕ, List, length}
use Rattle.opentype.specs.Spans.{add_span}
use Rattle.opentype.specs.Walks.{fold_below}
use Rattle.tables.specs.Views.{ranges_of}
use Rattle.adding.proofs.coverage.add_spans.Given as goal

-- the ranges so far are added
abbrev pub invariant-loop-range : goal.invariant-loop-range
invariant-loop-range l =
    l.digest.masks
    ≡ fold_below (λ (k : ℕ) (ms : List ℕ). add_span ms ((ranges_of l.ranges).start k) ((ranges_of l.ranges).end k)) (length l.yielded) l.initial.digest.masks
