use Rattle.std.proofs.Common.{Ok}
use Rattle.opentype.specs.Filters.{add_range}
use Rattle.opentype.specs.Walks.{walk_below}
use Rattle.tables.specs.Views.{ranges_of}
use Rattle.adding.specs.Walked.{CarriedOut}
use Rattle.adding.proofs.gathering.Gathering.add_ranges.Given as goal

-- the ranges before i are walked
abbrev pub invariant-loop-i : goal.invariant-loop-i
invariant-loop-i l = CarriedOut (walk_below (add_range (ranges_of l.ranges) l.class) l.i) l.initial.self l.self (Ok tt)
