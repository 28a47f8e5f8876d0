use Rattle.std.proofs.Common.{◌-◌, ◌≤◌}
use Rattle.opentype.specs.Search.{searched}
use Rattle.tables.proofs.Searching.{Left}
use Rattle.tables.proofs.search.find.Given as goal

abbrev pub invariant-loop-low : goal.invariant-loop-low
invariant-loop-low g l =
    let r = g.R.Ranges in
    (l.high ≤ r.size l.ranges)
    × Left (r.starts l.ranges) (r.ends l.ranges) l.glyph l.low l.high
    (searched (r.starts l.ranges) (r.ends l.ranges) (r.size l.ranges) l.glyph)

abbrev pub decreases-loop-low : goal.decreases-loop-low
decreases-loop-low g l = l.high - l.low
