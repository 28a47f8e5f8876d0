use Rattle.std.proofs.Common.{◌<◌, arith}
use Rattle.opentype.specs.Filters.{add_range}
use Rattle.tables.specs.Views.{ranges_of}
use Rattle.adding.proofs.Turns.{goes_on, goes_out}
use Rattle.adding.proofs.gathering.Gathering.add_ranges.Goals as goal

pub returns-in_err-add_range : goal.returns-in_err-add_range
returns-in_err-add_range c =
    let all = ranges_of c.args.ranges.now in
    let within : c.loop-i.i < all.count = omega arith in
    goes_out (add_range all c.args.class) c.loop-i.i c.loop-i.invariant all.count within _ _ c.in_err-add_range.ensures c.from_residual.ensures.1

pub loop-i-preserved : goal.loop-i-preserved
loop-i-preserved c =
    goes_on (add_range (ranges_of c.args.ranges.now) c.args.class) c.loop-i.i c.loop-i.invariant c.in_ok-add_range.ensures
