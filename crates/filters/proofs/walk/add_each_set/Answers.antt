use Rattle.opentype.specs.Filters.{add_set}
use Rattle.rules.specs.Left.{sets_left}
use Rattle.rules.specs.Views.{rule_set_of}
use Rattle.readers.proofs.Giving.{gives}
use Rattle.adding.proofs.Turns.{walks_on, walks_out, walks_all}
use Rattle.filters.proofs.walk.add_each_set.Goals as goal

pub returns-in_err-add_set : goal.returns-in_err-add_set
returns-in_err-add_set g c =
    let set = g.F.Set.Width.BYTES in
    let offset = g.F.Offset.Width.BYTES in
    let value = g.F.Value.Width.BYTES in
    walks_out (gives (rule_set_of offset value) (sets_left set offset value) c.into_iter-set-iterator.ensures.into_iter_gives c.iter-set-items.ensures) c.loop-set.yielded _ c.loop-set.yielded_by
    c.next.new.self c.next.ensures.steps (add_set (g.A.AddSecond.adding c.args.adding.now)) c.loop-set.invariant c.in-Some.set c.in-Some.is
    c.in_err-add_set.ensures c.from_residual.ensures.1

pub loop-set-preserved : goal.loop-set-preserved
loop-set-preserved g c =
    let set = g.F.Set.Width.BYTES in
    let offset = g.F.Offset.Width.BYTES in
    let value = g.F.Value.Width.BYTES in
    walks_on (gives (rule_set_of offset value) (sets_left set offset value) c.into_iter-set-iterator.ensures.into_iter_gives c.iter-set-items.ensures) c.loop-set.yielded _ c.loop-set.yielded_by
    c.next.new.self c.next.ensures.steps (add_set (g.A.AddSecond.adding c.args.adding.now)) c.loop-set.invariant c.in-Some.set c.in-Some.is
    c.in_ok-add_set.ensures

pub returns : goal.returns
returns g c =
    let set = g.F.Set.Width.BYTES in
    let offset = g.F.Offset.Width.BYTES in
    let value = g.F.Value.Width.BYTES in
    walks_all (gives (rule_set_of offset value) (sets_left set offset value) c.into_iter-set-iterator.ensures.into_iter_gives c.iter-set-items.ensures) c.loop-set.yielded _ c.loop-set.yielded_by
    c.next.new.self c.next.ensures.steps (add_set (g.A.AddSecond.adding c.args.adding.now)) c.loop-set.invariant c.in-None.is
