use Rattle.std.proofs.Common.{◌≡◌}
use Rattle.std.specs.Option.{option_map}
use Rattle.opentype.specs.Filters.{add_rule}
use Rattle.rules.specs.Left.{rules_left}
use Rattle.rules.specs.Views.{rule_of}
use Rattle.adding.specs.declared.stop.Stop.TheVariants.{AnyGlyph}
use Rattle.readers.proofs.Giving.{gives}
use Rattle.adding.proofs.Turns.{stops, walks_on, walks_out, walks_all}
use Rattle.filters.proofs.walk.add_rules.Goals as goal

pub returns-in_err-ok_or : goal.returns-in_err-ok_or
returns-in_err-ok_or g c =
    let offset = g.F.Offset.Width.BYTES in
    let value = g.F.Value.Width.BYTES in
    let e = c.in_err-ok_or.ensures in
    let v = rw e.ok_part at e.value in
    let stop : c.in_err-ok_or.field-0.0 ≡ AnyGlyph = cc v in
    walks_out (gives (option_map (rule_of value)) (rules_left offset value) c.into_iter-rule-iterator.ensures.into_iter_gives c.iter-rule-items.ensures) c.loop-rule.yielded _ c.loop-rule.yielded_by
    c.next.new.self c.next.ensures.steps (add_rule (g.A.AddSecond.adding c.args.adding.now)) c.loop-rule.invariant c.in-Some.rule c.in-Some.is
    (rw (e.ok_part, stop) (stops c.loop-rule.gathering)) c.from_residual.ensures.1

pub returns-in_err-add_rule : goal.returns-in_err-add_rule
returns-in_err-add_rule g c =
    let offset = g.F.Offset.Width.BYTES in
    let value = g.F.Value.Width.BYTES in
    walks_out (gives (option_map (rule_of value)) (rules_left offset value) c.into_iter-rule-iterator.ensures.into_iter_gives c.iter-rule-items.ensures) c.loop-rule.yielded _ c.loop-rule.yielded_by
    c.next.new.self c.next.ensures.steps (add_rule (g.A.AddSecond.adding c.args.adding.now)) c.loop-rule.invariant c.in-Some.rule c.in-Some.is
    (rw c.in_ok-ok_or.ensures.ok_part c.in_err-add_rule.ensures) c.from_residual-in_err-add_rule.ensures.1

pub loop-rule-preserved : goal.loop-rule-preserved
loop-rule-preserved g c =
    let offset = g.F.Offset.Width.BYTES in
    let value = g.F.Value.Width.BYTES in
    walks_on (gives (option_map (rule_of value)) (rules_left offset value) c.into_iter-rule-iterator.ensures.into_iter_gives c.iter-rule-items.ensures) c.loop-rule.yielded _ c.loop-rule.yielded_by
    c.next.new.self c.next.ensures.steps (add_rule (g.A.AddSecond.adding c.args.adding.now)) c.loop-rule.invariant c.in-Some.rule c.in-Some.is
    (rw c.in_ok-ok_or.ensures.ok_part c.in_ok-add_rule.ensures)

pub returns : goal.returns
returns g c =
    let offset = g.F.Offset.Width.BYTES in
    let value = g.F.Value.Width.BYTES in
    walks_all (gives (option_map (rule_of value)) (rules_left offset value) c.into_iter-rule-iterator.ensures.into_iter_gives c.iter-rule-items.ensures) c.loop-rule.yielded _ c.loop-rule.yielded_by
    c.next.new.self c.next.ensures.steps (add_rule (g.A.AddSecond.adding c.args.adding.now)) c.loop-rule.invariant c.in-None.is
