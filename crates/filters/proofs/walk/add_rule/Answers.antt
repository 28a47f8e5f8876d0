use Rattle.std.proofs.Common.{sym, ◌∙◌}
use Rattle.rules.specs.Views.{rule_of}
use Rattle.filters.proofs.Firsts.{by_input, by_lookahead}
use Rattle.filters.proofs.walk.add_rule.Goals as goal

pub returns-in-Some : goal.returns-in-Some
returns-in-Some g c =
    by_input (g.A.AddSecond.adding c.args.adding.now) (rule_of g.W.Width.BYTES c.args.rule.now)
    (sym c.iter.ensures ∙ c.in-Some.ensures.steps) c.add_input.ensures

pub returns : goal.returns
returns g c =
    let some = rw c.in_ok-value.ensures.ok_part at c.next-2.ensures.steps in
    by_lookahead (g.A.AddSecond.adding c.args.adding.now) (rule_of g.W.Width.BYTES c.args.rule.now)
    (sym c.iter.ensures ∙ c.in_default.ensures.steps.0) (sym c.iter-2.ensures ∙ some) c.add_lookahead.ensures
