use Rattle.std.proofs.Common.{rules, tests, refl}
use Rattle.opentype.specs.Matching.{set_applies}
use Rattle.rules.proofs.Tried.{asked_of}
use Rattle.rules.proofs.rule_sets.RuleSets.apply.Goals as goal

pub returns : goal.returns
returns g c =
    rw c.rules.ensures
    (asked_of g.F.Offset.Width.BYTES g.F.Value.Width.BYTES (set_applies (g.I.ValueMatch.means c.args.input.now) c.args.zero_context c.args.glyphs.now) refl
    c.rules.result c.is_some_and.result _ c.is_some_and.ensures (λ s h. search (rules, tests)))
