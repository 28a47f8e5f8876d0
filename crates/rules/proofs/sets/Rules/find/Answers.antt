use Rattle.std.proofs.Common.{ℕ, List, Option, rules, tests}
use Rattle.std.specs.Option.{option_map}
use Rattle.opentype.specs.Matching.{rule_finds}
use Rattle.opentype.specs.Rules.{rule_in}
use Rattle.rules.specs.Left.{parts_left}
use Rattle.rules.specs.Views.{found_of, matchers_of, parts_of}
use Rattle.rules.proofs.Entries.{first_from_find_map}
use Rattle.rules.proofs.sets.Rules.find.Goals as goal

pub returns : goal.returns
returns g c =
    let s = c.args.self.now in
    let told = λ (p : Option (List ℕ)). rule_finds (matchers_of g.B.ValueMatch.means g.I.ValueMatch.means g.L.ValueMatch.means c.args.matchers.now) c.args.run.now c.args.place (rule_in s.layout.chained g.F.Value.Width.BYTES s.layout.whole p) in
    first_from_find_map (option_map (λ x. x.now)) (parts_left g.F.Offset.Width.BYTES) found_of told (parts_of g.F.Offset.Width.BYTES s) _ _
    (λ x b q k. search (rules, tests)) c.find_map.result c.find_map.ensures.runs c.parts.ensures
