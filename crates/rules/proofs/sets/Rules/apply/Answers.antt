use Rattle.std.proofs.Common.{ℕ, List, Option, ◌∙◌, rules, tests}
use Rattle.std.specs.Option.{option_map}
use Rattle.std.proofs.lemmas.Iterator.Consumers.{YieldsList-from_first}
use Rattle.std.proofs.lemmas.Iterator.Search.{any_from_yields_List}
use Rattle.opentype.specs.Matching.{rule_applies}
use Rattle.opentype.specs.Rules.{rule_in}
use Rattle.readers.specs.Views.{entries}
use Rattle.rules.specs.Left.{parts_left}
use Rattle.rules.specs.Views.{parts_of}
use Rattle.rules.proofs.Entries.{any_entries}
use Rattle.rules.proofs.sets.Rules.apply.Goals as goal

pub returns : goal.returns
returns g c =
    let s = c.args.self.now in
    let test = λ (p : Option (List ℕ)). rule_applies (g.I.ValueMatch.means c.args.input.now) c.args.zero_context c.args.glyphs.now (rule_in s.layout.chained g.F.Value.Width.BYTES s.layout.whole p) in
    let all = parts_of g.F.Offset.Width.BYTES s in
    any_from_yields_List test c.any.new.self _ _ c.any.ensures.ran
    (YieldsList-from_first (option_map (λ x. x.now)) (parts_left g.F.Offset.Width.BYTES) (entries all) c.parts.ensures)
    (λ x b q k. search (rules, tests))
    ∙ any_entries test all
