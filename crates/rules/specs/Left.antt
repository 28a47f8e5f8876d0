-- What iterators over rules and rule sets have left.
-- Assumes nothing.
use Rattle.std.specs.Prelude.{ℕ, List, Option}
use Rattle.opentype.specs.Rules.{Rule, RuleSet}
use Rattle.readers.specs.Views.{entries_from}
use Rattle.readers.specs.declared.each.Each.{Each}
use Rattle.rules.specs.Views.{parts_of, rules_of, sets_of}
use Rattle.rules.specs.declared.iter.Parts.{Parts}
use Rattle.rules.specs.declared.rule_sets.RuleSets.{RuleSets}
use Rattle.rules.specs.declared.sets.Rules.{Rules}

abbrev pub parts_left : {F : Type 0} → (offset : ℕ) → Each (Parts F) → List (Option (List ℕ))
parts_left offset it = entries_from it.at (parts_of offset (it.view).0)

abbrev pub rules_left : {F : Type 0} → (offset value : ℕ) → Each (Rules F) → List (Option (Rule ℕ))
rules_left offset value it = entries_from it.at (rules_of offset value it.view)

abbrev pub sets_left : {F : Type 0} → (set offset value : ℕ) → Each (RuleSets F) → List (RuleSet (Option (Rule ℕ)))
sets_left set offset value it = entries_from it.at (sets_of set offset value it.view)
