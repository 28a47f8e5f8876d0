-- What views of rules and rule sets stand for.
-- Assumes nothing.
use Rattle.std.specs.Prelude.{ℕ, Bool, List, length, Some, None, Option}
use Rattle.opentype.specs.Bytes.{Array, each, empty, tail_at}
use Rattle.opentype.specs.Headers.{sets_at}
use Rattle.opentype.specs.Matching.{ChainMatchers as Matchers, Found as Told}
use Rattle.opentype.specs.Rules.{Rule, RuleSet as Set, Sets, null, unreadable, rules, rule_in, rule_set_at}
use Rattle.readers.specs.Views.{uints_of}
use Rattle.rules.specs.declared.parsed.ParsedRule.{ParsedRule}
use Rattle.rules.specs.declared.parsed.RuleLayout.{RuleLayout}
use Rattle.rules.specs.declared.walk.ChainMatchers.{ChainMatchers}
use Rattle.rules.specs.declared.walk.Found.{Found}
use Rattle.rules.specs.declared.rule_sets.RuleSets.{RuleSets}
use Rattle.rules.specs.declared.sets.Rules.{Rules}
use Rattle.rules.specs.declared.sets.RuleSet.{RuleSet}
use Rattle.rules.specs.declared.sets.RuleSet.TheVariants as variants

-- a rule, its values of `width` bytes each
abbrev pub rule_of : {W : Type 0} → (width : ℕ) → ParsedRule W → Rule ℕ
rule_of width r = record {
  backtrack = uints_of width r.backtrack;
  input = uints_of width r.input;
  lookahead = uints_of width r.lookahead;
  records = r.records;
  record_count = r.record_count;
}

-- the bytes of each rule of a set, by offsets of `width` bytes each
abbrev pub parts_of : {F : Type 0} → (width : ℕ) → Rules F → Array (Option (List ℕ))
parts_of width s = each (tail_at s.bytes.now) (uints_of width s.offsets)

abbrev pub set_of : {F : Type 0} → (width : ℕ) → RuleSet F → Set (Option (List ℕ))
set_of width variants.Null = null
set_of width variants.Unreadable = unreadable
set_of width (variants.Rules s) = rules (parts_of width s)

-- the rules of a set, with values of `value` bytes each
abbrev pub rules_of : {F : Type 0} → (offset value : ℕ) → Rules F → Array (Option (Rule ℕ))
rules_of offset value s = each (rule_in s.layout.chained value s.layout.whole) (parts_of offset s)

-- a set with its rules
abbrev pub rule_set_of : {F : Type 0} → (offset value : ℕ) → RuleSet F → Set (Option (Rule ℕ))
rule_set_of offset value variants.Null = null
rule_set_of offset value variants.Unreadable = unreadable
rule_set_of offset value (variants.Rules s) = rules (rules_of offset value s)

-- the rules that are tried: none where there is no set to try
abbrev pub tried_of : {F : Type 0} → (offset value : ℕ) → Option (Rules F) → Array (Option (Rule ℕ))
tried_of offset value None = empty None
tried_of offset value (Some s) = rules_of offset value s

-- what a rule tells of a hit
abbrev pub found_of : Found → Told
found_of f = record { length = f.length; records = f.records; record_count = f.record_count }

-- how values match, by what each of the three means
abbrev pub matchers_of : {B I L : Type 0} → (B → ℕ → ℕ → Bool) → (I → ℕ → ℕ → Bool) → (L → ℕ → ℕ → Bool) → ChainMatchers B I L → Matchers ℕ
matchers_of backtrack input lookahead m = record {
  backtrack = backtrack m.backtrack;
  input = input m.input;
  lookahead = lookahead m.lookahead;
}

abbrev pub layout_of : {F : Type 0} → RuleSets F → RuleLayout
layout_of s = record { chained = s.chained; whole = length s.bytes.now }

-- the sets of a subtable, each by the bytes of its rules
abbrev pub parts_in : {F : Type 0} → (set offset : ℕ) → RuleSets F → Array (Set (Option (List ℕ)))
parts_in set offset s = each (rule_set_at offset s.bytes.now) (uints_of set s.offsets)

-- the same with their rules
abbrev pub sets_of : {F : Type 0} → (set offset value : ℕ) → RuleSets F → Sets ℕ
sets_of set offset value s = sets_at (record { chained = s.chained; value = value; offset = offset }) s.bytes.now (uints_of set s.offsets)
