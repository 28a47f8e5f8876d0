-- What a view of a class subtable stands for.
-- Assumes nothing.
use Rattle.std.specs.Prelude.{ℕ, Option}
use Rattle.opentype.specs.Bytes.{Array}
use Rattle.opentype.specs.Matching.{ChainMatchers}
use Rattle.opentype.specs.Rules.{RuleSet, Sets}
use Rattle.opentype.specs.Subtables.{ByClass, in_class}
use Rattle.rule_words.specs.Fills.{firsts_of}
use Rattle.rules.specs.Views.{sets_of}
use Rattle.tables.specs.Tables.{classes_of, coverage_of}
use Rattle.context.specs.declared.classes.ChainContext2.{ChainContext2}
use Rattle.context.specs.declared.classes.ClassSets.{ClassSets}
use Rattle.context.specs.declared.classes.ClassSets.TheVariants.{Narrow, Wide}

-- values have two bytes, and so have set and rule offsets, save in the wide kind
abbrev pub class_sets : ClassSets → Sets ℕ
class_sets (Narrow s) = sets_of 2 2 2 s
class_sets (Wide s) = sets_of 3 3 2 s

-- the same with the first input of each rule
abbrev pub class_firsts : ClassSets → Array (RuleSet (Option ℕ))
class_firsts (Narrow s) = firsts_of 2 2 s
class_firsts (Wide s) = firsts_of 3 3 s

abbrev pub class_table_of : ChainContext2 → ByClass
class_table_of v = record {
  first = coverage_of v.coverage;
  backtrack = classes_of v.backtrack;
  input = classes_of v.input;
  lookahead = classes_of v.lookahead;
  sets = class_sets v.sets;
  firsts = class_firsts v.sets;
}

abbrev pub in_classes : ChainContext2 → ChainMatchers ℕ
in_classes v = record { backtrack = in_class (classes_of v.backtrack); input = in_class (classes_of v.input); lookahead = in_class (classes_of v.lookahead) }
