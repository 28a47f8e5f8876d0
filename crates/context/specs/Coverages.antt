-- What a view of a coverage subtable stands for.
-- Assumes nothing.
use Rattle.std.specs.Prelude.{ℕ, List}
use Rattle.opentype.specs.Coverages.{Coverage, covers}
use Rattle.opentype.specs.Headers.{coverages_at}
use Rattle.opentype.specs.Matching.{ChainMatchers}
use Rattle.opentype.specs.Rules.{Rule}
use Rattle.opentype.specs.Subtables.{ByCoverage}
use Rattle.rules.specs.Views.{rule_of}
use Rattle.tables.specs.Tables.{coverage_of}
use Rattle.context.specs.declared.coverages.ChainContext3.{ChainContext3}
use Rattle.context.specs.declared.coverages.CoverageRule.{CoverageRule}
use Rattle.context.specs.declared.coverages.CoverageRule.TheVariants.{Narrow, Wide}

-- a rule over offsets of coverage tables as one over the tables
abbrev pub coverage_rule : List ℕ → Rule ℕ → Rule Coverage
coverage_rule xs r = record {
  backtrack = coverages_at xs r.backtrack;
  input = coverages_at xs r.input;
  lookahead = coverages_at xs r.lookahead;
  records = r.records;
  record_count = r.record_count;
}

-- offsets have two bytes, save in the wide kind
abbrev pub offsets_rule : CoverageRule → Rule ℕ
offsets_rule (Narrow r) = rule_of 2 r
offsets_rule (Wide r) = rule_of 3 r

abbrev pub coverage_table_of : ChainContext3 → ByCoverage
coverage_table_of v = record {
  first = coverage_of v.coverage;
  rule = coverage_rule v.bytes.now (offsets_rule v.rule);
}

abbrev pub cover_matchers : ChainMatchers Coverage
cover_matchers = record { backtrack = covers; input = covers; lookahead = covers }
