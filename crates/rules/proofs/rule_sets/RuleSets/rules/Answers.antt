use Rattle.std.proofs.Common.{sym, arith}
use Rattle.rules.proofs.rule_sets.RuleSets.rules.Goals as goal

pub returns-in-Rules : goal.returns-in-Rules
returns-in-Rules g c = let there = sym c.in-Rules.ensures.rules in rw there (grind arith)
