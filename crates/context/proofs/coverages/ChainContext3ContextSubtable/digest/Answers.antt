use Rattle.std.proofs.Common.{Ok, rules}
use Rattle.opentype.specs.Subtables.{by_coverage, meaning}
use Rattle.opentype.proofs.Sounding.{filters_sound}
use Rattle.digest.specs.Allowances.{allowance_of}
use Rattle.bank.specs.Lawful.{digest_admits}
use Rattle.context.specs.Coverages.{coverage_table_of}
use Rattle.context.proofs.coverages.ChainContext3ContextSubtable.digest.Goals as goal

pub returns-clause-admits : goal.returns-clause-admits
returns-clause-admits c =
    let table = by_coverage (coverage_table_of c.args.self.now) in
    digest_admits (meaning table) (allowance_of c.args.budget.now) (Ok c.in_ok-seconds.field-0) (filters_sound table) (search rules)
