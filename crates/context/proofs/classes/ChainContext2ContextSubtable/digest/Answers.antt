use Rattle.std.proofs.Common.{Ok, rules}
use Rattle.opentype.specs.Subtables.{by_class, meaning}
use Rattle.opentype.proofs.Sounding.{filters_sound}
use Rattle.digest.specs.Allowances.{allowance_of}
use Rattle.bank.specs.Lawful.{digest_admits}
use Rattle.context.specs.Classes.{class_table_of}
use Rattle.context.proofs.classes.ChainContext2ContextSubtable.digest.Goals as goal

pub returns-clause-admits : goal.returns-clause-admits
returns-clause-admits c =
    let table = by_class (class_table_of c.args.self.now) in
    digest_admits (meaning table) (allowance_of c.args.budget.now) (Ok c.in_ok-seconds.field-0) (filters_sound table) (search rules)
