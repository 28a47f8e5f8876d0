use Rattle.std.proofs.Common.{Ok, rules}
use Rattle.opentype.specs.Subtables.{by_glyph, meaning}
use Rattle.opentype.proofs.Sounding.{filters_sound}
use Rattle.digest.specs.Allowances.{allowance_of}
use Rattle.bank.specs.Lawful.{digest_admits}
use Rattle.context.specs.Glyphs.{glyph_table}
use Rattle.context.proofs.glyphs.ChainContext1ContextSubtable.digest.Goals as goal

pub returns-clause-admits : goal.returns-clause-admits
returns-clause-admits c =
    let table = by_glyph (glyph_table c.args.self.now) in
    digest_admits (meaning table) (allowance_of c.args.budget.now) (Ok c.in_ok-seconds.field-0) (filters_sound table) (search rules)
