use Rattle.std.proofs.Common.{◌≡◌, rules}
use Rattle.opentype.specs.Coverages.{index_in}
use Rattle.tables.specs.Tables.{coverage_of}
use Rattle.tables.proofs.Answering.{coverage_answered}
use Rattle.tables.proofs.coverage.Coverage.get.Goals as goal

pub returns-in-Ranges : goal.returns-in-Ranges
returns-in-Ranges c =
    let is : c.index_in_ranges.result ≡ index_in (coverage_of c.args.self.now) c.args.glyph = search rules in
    record { value = is; answers = coverage_answered (coverage_of c.args.self.now) c.args.glyph is }
