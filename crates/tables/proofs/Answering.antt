-- What the search of a coverage table gives is what OpenType says.
-- Assumes nothing.
use Rattle.std.proofs.Common.{◌≡◌, ℕ, Option}
use Rattle.opentype.proofs.Relating.{coverage_answers}
use Rattle.opentype.specs.Coverages.{Coverage, index_in}
use Rattle.tables.specs.Tables.{CoverageAnswers}

pub coverage_answered : (c : Coverage) (glyph : ℕ) {answer : Option ℕ} → answer ≡ index_in c glyph → CoverageAnswers c glyph answer
coverage_answered c glyph is = rw is (λ order index. coverage_answers c glyph index order)
