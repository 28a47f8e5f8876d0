-- What views of coverage and class tables stand for, and what they answer.
-- Assumes nothing.
use Rattle.std.specs.Prelude.{◌≡◌, ℕ, Some, Option, ◌≢◌}
use Rattle.opentype.specs.Classes.{Classes, no_classes, class_array, class_ranges}
use Rattle.opentype.specs.Coverages.{Coverage as CoverageTable, no_coverage, glyph_list, glyph_ranges}
use Rattle.opentype.specs.Relations.{CoverageInOrder, CoveredAt, ClassesInOrder, ListedIn}
use Rattle.readers.specs.Views.{uints_of}
use Rattle.tables.specs.Views.{ranges_of}
use Rattle.tables.specs.declared.class.ClassDef.{ClassDef}
use Rattle.tables.specs.declared.class.ClassDef.TheVariants as class
use Rattle.tables.specs.declared.coverage.Coverage.{Coverage}
use Rattle.tables.specs.declared.coverage.Coverage.TheVariants as coverage

-- the glyphs and classes have two bytes each
abbrev pub coverage_of : Coverage → CoverageTable
coverage_of coverage.Missing = no_coverage
coverage_of (coverage.Glyphs u) = glyph_list (uints_of 2 u)
coverage_of (coverage.Ranges r) = glyph_ranges (ranges_of r)

abbrev pub classes_of : ClassDef → Classes
classes_of class.Missing = no_classes
classes_of (class.Array start u) = class_array start (uints_of 2 u)
classes_of (class.Ranges r) = class_ranges (ranges_of r)

-- in a table in order, the answer is the index at which the glyph is covered, if there is one
abbrev pub CoverageAnswers : CoverageTable → (glyph : ℕ) → (answer : Option ℕ) → Type 0
CoverageAnswers c glyph answer = CoverageInOrder c → (index : ℕ)
    → (answer ≡ Some index → CoveredAt c glyph index) × (CoveredAt c glyph index → answer ≡ Some index)

-- in a table in order, the answer is a class other than 0 exactly where the table gives the glyph that class
abbrev pub ClassAnswers : Classes → (glyph answer : ℕ) → Type 0
ClassAnswers t glyph answer = ClassesInOrder t → (class : ℕ) → (class ≢ 0)
    → (answer ≡ class → ListedIn t glyph class) × (ListedIn t glyph class → answer ≡ class)
