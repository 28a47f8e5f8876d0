-- What a subtable of any kind stands for.
-- Assumes nothing.
use Rattle.opentype.specs.Meaning as meant
use Rattle.opentype.specs.Subtables.{Table, by_glyph, by_class, by_coverage, meaning}
use Rattle.context.specs.Classes.{class_table_of}
use Rattle.context.specs.Coverages.{coverage_table_of}
use Rattle.context.specs.Glyphs.{glyph_table}
use Rattle.context.specs.declared.subtable.Subtable.{Subtable}
use Rattle.context.specs.declared.subtable.Subtable.TheVariants.{Glyphs, Classes, Coverages}

abbrev pub table_of : Subtable → Table
table_of (Glyphs v) = by_glyph (glyph_table v)
table_of (Classes v) = by_class (class_table_of v)
table_of (Coverages v) = by_coverage (coverage_table_of v)

-- what it means to those who match and filter by it
abbrev pub meaning_of : Subtable → meant.Subtable
meaning_of s = meaning (table_of s)
