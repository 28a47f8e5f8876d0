-- What a view of a glyph subtable stands for.
-- Assumes nothing.
use Rattle.std.specs.Prelude.{ℕ}
use Rattle.opentype.specs.Matching.{ChainMatchers}
use Rattle.opentype.specs.Rules.{Sets}
use Rattle.opentype.specs.Subtables.{ByGlyph, same}
use Rattle.rules.specs.Views.{sets_of}
use Rattle.tables.specs.Tables.{coverage_of}
use Rattle.context.specs.declared.glyphs.ChainContext1.{ChainContext1}
use Rattle.context.specs.declared.glyphs.GlyphSets.{GlyphSets}
use Rattle.context.specs.declared.glyphs.GlyphSets.TheVariants.{Narrow, Wide, WideChained}

-- set offsets, rule offsets and values have two bytes, in the wide kind three, save the rule offsets of plain ones
abbrev pub glyph_sets : GlyphSets → Sets ℕ
glyph_sets (Narrow s) = sets_of 2 2 2 s
glyph_sets (Wide s) = sets_of 3 2 3 s
glyph_sets (WideChained s) = sets_of 3 3 3 s

abbrev pub glyph_table : ChainContext1 → ByGlyph
glyph_table v = record { first = coverage_of v.coverage; sets = glyph_sets v.sets }

abbrev pub same_glyphs : ChainMatchers ℕ
same_glyphs = record { backtrack = same; input = same; lookahead = same }
