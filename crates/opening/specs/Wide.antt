-- What named ranges stand for.
-- Assumes nothing.
use Rattle.std.specs.Prelude.{ℕ, List}
use Rattle.opentype.specs.Headers.{Range, offsets_count, offsets_start, WideParts as Parts, wide_glyph_parts, wide_plain_class_parts, wide_chained_class_parts, wide_coverage_parts}
use Rattle.opening.specs.declared.wide.ByteRange.{ByteRange}
use Rattle.opening.specs.declared.wide.WideParts.{WideParts}
use Rattle.opening.specs.declared.wide.WideParts.TheVariants.{Glyphs, PlainClasses, ChainedClasses, Coverages}

abbrev pub range_of : ByteRange → Range
range_of r = record { start = r.start; end = r.end }

-- the whole offsets of three bytes in a range, by their bytes, start and count
abbrev pub offset_parts : List ℕ → ByteRange → List ℕ × ℕ × ℕ
offset_parts xs r = (xs, offsets_start xs (range_of r), offsets_count xs (range_of r))

abbrev pub parts_of : WideParts → Parts
parts_of (Glyphs chained coverage sets) = wide_glyph_parts chained (range_of coverage) (range_of sets)
parts_of (PlainClasses coverage input sets) = wide_plain_class_parts (range_of coverage) (range_of input) (range_of sets)
parts_of (ChainedClasses coverage backtrack input lookahead sets) =
    wide_chained_class_parts (range_of coverage) (range_of backtrack) (range_of input) (range_of lookahead) (range_of sets)
parts_of (Coverages offsets records) = wide_coverage_parts (range_of offsets) (range_of records)
