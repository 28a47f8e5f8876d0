-- The byte ranges in which the parts of a wide subtable lie.
use Rattle.std.specs.Prelude.{ℕ, ◌+◌, Bool, List, Ok, Result}
use Rattle.opening.specs.declared.wide.ByteRange.{ByteRange}
use Rattle.opening.specs.declared.wide.WideParts.{WideParts}
use Rattle.opening.specs.declared.wide.WideParts.TheVariants as parts
use Rattle.words.specs.Numbers.{range_in}
use Rattle.words.specs.declared.fault.Fault.{Fault}
use Rattle.arguments.specs.Counts.{and_then, exactly, first_two, next_word}
use Rattle.arguments.specs.Kinds.{kind_in, range_count}
use Rattle.arguments.specs.declared.kinds.WideKind.{WideKind}
use Rattle.arguments.specs.declared.kinds.WideKind.TheVariants.{Glyphs, PlainClasses, ChainedClasses, Coverages}

-- the first word as a range, with the words after it
abbrev pub next_range : List (List ℕ) → Result (ByteRange × List (List ℕ)) Fault
next_range ws =
    and_then (next_word ws) (λ p. and_then (range_in p.0) (λ ends. Ok (record { start = ends.0; end = ends.1 }, p.1)))

abbrev pub glyph_parts : Bool → List (List ℕ) → Result WideParts Fault
glyph_parts chained ws =
    and_then (next_range ws) (λ coverage. and_then (next_range coverage.1) (λ sets. Ok (parts.Glyphs chained coverage.0 sets.0)))

abbrev pub plain_class_parts : List (List ℕ) → Result WideParts Fault
plain_class_parts ws =
    and_then (next_range ws) (λ coverage. and_then (next_range coverage.1) (λ input. and_then (next_range input.1) (λ sets. Ok (parts.PlainClasses coverage.0 input.0 sets.0))))

abbrev pub chained_class_parts : List (List ℕ) → Result WideParts Fault
chained_class_parts ws =
    and_then (next_range ws) (λ coverage. and_then (next_range coverage.1) (λ back. and_then (next_range back.1) (λ input. and_then (next_range input.1) (λ look. and_then (next_range look.1) (λ sets. Ok (parts.ChainedClasses coverage.0 back.0 input.0 look.0 sets.0))))))

abbrev pub coverage_parts : List (List ℕ) → Result WideParts Fault
coverage_parts ws =
    and_then (next_range ws) (λ offsets. and_then (next_range offsets.1) (λ records. Ok (parts.Coverages offsets.0 records.0)))

-- the ranges of a kind, in their order
abbrev pub parts_by : WideKind → List (List ℕ) → Result WideParts Fault
parts_by (Glyphs chained) ws = glyph_parts chained ws
parts_by PlainClasses ws = plain_class_parts ws
parts_by ChainedClasses ws = chained_class_parts ws
parts_by Coverages ws = coverage_parts ws

-- the word of a wide subtable, behind its kind and before its ranges
abbrev pub wide_of : WideKind → List (List ℕ) → Result (List ℕ × WideParts) Fault
wide_of kind ws =
    and_then (exactly (range_count kind + 1) ws) (λ _. and_then (next_word ws) (λ table. and_then (parts_by kind table.1) (λ ranges. Ok (table.0, ranges))))

abbrev pub open_wide_of : List (List ℕ) → Result (List ℕ × WideParts) Fault
open_wide_of ws = and_then (first_two ws) (λ p. and_then (kind_in p.0.0 p.0.1) (λ kind. wide_of kind p.1))
