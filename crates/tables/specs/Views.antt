-- What a view of range records stands for.
-- Assumes nothing.
use Rattle.std.specs.Prelude.{ℕ, List}
use Rattle.opentype.specs.Ranges.{Ranges, ranges_at}
use Rattle.tables.specs.declared.ranges.RangeRecords.{RangeRecords}

-- the ranges of a view's records, of six bytes each
abbrev pub ranges_of : RangeRecords → Ranges
ranges_of r = ranges_at r.bytes.now r.start r.count

abbrev pub record_parts_of : RangeRecords → List ℕ × ℕ × ℕ
record_parts_of r = (r.bytes.now, r.start, r.count)
