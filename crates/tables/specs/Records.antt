-- The records of a view, one by one.
-- Assumes nothing.
use Rattle.std.specs.Prelude.{ℕ, List}
use Rattle.opentype.specs.Bytes.{Array}
use Rattle.opentype.specs.Ranges.{Ranges}
use Rattle.readers.specs.Views.{entries_from}
use Rattle.readers.specs.declared.each.Each.{Each}
use Rattle.tables.specs.Views.{ranges_of}
use Rattle.tables.specs.declared.ranges.RangeRecord.{RangeRecord}
use Rattle.tables.specs.declared.ranges.RangeRecords.{RangeRecords}

abbrev pub record_at : Ranges → (index : ℕ) → RangeRecord
record_at r i = record { start = r.start i; end = r.end i; value = r.value i }

abbrev pub records_of : Ranges → Array RangeRecord
records_of r = record { count = r.count; entry = record_at r }

-- what an iterator of records has left
abbrev pub left_of : Each RangeRecords → List RangeRecord
left_of s = entries_from s.at (records_of (ranges_of s.view))
