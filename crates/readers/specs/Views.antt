-- What views of numbers and of child tables stand for.
-- Assumes nothing.
use Rattle.std.specs.Prelude.{ℕ, ◌+◌, ◌-◌, ◌*◌, ◌&&◌, List, map, length, Option, nat_le, nat_lt}
use Rattle.std.specs.Bool.{then_some}
use Rattle.std.specs.List.{range_with_len}
use Rattle.opentype.specs.Bytes.{Array, number, numbers, each, child_at}
use Rattle.readers.specs.declared.uints.Uints.{Uints}
use Rattle.readers.specs.declared.uints.Offsets.{Offsets}

-- the numbers, of `width` bytes each
abbrev pub uints_of : (width : ℕ) → Uints → Array ℕ
uints_of width u = numbers width u.bytes.now u.start u.count

-- a view by its parts: the bytes, where its numbers start, and how many there are
abbrev pub parts_of : Uints → List ℕ × ℕ × ℕ
parts_of u = (u.bytes.now, u.start, u.count)

-- The entries of `width` bytes behind a count of two bytes at `place`, `less` fewer than it says, by their parts: none
-- where the count or the entries pass the end, or the entries start at a place past 32 bits.
abbrev pub counted_at : (width : ℕ) → List ℕ → (place less : ℕ) → Option (List ℕ × ℕ × ℕ)
counted_at width xs place less =
    then_some (nat_lt (place + 2) 4294967296 && nat_le (place + 2 + width * (number 2 xs place - less)) (length xs))
    (xs, place + 2, number 2 xs place - less)

-- the child tables, by offsets of `width` bytes each
abbrev pub children_of : (width : ℕ) → Offsets → Array (Option (List ℕ))
children_of width o = each (child_at o.bytes.now) (uints_of width o.offsets)

-- the entries of an array from `at` on, in order
abbrev pub entries_from : {X : Type 0} → (at : ℕ) → Array X → List X
entries_from at a = map a.entry (range_with_len at (a.count - at))

-- all of them
abbrev pub entries : {X : Type 0} → Array X → List X
entries a = entries_from 0 a
