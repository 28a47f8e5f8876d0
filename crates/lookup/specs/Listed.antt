-- What a list of subtables means.
-- Assumes nothing.
use Rattle.std.specs.Prelude.{List, map, Some, None, Option}
use Rattle.std.specs.Borrow.{Bor}
use Rattle.opentype.specs.Meaning.{Subtable as Meant, past_last}
use Rattle.context.specs.Meanings.{meaning_of}
use Rattle.context.specs.declared.subtable.Subtable.{Subtable}

abbrev pub meanings : List Subtable → List Meant
meanings subtables = map meaning_of subtables

-- what a subtable that was looked up means: past the last where there is none
abbrev pub meant : Option (Bor Subtable) → Meant
meant None = past_last
meant (Some s) = meaning_of s.now
