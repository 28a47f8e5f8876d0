-- Questions to all subtables of a bank.
-- Assumes nothing.
use Rattle.std.specs.Prelude.{◌≡◌, ℕ, ◌<◌, Bool, true, List, length, Some, None, Option, MatchOption}
use Rattle.answers.specs.declared.hit.Hit.{Hit}
use Rattle.opentype.specs.Matching.{Found, any_below, first_below}
use Rattle.opentype.specs.Meaning.{Subtable, subtable}
use Rattle.bank.specs.Answers.{hit_of, told}

module _ (bank : List Subtable) (glyphs : List ℕ) (bare : Bool) where
  -- would some subtable apply?
  abbrev pub some_applies : Bool
  some_applies = any_below (λ k. (subtable bank k).matching.applies glyphs bare) (length bank)

  -- a subtable k of the bank would
  abbrev pub SomeApplies : Type 0
  SomeApplies = (k : ℕ) × (k < length bank) × ((subtable bank k).matching.applies glyphs bare ≡ true)

module _ (bank : List Subtable) (run : List ℕ) (place : ℕ) where
  -- the hit of the first subtable that matches at the place
  abbrev pub first_hit : Option Hit
  first_hit = first_below (λ k. hit_of (subtable bank k) k run place) (length bank)

  -- a subtable k of the bank matches at the place, this is its hit, and no subtable before it matches there
  abbrev pub IsFirst : Hit → Type 0
  IsFirst hit = (k : ℕ) × (f : Found) × (k < length bank) × ((subtable bank k).matching.finds run place ≡ Some f)
      × (hit ≡ told place k f) × ((j : ℕ) → j < k → (subtable bank j).matching.finds run place ≡ None)

  -- a hit is the first; where there is none, no subtable matches
  abbrev pub FirstOrNone : Option Hit → Type 0
  FirstOrNone answer = MatchOption answer ((k : ℕ) → k < length bank → (subtable bank k).matching.finds run place ≡ None) IsFirst
