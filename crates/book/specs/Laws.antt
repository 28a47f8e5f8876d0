-- What filters promise, in words of places and subtables: nothing here looks into a slot.
-- Assumes nothing.
use Rattle.std.specs.Prelude.{◌≡◌, ℕ, ◌+◌, ◌<◌, ◌≤◌, Bool, true, not, ◌&&◌, List, length, get_or, Some, nat_lt, slice_index, slice_index_or}
use Rattle.answers.specs.declared.hit.Hit.{Hit}
use Rattle.bank.specs.Answers.{hit_of}
use Rattle.bank.specs.Searches.{IsFirst, first_hit, some_applies}
use Rattle.opentype.specs.Masks.{admits}
use Rattle.opentype.specs.Matching.{Found}
use Rattle.opentype.specs.Meaning.{Bank, Subtable, subtable}
use Rattle.book.specs.Scans.{applies_in, count_until, hits_in, list_below, sum_below, tries_in}
use Rattle.book.specs.Slots.{Kept, is_held, slot_at}
use Rattle.book.specs.declared.slots.Slot.{Slot}

-- ---- complete

-- what is read past the last hit of a list; it is never asked for
abbrev pub no_hit : Hit
no_hit = record { place = 0; subtable = 0; length = 0; records = 0; record_count = 0 }

-- The hits are in order of place; each is the hit of the first subtable that matches at its place; and every place of the
-- run where some subtable matches is among them.
pub record Listed (bank : List Subtable) (run : List ℕ) (hits : List Hit) : Type 0 where
  pub in_order : (i j : ℕ) → i < j → j < length hits → (get_or hits i no_hit).place < (get_or hits j no_hit).place
  pub in_run : (i : ℕ) → i < length hits → (get_or hits i no_hit).place < length run
  pub first : (i : ℕ) → i < length hits → IsFirst bank run (get_or hits i no_hit).place (slice_index_or hits i no_hit)
  pub every : (place k : ℕ) (f : Found) → place < length run → k < length bank → (subtable bank k).matching.finds run place ≡ Some f
      → (i : ℕ) × (i < length hits) × ((get_or hits i no_hit).place ≡ place)

-- the first hits of all places of a run
abbrev pub hits_of : List Subtable → (run : List ℕ) → List Hit
hits_of bank run = list_below (first_hit bank run) (length run)

-- ---- the try rule

-- A subtable is skipped at a place where its filter is held and does not admit the next glyph; never at the last place.
abbrev pub skipped : List Subtable → (held : ℕ → Bool) → (run : List ℕ) → (place k : ℕ) → Bool
skipped bank held run place k =
    held k && (nat_lt (place + 1) (length run) && not (admits (subtable bank k).filter.masks (slice_index run (place + 1))))

-- The tries in a run: at every place each subtable that is not skipped, up to the first that matches there.
abbrev pub tries_by : List Subtable → (held : ℕ → Bool) → (run : List ℕ) → ℕ
tries_by bank held run =
    sum_below (λ place. count_until (λ k. not (skipped bank held run place k)) (λ k. hit_of (subtable bank k) k run place) (length bank)) (length run)

-- ---- books whose slots are kept

-- whose filters are held
abbrev pub held_in : List Slot → (k : ℕ) → Bool
held_in slots k = is_held (slot_at slots k).state

-- a book with these slots finds what the bank means, and tries by the rule
pub record Whole (bank : List Subtable) (slots : List Slot) : Type 0 where
  pub hits : (run : List ℕ) → hits_in bank slots run ≡ hits_of bank run
  pub tries : (run : List ℕ) → tries_in bank slots run ≡ tries_by bank (held_in slots) run
  pub applies : (glyphs : List ℕ) (bare : Bool) → applies_in bank slots glyphs bare ≡ some_applies bank glyphs bare

-- filters hide nothing
abbrev pub FiltersHideNothing : Type 0
FiltersHideNothing = (bank : List Subtable) (slots : List Slot) → Bank bank → Kept bank slots → Whole bank slots

-- the first hits of all places are complete
abbrev pub HitsAreListed : Type 0
HitsAreListed = (bank : List Subtable) (run : List ℕ) → Listed bank run (hits_of bank run)

-- who holds more filters makes no more tries
abbrev pub FewerTries : Type 0
FewerTries = (bank : List Subtable) (more less : ℕ → Bool) → ((k : ℕ) → less k ≡ true → more k ≡ true)
    → (run : List ℕ) → tries_by bank more run ≤ tries_by bank less run
