-- What a book finds and tries, by its bank's meaning and its slots.
-- Assumes nothing.
use Rattle.std.specs.Prelude.{ℕ, zero, suc, ◌+◌, Bool, cond, not, ◌&&◌, ◌||◌, List, [], ◌++◌, length, take, drop, is_some, None, Ok, Err, Option, Result, nat_le, nat_lt, slice_index}
use Rattle.std.specs.Option.{option_to_list}
use Rattle.answers.specs.declared.hit.Hit.{Hit}
use Rattle.answers.specs.declared.refusal.Refusal.{Refusal}
use Rattle.answers.specs.declared.refusal.Refusal.TheVariants.{ListFull, TooLong}
use Rattle.bank.specs.Answers.{hit_of}
use Rattle.opentype.specs.Masks.{admits}
use Rattle.opentype.specs.Matching.{any_below, first_below}
use Rattle.opentype.specs.Meaning.{Subtable, subtable}
use Rattle.book.specs.Slots.{slot_at}
use Rattle.book.specs.declared.book.Counts.{Counts}
use Rattle.book.specs.declared.slots.Slot.{Slot}

-- what is there among f 0, .., f (n - 1), in order
abbrev pub list_below : {X : Type 0} → (ℕ → Option X) → ℕ → List X
list_below f zero = []
list_below f (suc n) = list_below f n ++ option_to_list (f n)

abbrev pub sum_below : (ℕ → ℕ) → ℕ → ℕ
sum_below f zero = 0
sum_below f (suc n) = sum_below f n + f n

-- how many of 0, .., n - 1 pass a test
abbrev pub count_below : (ℕ → Bool) → ℕ → ℕ
count_below test n = sum_below (λ k. cond (test k) 1 0) n

-- those of 0, .., n - 1 that pass a test, up to the first at which f has something
abbrev pub count_until : {X : Type 0} → (ℕ → Bool) → (ℕ → Option X) → ℕ → ℕ
count_until test f n = count_below (λ k. test k && not (is_some (first_below f k))) n

-- subtable k may be tried at a place: its slot admits the next glyph, or there is none
abbrev pub may_try : List Slot → (run : List ℕ) → (place k : ℕ) → Bool
may_try slots run place k = not (nat_lt (place + 1) (length run)) || admits (slot_at slots k).digest.masks (slice_index run (place + 1))

module _ (bank : List Subtable) (slots : List Slot) (run : List ℕ) where
  -- the hit of subtable k at a place, where it may be tried
  abbrev pub seen : (place k : ℕ) → Option Hit
  seen place k = cond (may_try slots run place k) (hit_of (subtable bank k) k run place) None

  -- the first hit at a place
  abbrev pub hit_at : (place : ℕ) → Option Hit
  hit_at place = first_below (seen place) (length bank)

  -- the tries at a place: each subtable that may be tried, up to the first hit
  abbrev pub tries_at : (place : ℕ) → ℕ
  tries_at place = count_until (may_try slots run place) (seen place) (length bank)

  -- the hits and the tries in the run
  abbrev pub hits_in : List Hit
  hits_in = list_below hit_at (length run)

  abbrev pub tries_in : ℕ
  tries_in = sum_below tries_at (length run)

  -- a scan into a list of that many entries
  abbrev pub scan_answer : (room : ℕ) → Result Counts Refusal
  scan_answer room =
      cond (nat_le (length run) 65536)
      (cond (nat_le (length hits_in) room) (Ok (record { hits = length hits_in; tries = tries_in })) (Err ListFull))
      (Err TooLong)

-- hits over the first entries of a list, as many as it takes; the others stay
abbrev pub written : (hits list : List Hit) → List Hit
written hits list = take (length list) hits ++ drop (length hits) list

abbrev pub scan_list : List Subtable → List Slot → (run : List ℕ) → (list : List Hit) → List Hit
scan_list bank slots run list = cond (nat_le (length run) 65536) (written (hits_in bank slots run) list) list

-- some subtable that may be tried would apply; the glyph next to the first is the second
abbrev pub applies_in : List Subtable → List Slot → (glyphs : List ℕ) → (bare : Bool) → Bool
applies_in bank slots glyphs bare =
    any_below (λ k. may_try slots glyphs 0 k && (subtable bank k).matching.applies glyphs bare) (length bank)
