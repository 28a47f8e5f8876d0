-- What the calls of a bank answer, from what its subtables mean.
-- Assumes nothing.
use Rattle.std.specs.Prelude.{ℕ, Bool, cond, List, length, Ok, Err, Option, Result}
use Rattle.std.specs.Option.{option_map}
use Rattle.answers.specs.Questions.{answered, list_refused, place_refused}
use Rattle.answers.specs.declared.hit.Hit.{Hit}
use Rattle.answers.specs.declared.refusal.Refusal.{Refusal}
use Rattle.answers.specs.declared.refusal.Refusal.TheVariants.{Exhausted, NotFilterable}
use Rattle.digest.specs.declared.set_digest.SetDigest.{SetDigest}
use Rattle.opentype.specs.Draws.{Allowance, fit, rest}
use Rattle.opentype.specs.Matching.{Found}
use Rattle.opentype.specs.Meaning.{Subtable}

-- ---- matching

-- a hit by its place, the number of its subtable, and what the subtable tells
abbrev pub told : (place subtable : ℕ) → Found → Hit
told place subtable f = record {
  place = place;
  subtable = subtable;
  length = f.length;
  records = f.records;
  record_count = f.record_count;
}

-- the hit at a place, told as that of subtable k
abbrev pub hit_of : Subtable → (k : ℕ) → (run : List ℕ) → (place : ℕ) → Option Hit
hit_of s k run place = option_map (told place k) (s.matching.finds run place)

-- the calls, with the questions put first
abbrev pub would_apply : Subtable → (glyphs : List ℕ) → (bare : Bool) → Result Bool Refusal
would_apply s glyphs bare = answered (list_refused (length glyphs)) (s.matching.applies glyphs bare)

abbrev pub hit_at : Subtable → (k : ℕ) → (run : List ℕ) → (place : ℕ) → Result (Option Hit) Refusal
hit_at s k run place = answered (place_refused (length run) place) (hit_of s k run place)

-- ---- filtering

-- a digest by its masks
abbrev pub masks_in : Result SetDigest Refusal → Result (List ℕ) Refusal
masks_in (Ok d) = Ok d.masks
masks_in (Err e) = Err e

-- refused where the subtable cannot be filtered; else its draws are made in order, and it has its masks where all fit
abbrev pub digested : Subtable → (given : Allowance) → Result (List ℕ) Refusal
digested s given = cond s.filter.can (cond (fit s.filter.draws given) (Ok s.filter.masks) (Err Exhausted)) (Err NotFilterable)

-- what is left of the allowance then
abbrev pub digest_leaves : Subtable → (given : Allowance) → Allowance
digest_leaves s given = cond s.filter.can (rest s.filter.draws given) given
