-- The questions that are put to glyph lists, runs and places: the refusal that a "no" gives.
-- Assumes nothing.
use Rattle.std.specs.Prelude.{ℕ, cond, Some, None, Ok, Err, Option, Result, ◌==◌, nat_le, nat_lt}
use Rattle.answers.specs.declared.refusal.Refusal.{Refusal}
use Rattle.answers.specs.declared.refusal.Refusal.TheVariants.{NoGlyph, TooLong, NotInRun}

-- the answer where no question said no, else the refusal
abbrev pub answered : {X : Type 0} → Option Refusal → X → Result X Refusal
answered None x = Ok x
answered (Some e) x = Err e

-- a run of n glyphs: are there at most 65,536?
abbrev pub run_refused : (n : ℕ) → Option Refusal
run_refused n = cond (nat_le n 65536) None (Some TooLong)

-- a list of n glyphs: is there one? then as a run
abbrev pub list_refused : (n : ℕ) → Option Refusal
list_refused n = cond (n == 0) (Some NoGlyph) (run_refused n)

-- a place of a run of n glyphs: first the run; is the place in it?
abbrev pub place_refused : (n place : ℕ) → Option Refusal
place_refused n place = cond (nat_le n 65536) (cond (nat_lt place n) None (Some NotInRun)) (Some TooLong)
