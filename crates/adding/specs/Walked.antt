-- What the calls of a walk answer.
-- Assumes nothing.
use Rattle.std.specs.Prelude.{◌≡◌, ℕ, List, Ok, Err, Result}
use Rattle.opentype.specs.Carried.{Ending, refused, halted, reached, Outcome, carried}
use Rattle.opentype.specs.Draws.{Allowance}
use Rattle.opentype.specs.Walks.{Step}
use Rattle.digest.specs.Allowances.{allowance_of}
use Rattle.adding.specs.declared.gathering.Gathering.{Gathering}
use Rattle.adding.specs.declared.stop.Stop.{Stop}
use Rattle.adding.specs.declared.stop.Stop.TheVariants.{Exhausted, AnyGlyph}

-- a call answers whether the walk goes on, and else why not; the masks count where it does
abbrev pub ending_of : Result (Unit {0}) Stop → (masks : List ℕ) → Ending
ending_of (Err Exhausted) masks = refused
ending_of (Err AnyGlyph) masks = halted
ending_of (Ok t) masks = reached masks

abbrev pub outcome : (left : Allowance) → Result (Unit {0}) Stop → (masks : List ℕ) → Outcome
outcome left r masks = record { left = left; ending = ending_of r masks }

-- a part of a walk was carried out: what it answered, and what was gathered before and after it
pub record CarriedOut (step : List ℕ → Step) (before after : Gathering) (r : Result (Unit {0}) Stop) : Type 0 where
  pub answer : outcome (allowance_of after.budget.now) r after.digest.masks ≡ carried (step before.digest.masks) (allowance_of before.budget.now)
  pub same_allowance : after.budget.ghost_name ≡ before.budget.ghost_name
