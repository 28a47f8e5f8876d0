-- What a whole walk comes to.
-- Assumes nothing.
use Rattle.std.specs.Prelude.{◌≡◌, ℕ, List, Some, None, Ok, Err, Option, Result}
use Rattle.std.specs.Bool.{then_some}
use Rattle.opentype.specs.Draws.{Allowance, fit, rest}
use Rattle.opentype.specs.Masks.{full}
use Rattle.opentype.specs.Walks.{Step, settled}
use Rattle.digest.specs.declared.budget.Exhausted.{Exhausted as OutOfAllowance}
use Rattle.digest.specs.declared.set_digest.SetDigest.{SetDigest}
use Rattle.adding.specs.declared.stop.Stop.{Stop}
use Rattle.adding.specs.declared.stop.Stop.TheVariants.{Exhausted, AnyGlyph}

-- the masks that a walk is settled with: all ones where it stopped, none where a draw was refused
abbrev pub gathered : Result (Unit {0}) Stop → (masks : List ℕ) → Option (List ℕ)
gathered (Err Exhausted) masks = None
gathered (Err AnyGlyph) masks = Some full
gathered (Ok t) masks = Some masks

abbrev pub masks_in : Result SetDigest OutOfAllowance → Option (List ℕ)
masks_in (Err e) = None
masks_in (Ok digest) = Some digest.masks

-- the masks that a whole walk comes to on an allowance; none where its draws do not fit
abbrev pub digested_by : Step → Allowance → Option (List ℕ)
digested_by s left = then_some (fit s.draws left) (settled s)

-- a walk was carried out: what it answered, and the allowance before and after it
pub record Walked (s : Step) (before after : Allowance) (r : Result SetDigest OutOfAllowance) : Type 0 where
  pub answer : masks_in r ≡ digested_by s before
  pub left : after ≡ rest s.draws before
