-- A budget as an allowance, and one draw from it in words.
-- Assumes nothing.
use Rattle.std.specs.Prelude.{◌≡◌, ◌+◌, ◌≤◌, Bool, true, false, [], ◌∷◌, Decides}
use Rattle.opentype.specs.Draws.{Allowance, Counter, Draw, left_of, total}
use Rattle.digest.specs.declared.budget.Budget.{Budget}

abbrev pub allowance_of : Budget → Allowance
allowance_of b = record { work = b.work; bytes = b.bytes }

-- A draw is granted exactly where it is at most what is left of its counter. It then takes its amount, from that counter
-- alone; refused, it takes nothing.
pub record Drawn (d : Draw) (before after : Allowance) (granted : Bool) : Type 0 where
  pub within : Decides granted (d.amount ≤ left_of d.counter before)
  pub takes : granted ≡ true → (c : Counter) → left_of c after + total c (d ∷ []) ≡ left_of c before
  pub refused : granted ≡ false → after ≡ before
