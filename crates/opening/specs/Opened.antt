-- What an opening answers.
-- Assumes nothing.
use Rattle.std.specs.Prelude.{cond, Some, None, Ok, Err, Option, Result}
use Rattle.answers.specs.declared.refusal.Refusal.{Refusal}
use Rattle.answers.specs.declared.refusal.Refusal.TheVariants.{Exhausted, Unopenable}
use Rattle.opentype.specs.Draws.{Allowance, fit}
use Rattle.opentype.specs.Openings.{opening_draws}
use Rattle.opentype.specs.Subtables.{Table}

-- an answer with what a value stands for in the value's place
abbrev pub told_of : {V X : Type 0} → (V → X) → Result V Refusal → Result X Refusal
told_of f (Ok v) = Ok (f v)
told_of f (Err e) = Err e

-- what the header says, where the draws fit
abbrev pub opened_by : Option Table → Allowance → Result Table Refusal
opened_by None a = Err Unopenable
opened_by (Some t) a = cond (fit (opening_draws t) a) (Ok t) (Err Exhausted)
