-- What an opening leaves of the allowance, by the draws of its call.
-- Assumes nothing.
use Rattle.std.proofs.Common.{◌≡◌, Some, None, Option, refl}
use Rattle.calls.specs.Events.{table_draws}
use Rattle.opentype.specs.Draws.{Allowance, rest}
use Rattle.opentype.specs.Openings.{opening_left}
use Rattle.opentype.specs.Subtables.{Table}

pub opening_draws_left : (o : Option Table) (left : Allowance) → opening_left o left ≡ rest (table_draws o) left
opening_draws_left None left = refl
opening_draws_left (Some t) left = refl
