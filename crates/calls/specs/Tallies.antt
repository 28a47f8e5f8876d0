-- The tally of draws: a rest of its own, and the sums of the draws granted.
-- Assumes nothing.
use Rattle.std.specs.Prelude.{◌+◌, cond, List, [], ◌∷◌}
use Rattle.opentype.specs.Draws.{Allowance, Draw, byte_counter, fits, share, taken, work_counter}

pub record Tally : Type 0 where
  pub rest : Allowance
  pub drawn : Allowance

abbrev pub nothing : Allowance
nothing = record { work = 0; bytes = 0 }

-- work and bytes added up
infixl 20 ◌plus◌
abbrev pub ◌plus◌ : Allowance → Allowance → Allowance
a plus b = record { work = a.work + b.work; bytes = a.bytes + b.bytes }

-- one draw as an amount of each counter
abbrev pub amounts : Draw → Allowance
amounts d = record { work = share work_counter d.counter d.amount; bytes = share byte_counter d.counter d.amount }

-- a draw that is granted
abbrev pub granted : Draw → Tally → Tally
granted d t = record { rest = taken d t.rest; drawn = t.drawn plus amounts d }

-- draws in order: the first that is above the rest is not granted, and ends them
abbrev pub tallied : List Draw → Tally → Tally
tallied [] t = t
tallied (d ∷ ds) t = cond (fits d t.rest) (tallied ds (granted d t)) t

-- at the start: the allowance given, and sums of 0
abbrev pub starts : (given : Allowance) → Tally
starts given = record { rest = given; drawn = nothing }
