-- What opening a subtable draws.
-- Assumes nothing.
use Rattle.std.specs.Prelude.{ℕ, ◌*◌, cond, List, [], ◌∷◌, ◌++◌, Some, None, Option, nat_le}
use Rattle.std.specs.Bool.{then_some}
use Rattle.opentype.specs.Draws.{Allowance, Draw, of_work, of_bytes, fit, rest}
use Rattle.opentype.specs.Subtables.{Table, by_glyph, by_class, by_coverage}

-- an array of at most 64 coverages draws its length in work, then 24 bytes each; a longer one draws nothing
abbrev pub array_draws : (count : ℕ) → List Draw
array_draws count = cond (nat_le count 64) (of_work count ∷ of_bytes (24 * count) ∷ []) []

-- inputs after the first, backtrack, lookahead; the other kinds draw nothing
abbrev pub opening_draws : Table → List Draw
opening_draws (by_glyph t) = []
opening_draws (by_class t) = []
opening_draws (by_coverage t) =
    array_draws t.rule.input.count ++ (array_draws t.rule.backtrack.count ++ array_draws t.rule.lookahead.count)

-- the table where its draws fit
abbrev pub granted : Option Table → Allowance → Option Table
granted None a = None
granted (Some t) a = then_some (fit (opening_draws t) a) t

-- what is left: a table that is not there draws nothing
abbrev pub opening_left : Option Table → Allowance → Allowance
opening_left None a = a
opening_left (Some t) a = rest (opening_draws t) a
