-- Searches over bytes.
use Rattle.std.specs.Prelude.{ℕ, not, List, ◌==◌}
use Rattle.std.specs.List.{position_or_len}

-- how many bytes stand before the first `b`
abbrev pub index_of : ℕ → List ℕ → ℕ
index_of b cs = position_or_len (λ c. c == b) cs

-- how many times the text begins with `b`
abbrev pub leading : ℕ → List ℕ → ℕ
leading b cs = position_or_len (λ c. not (c == b)) cs
