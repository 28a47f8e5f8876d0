-- The place of the first byte that passes a test, or the length.
use Rattle.std.proofs.Common.{◌≡◌, ℕ, Bool, not, List, length, unwrap_or, arith}
use Rattle.std.proofs.lemmas.Bool.Decides.{nat_tests}
use Rattle.std.proofs.lemmas.List.Sums.{prefix_len-le-length}
use Rattle.std.specs.List.{position, position_or_len}

pub unwrap_position : (p : ℕ → Bool) (xs : List ℕ) → unwrap_or (position p xs) (length xs) ≡ position_or_len p xs
unwrap_position p xs = let within = prefix_len-le-length (λ c. not (p c)) xs in grind (arith, nat_tests)
