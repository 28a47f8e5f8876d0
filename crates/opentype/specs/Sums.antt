-- The sums by which the masks of a span are computed, and whether they pass 64 bits.
-- Assumes nothing.
use Rattle.std.specs.Prelude.{◌≡◌, ℕ, ◌+◌, ◌-◌, ◌/◌, ◌%◌, ◌^◌, Bool, true, ◌||◌, nat_lt}
use Rattle.opentype.specs.Masks.{bit_of, shift_of, every_mask}
use Rattle.opentype.specs.Spans.{far}

-- 2^e + ((2^e − 2^s) modulo 2^64), with s and e the bits of the span's ends
abbrev pub span_sum : (s e : ℕ) → ℕ
span_sum s e = 2 ^ e + (2 ^ e + (2 ^ 64 - 2 ^ s)) % 2 ^ 64

-- the mask of a far span needs no sum
abbrev pub mask_sum_fits : (shift a b : ℕ) → Bool
mask_sum_fits shift a b = far (a / 2 ^ shift) (b / 2 ^ shift) || nat_lt (span_sum (bit_of shift a) (bit_of shift b)) (2 ^ 64)

abbrev pub all_sums_fit : (a b : ℕ) → Bool
all_sums_fit a b = every_mask (λ k. mask_sum_fits (shift_of k) a b)

-- They never do.
abbrev pub SumsFit : Type 0
SumsFit = (a b : ℕ) → all_sums_fit a b ≡ true
