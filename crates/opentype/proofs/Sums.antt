-- The mask of a row of numbers, by the closed sum that the code computes: one test over all starts below 64 and all lengths below 64.
-- Assumes nothing.
use Rattle.std.proofs.Common.{◌≡◌, ℕ, zero, suc, ◌+◌, ◌-◌, ◌/◌, ◌%◌, ◌^◌, ◌<◌, ◌≤◌, Bool, true, ◌&&◌, eqb, ltb, sym, refl, ap, ◌∙◌, subst, inl, inr, mod-lt, arith}
use mir.Val.{bool_byte}
use native.Mathlib.Nat.{mod-add-mod}
use lib.Bits.{bit_or}
use Rattle.std.proofs.lemmas.Bool.{ltb-true, eqb-true, and_from, and_parts, or_left, or_right, lt-ltb, cases_lt}
use Rattle.std.proofs.lemmas.Bool.Decides.{Decides-below_and}
use Rattle.opentype.specs.Masks.{bit_of}
use Rattle.opentype.specs.Spans.{with_row, with_row_to, far}
use Rattle.opentype.specs.Sums.{span_sum, mask_sum_fits, SumsFit}
use Rattle.opentype.proofs.Rows.{bits_or, row_mod, near_row, reversed_far, long_far}

abbrev pub row_sum : (s e : ℕ) → ℕ
row_sum s e = span_sum s e - bool_byte (ltb (2 ^ e) (2 ^ s))

-- the sum of a row of d + 1 numbers from s fits, and makes the row's mask
abbrev right : (s d : ℕ) → Bool
right s d = ltb (span_sum s ((s + d) % 64)) (2 ^ 64) && eqb (row_sum s ((s + d) % 64)) (with_row 0 s (suc d))

abbrev right_below : (s n : ℕ) → Bool
right_below s zero = true
right_below s (suc n) = right s n && right_below s n

abbrev all_right : ℕ → Bool
all_right zero = true
all_right (suc s) = right_below s 63 && all_right s

table : all_right 64 ≡ true
table = refl

right_below_at : (s n : ℕ) → right_below s n ≡ true → (d : ℕ) → d < n → right s d ≡ true
right_below_at s n = (Decides-below_and (right s) (λ d. right s d ≡ true) (right_below s) (λ d. ((λ e. e), (λ e. e))) refl (λ k. refl) n).0

right_at : (s d : ℕ) → s < 64 → d < 63 → right s d ≡ true
right_at s d p q =
    right_below_at s 63
    ((Decides-below_and (λ i. right_below i 63) (λ i. right_below i 63 ≡ true) all_right (λ i. ((λ e. e), (λ e. e))) refl (λ k. refl) 64).0 table s p)
    d q

-- ---- a row from any number

-- the end's bit, by the start's
end_bit : (x y : ℕ) → x ≤ y → y % 64 ≡ (x % 64 + (y - x)) % 64
end_bit x y h = ap (λ (k : ℕ). k % 64) (omega arith) ∙ sym (mod-add-mod x 64 (y - x))

module _ (x y : ℕ) (ordered : x ≤ y) (near : y - x < 63) where
  checked : right (x % 64) (y - x) ≡ true
  checked = right_at (x % 64) (y - x) (mod-lt x (omega arith)) near

  pub sum_fits : span_sum (x % 64) (y % 64) < 2 ^ 64
  sum_fits =
      subst (λ (e : ℕ). span_sum (x % 64) e < 2 ^ 64) (sym (end_bit x y ordered))
      (ltb-true _ _ (and_parts _ _ checked).0)

  -- what the code computes is the mask with the row
  pub sum_row : (m : ℕ) → bit_or m (row_sum (x % 64) (y % 64)) ≡ with_row_to m x y
  sum_row m =
      ap (λ (e : ℕ). bit_or m (row_sum (x % 64) e)) (end_bit x y ordered)
      ∙ ap (bit_or m) (eqb-true _ _ (and_parts _ _ checked).1 ∙ sym (row_mod x (suc (y - x))))
      ∙ sym (bits_or (λ k. (x + k) % 64) m (suc (y - x)))
      ∙ sym (near_row m x y ordered near)

-- ---- the sum of every span fits: a far one needs none

pub always_fits : (shift a b : ℕ) → mask_sum_fits shift a b ≡ true
always_fits shift a b =
    let x = a / 2 ^ shift in
    let y = b / 2 ^ shift in
    let sum = ltb (span_sum (bit_of shift a) (bit_of shift b)) (2 ^ 64) in
    elim (cases_lt y x) [
      | inl h ↦ or_left (far x y) sum (reversed_far x y h)
      | inr h ↦ elim (cases_lt (y - x) 63) [
        | inl d ↦ or_right (far x y) sum (lt-ltb (span_sum (bit_of shift a) (bit_of shift b)) (2 ^ 64) (sum_fits x y h d))
        | inr d ↦ or_left (far x y) sum (long_far x y d)
      ]
    ]

pub sums_fit : SumsFit
sums_fit a b = and_from _ _ (always_fits 4 a b) (and_from _ _ (always_fits 0 a b) (always_fits 6 a b))
