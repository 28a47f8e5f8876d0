-- What is known of masks once a glyph or a span was added.
-- Assumes nothing.
use Rattle.std.proofs.Common.{◌≡◌, ℕ, zero, suc, ◌^◌, ◌<◌, ◌≤◌, true, List, [], ◌∷◌, length, get_or, is_ok, Ok, Err, Result, sym, ap, ◌∙◌, arith}
use Rattle.std.proofs.lemmas.Bool.{true≢false}
use Rattle.opentype.specs.Filters.{add_from}
use Rattle.opentype.specs.Laws.{BitsAdded, BitsSpanned, Covers}
use Rattle.opentype.specs.Masks.{add_glyph, admits}
use Rattle.opentype.specs.Spans.{add_span}
use Rattle.opentype.specs.Theorems.{InBits}
use Rattle.opentype.proofs.Laws.{digest_laws, mask_laws}
use Rattle.opentype.proofs.Spanning.{ranges_are_spans}

-- an answer is not a refusal
pub ok≢err : {X Y : Type 0} (x : X) (y : Y) → ◌≡◌ {A = Result X Y} (Ok x) (Err y) → ⊥
ok≢err x y e = true≢false (ap is_ok e)

module _ (ns ms : List ℕ) (g : ℕ) (made : ns ≡ add_glyph ms g) where
  pub glyph_added : admits ns g ≡ true
  glyph_added = rw made (digest_laws.added ms g)

  pub glyph_kept : Covers ns ms
  glyph_kept = rw made (digest_laws.kept ms g)

  pub glyph_bits : BitsAdded ns ms g
  glyph_bits = rw made (mask_laws.glyph ms g)

module _ (ns ms : List ℕ) (a b : ℕ) (made : ns ≡ add_span ms a b) where
  pub span_added : (g : ℕ) → a ≤ g → g ≤ b → admits ns g ≡ true
  span_added g p q = rw made (digest_laws.spanned ms a b g p q)

  pub span_kept : Covers ns ms
  span_kept = rw made (digest_laws.span_kept ms a b)

  pub span_bits : BitsSpanned ns ms a b
  span_bits = rw made (mask_laws.span ms a b)

  pub span_each : InBits ms → a ≤ b → ns ≡ add_from a b ms
  span_each fits o = made ∙ sym (ranges_are_spans ms a b fits o)

pub three_in_bits : (ms : List ℕ) → length ms ≡ 3 → get_or ms 0 0 < 2 ^ 64 → get_or ms 1 0 < 2 ^ 64 → get_or ms 2 0 < 2 ^ 64 → InBits ms
three_in_bits [] e x y z k = absurd (omega (arith, e))
three_in_bits (a ∷ []) e x y z k = absurd (omega (arith, e))
three_in_bits (a ∷ b ∷ []) e x y z k = absurd (omega (arith, e))
three_in_bits (a ∷ b ∷ c ∷ []) e x y z zero = x
three_in_bits (a ∷ b ∷ c ∷ []) e x y z (suc zero) = y
three_in_bits (a ∷ b ∷ c ∷ []) e x y z (suc (suc zero)) = z
three_in_bits (a ∷ b ∷ c ∷ []) e x y z (suc (suc (suc k))) = omega arith
three_in_bits (a ∷ b ∷ c ∷ d ∷ ms) e x y z k = absurd (omega (arith, e))
