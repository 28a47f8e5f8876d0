-- A search through the subtables of a bank.
-- Assumes nothing.
use Rattle.std.proofs.Common.{◌≡◌, ℕ, ◌<◌, Bool, true, false, List, length, is_some, is_ok, Some, None, Ok, Decides, Option, sym, refl, ap, ◌∙◌, subst, arith}
use Rattle.std.proofs.lemmas.Bool.{true≢false}
use Rattle.std.specs.Option.{option_map}
use Rattle.answers.specs.Questions.{answered}
use Rattle.answers.specs.declared.hit.Hit.{Hit}
use Rattle.answers.specs.declared.refusal.Refusal.{Refusal}
use Rattle.opentype.proofs.Matched.{any_met, decides_any, first_is}
use Rattle.opentype.specs.Matching.{Found, any_below}
use Rattle.opentype.specs.Meaning.{Subtable, subtable}
use Rattle.bank.specs.Answers.{hit_of, told}
use Rattle.bank.specs.Searches.{SomeApplies, first_hit, some_applies}

-- Where the questions are passed, the answer is what was asked for.
pub passed : {X : Type 0} (refusal : Option Refusal) (u : Unit {0}) (x y : X) → Ok u ≡ answered refusal tt → x ≡ y → Ok x ≡ answered refusal y
passed None u x y e same = ap Ok same
passed (Some d) u x y e same = absurd (true≢false (ap is_ok e))

pub answer_is : {X : Type 0} (refusal : Option Refusal) (x y z : X) → Ok x ≡ answered refusal y → x ≡ z → y ≡ z
answer_is None x y z e is = grind arith
answer_is (Some d) x y z e is = absurd (true≢false (ap is_ok e))

-- ---- does some subtable apply?

module _ (bank : List Subtable) (glyphs : List ℕ) (bare : Bool) where
  abbrev test : (k : ℕ) → Bool
  test k = (subtable bank k).matching.applies glyphs bare

  -- none of the first n subtables would apply
  abbrev pub Unapplied : (n : ℕ) → Type 0
  Unapplied n = any_below test n ≡ false

  pub some_applies_at : (k : ℕ) → k < length bank → test k ≡ true → true ≡ some_applies bank glyphs bare
  some_applies_at k = any_met test (length bank) k

  pub none_applies : (k : ℕ) → k ≡ length bank → Unapplied k → false ≡ some_applies bank glyphs bare
  none_applies k all none = rw all at (sym none)

  pub decides_some : (b : Bool) → b ≡ some_applies bank glyphs bare → Decides b (SomeApplies bank glyphs bare)
  decides_some b e = subst (λ (t : Bool). Decides t (SomeApplies bank glyphs bare)) (sym e) (decides_any test (length bank))

-- ---- the first hit

module _ (place k : ℕ) where
  pub told_none : (found : Option Found) → option_map (told place k) found ≡ None → found ≡ None
  told_none None e = refl
  told_none (Some f) e = absurd (true≢false (ap is_some e))

  pub told_some : (found : Option Found) (hit : Hit) → option_map (told place k) found ≡ Some hit → (f : Found) × (found ≡ Some f) × (hit ≡ told place k f)
  told_some None hit e = absurd (true≢false (sym (ap is_some e)))
  told_some (Some f) hit e = (f, refl, grind arith)

none_of : {X : Type 0} (o : Option X) → ((x : X) → o ≡ Some x → ⊥) → None ≡ o
none_of None n = refl
none_of (Some x) n = absurd (n x refl)

module _ (bank : List Subtable) (run : List ℕ) (place : ℕ) where
  -- none of the first n subtables matches at the place
  abbrev pub Missed : (n : ℕ) → Type 0
  Missed n = (j : ℕ) → j < n → (subtable bank j).matching.finds run place ≡ None

  abbrev hits : (k : ℕ) → Option Hit
  hits k = hit_of (subtable bank k) k run place

  pub none_first : Missed (length bank) → None ≡ first_hit bank run place
  none_first missed = none_of (first_hit bank run place) (λ h e.
      let p = (first_is hits (length bank) h).0 e in
      true≢false (sym (ap is_some (sym (ap (option_map (told place p.0)) (missed p.0 p.1)) ∙ p.2))))

  pub some_first : (k : ℕ) (hit : Hit) → k < length bank → Missed k → hits k ≡ Some hit → Some hit ≡ first_hit bank run place
  some_first k hit l missed here =
      sym ((first_is hits (length bank) hit).1 (k, l, here, λ j m. ap (option_map (told place j)) (missed j m)))
