-- The word of a set's rules, rule by rule.
-- Assumes nothing.
use Rattle.std.proofs.Common.{◌≡◌, ℕ, zero, suc, ◌+◌, ◌%◌, ◌^◌, ◌<◌, List, [], ◌∷◌, ◌++◌, length, Some, None, Option, sym, refl, ap, subst, inl, inr, ◌∙◌, add-one, arith}
use lib.Bits.{bit_or}
use Rattle.std.specs.Iterator.{Yields}
use Rattle.std.proofs.lemmas.Bool.{cases_lt}
use Rattle.std.proofs.lemmas.List.{length_push}
use Rattle.opentype.specs.Bytes.{Array}
use Rattle.opentype.specs.Words.{with_value, word_below}
use Rattle.readers.proofs.Giving.{Gives, item_is, all_taken}

module _ (firsts : ℕ → Option ℕ) (i : ℕ) where
  -- one more rule, with a first value
  one_more : (w v w' : ℕ) → word_below firsts i ≡ Some w → firsts i ≡ Some v → w' ≡ bit_or w (2 ^ (v % 64)) → word_below firsts (i + 1) ≡ Some w'
  one_more w v w' inv is e = rw (add-one, inv, is) (ap (λ (x : ℕ). Some x) (sym e))

  without : (word : Option ℕ) → with_value word None ≡ None
  without None = refl
  without (Some w) = refl

  -- a rule without one ends the word
  none_from : (n : ℕ) → i < n → firsts i ≡ None → word_below firsts n ≡ None
  none_from zero l is = absurd (omega arith)
  none_from (suc n) l is =
      elim (cases_lt i n) [
        | inl before ↦ let ih = none_from n before is in rw ih refl
        | inr last ↦
            let e : i ≡ n = omega arith in
            let here : firsts n ≡ None = subst (λ (k : ℕ). firsts k ≡ None) e is in rw here (without (word_below firsts n))
      ]

-- a turn of a loop over the rules, from a state in which the iterator has given `xs`
module _ {S A X : Type 0} {steps : S → Option A → S → Type 0} {shows : A → X} {s : S} {a : Array X} (all : Gives steps shows s a)
    (xs : List A) (t : S) (before : Yields steps s xs t) {r : Option A} (u : S) (now : steps t r u)
    (first : X → Option ℕ) (w : ℕ) (worded : word_below (λ k. first (a.entry k)) (length xs) ≡ Some w) where
  pub word_on : (x : A) → r ≡ Some x → (v : ℕ) {w' : ℕ} → Some v ≡ first (shows x) → w' ≡ bit_or w (2 ^ (v % 64))
      → word_below (λ k. first (a.entry k)) (length (xs ++ x ∷ [])) ≡ Some w'
  word_on x is v {w'} e sets =
      rw length_push
      (one_more (λ k. first (a.entry k)) (length xs) w v w' worded (sym (e ∙ ap first (item_is all xs t before u now x is).1)) sets)

  pub word_out : (x : A) → r ≡ Some x → None ≡ first (shows x) → None ≡ word_below (λ k. first (a.entry k)) a.count
  word_out x is e =
      let i = item_is all xs t before u now x is in
      sym (none_from (λ k. first (a.entry k)) (length xs) a.count i.0 (sym (e ∙ ap first i.1)))

  pub word_all : r ≡ None → Some w ≡ word_below (λ k. first (a.entry k)) a.count
  word_all is = subst (λ (k : ℕ). Some w ≡ word_below (λ k. first (a.entry k)) k) (all_taken all xs t before u now is) (sym worded)
