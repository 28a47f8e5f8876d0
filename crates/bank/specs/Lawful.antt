-- A bank of one and two banks joined have at most 32 subtables, each with a sound filter, where their parts do; and what
-- the digests of a sound filter admit. Proofs, which stand here since impls of the bank's traits cite them.
-- Assumes nothing.
use Rattle.std.specs.Prelude.{◌≡◌, ℕ, zero, suc, ◌+◌, ◌-◌, ◌<◌, ◌≤◌, min, Bool, true, false, cond, ◌⊎◌, List, [], ◌∷◌, ◌++◌, length, is_ok, IfOk, Ok, Err, Result, refl}
use Rattle.std.proofs.Common.{sym, ap, subst, ◌∙◌, inl, inr, ⊎_elim, arith, length-take, length-append}
use Rattle.std.proofs.Math.ListN.{get_or-eq_default}
use Rattle.std.proofs.lemmas.List.{get_or-take, get_or_append_left, get_or-append_right}
use Rattle.std.proofs.lemmas.Bool.{false≢true, true≢false, cases_lt}
use Rattle.std.specs.Result.{result_unwrap_or}
use Rattle.answers.specs.declared.refusal.Refusal.{Refusal}
use Rattle.answers.specs.declared.refusal.Refusal.TheVariants.{Exhausted, NotFilterable}
use Rattle.digest.specs.declared.set_digest.SetDigest.{SetDigest}
use Rattle.opentype.specs.Draws.{Allowance, fit}
use Rattle.opentype.specs.Meaning.{Admits, Bank, Sound, Subtable, past_last, subtable}
use Rattle.bank.specs.Answers.{digested, masks_in}
use Rattle.bank.specs.Joined.{joined_banks}

-- ---- one subtable

-- where the filter is sound, the masks that a digest answers with admit what they have to
pub digest_admits : (s : Subtable) (given : Allowance) (r : Result SetDigest Refusal) → Sound s → masks_in r ≡ digested s given
    → IfOk r (λ d. Admits s.matching d.masks)
digest_admits s given (Err e) sound is = tt
digest_admits s given (Ok d) sound is = by s.filter.can (fit s.filter.draws given) sound is
  where
    by : (can fits : Bool) → (can ≡ true → Admits s.matching s.filter.masks)
        → Ok d.masks ≡ cond can (cond fits (Ok s.filter.masks) (Err Exhausted)) (Err NotFilterable) → Admits s.matching d.masks
    by true true sound is = subst (Admits s.matching) (sym (ap (λ r. result_unwrap_or r []) is)) (sound refl)
    by true false sound is = absurd (true≢false (ap is_ok is))
    by false fits sound is = absurd (true≢false (ap is_ok is))

pub past_sound : Sound past_last
past_sound _ = record { second = λ glyphs bare l e. absurd (false≢true e); next = λ run place l e. absurd (false≢true e) }

pub one_lawful : {s : Subtable} → Sound s → Bank (s ∷ [])
one_lawful {s} h = record { few = omega arith; sound = by }
  where
    by : (k : ℕ) → Sound (subtable (s ∷ []) k)
    by zero = h
    by (suc k) = past_sound

-- ---- two banks joined

pub joined_length : {X : Type 0} (xs ys : List X) → length (joined_banks xs ys) ≡ min 32 (length xs + length ys)
joined_length xs ys = simp (length-take, length-append)

-- subtable k of the joined bank is one of the first bank, which has n, where k is below n; the first bank is asked past
-- 32 too, where neither has one
abbrev pub OfFirst : (n k : ℕ) → Type 0
OfFirst n k = (k < n) ⊎ ((n ≤ k) × (32 ≤ k))

module _ (xs ys : List Subtable) (n k : ℕ) (counted : n ≡ length xs) where
  pub from_first : length xs ≤ 32 → OfFirst n k → subtable xs k ≡ subtable (joined_banks xs ys) k
  from_first few (inl h) =
      sym (get_or-take 32 (xs ++ ys) k past_last (omega (arith, counted)) ∙ get_or_append_left xs ys past_last k (omega (arith, counted)))
  from_first few (inr h) =
      let past : length (joined_banks xs ys) ≤ k = omega (arith, joined_length xs ys, h.1) in
      get_or-eq_default xs past_last (omega (arith, counted, h.0)) ∙ sym (get_or-eq_default (joined_banks xs ys) past_last past)

  -- else it is subtable k - n of the second
  pub from_second : n ≤ k → k < 32 → subtable ys (k - n) ≡ subtable (joined_banks xs ys) k
  from_second past few = sym (get_or-take 32 (xs ++ ys) k past_last few ∙ get_or-append_right xs ys n k past_last (sym counted) past)

asked_of : (n k : ℕ) → OfFirst n k ⊎ ((n ≤ k) × (k < 32))
asked_of n k = ⊎_elim
    (λ h. inl (inl h))
    (λ h. ⊎_elim (λ below. inr (h, below)) (λ past. inl (inr (h, past))) (cases_lt k 32))
    (cases_lt k n)

pub joined_lawful : {xs ys : List Subtable} → Bank xs → Bank ys → Bank (joined_banks xs ys)
joined_lawful {xs} {ys} a b = record {
  few = omega (arith, joined_length xs ys);
  sound = λ k. ⊎_elim
      (λ w. rw (sym (from_first xs ys (length xs) k refl a.few w)) (a.sound k))
      (λ w. rw (sym (from_second xs ys (length xs) k refl w.0 w.1)) (b.sound (k - length xs)))
      (asked_of (length xs) k);
}
