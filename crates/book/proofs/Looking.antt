-- The subtables at one place, one more at a time.
-- Assumes nothing.
use Rattle.std.proofs.Common.{◌≡◌, ℕ, zero, suc, ◌+◌, ◌-◌, ◌<◌, ◌≤◌, Bool, true, false, cond, not, ◌&&◌, is_some, Some, None, Option, sym, ap, ◌∙◌, add-zero, add-suc, arith}
use Rattle.std.proofs.lemmas.Bool.{and_right}
use Rattle.answers.specs.declared.hit.Hit.{Hit}
use Rattle.opentype.proofs.Matched.{first_met, first_more}
use Rattle.opentype.specs.Matching.{first_below}
use Rattle.book.specs.Scans.{count_until}
use Rattle.book.specs.declared.book.Look.{Look}
use Rattle.book.proofs.Sums.{sum_more}

module _ {X : Type 0} (test : ℕ → Bool) (f : ℕ → Option X) where
  abbrev try : ℕ → ℕ
  try k = cond (test k && not (is_some (first_below f k))) 1 0

  -- nothing counts after the first that is there
  count_stays : (k d : ℕ) (x : X) → first_below f k ≡ None → f k ≡ Some x → count_until test f (k + 1 + d) ≡ count_until test f (k + 1)
  count_stays k zero x before here = rw add-zero
  count_stays k (suc d) x before here =
      let some = first_met f (k + 1 + d) k x (omega arith) before here in
      let none : try (k + 1 + d) ≡ 0 = ap (λ b. cond b 1 0) (and_right (test (k + 1 + d)) _ (ap (λ o. not (is_some o)) (sym some))) in
      let i = count_stays k d x before here in
      rw add-suc (omega (arith, none, i))

-- f, where the test lets it be asked
module _ {X : Type 0} (test : ℕ → Bool) (f : ℕ → Option X) where
  abbrev asked : ℕ → Option X
  asked k = cond (test k) (f k) None

  -- those below k are done: there was none
  pub record Looked (k tries : ℕ) : Type 0 where
    pub none : first_below asked k ≡ None
    pub tried : tries ≡ count_until test asked k
    pub few : tries ≤ k

  module _ (k tries : ℕ) (looked : Looked k tries) where
    try_is : (b : Bool) → test k ≡ b → try test asked k ≡ cond b 1 0
    try_is true e = let n = looked.none in rw (e, n)
    try_is false e = rw e

    pub skipped : test k ≡ false → Looked (k + 1) tries
    skipped e = record {
      none = first_more asked k looked.none (rw e);
      tried = let s = sum_more (try test asked) k in let t = try_is false e in let u = looked.tried in omega (arith, s, t, u);
      few = let u = looked.few in omega (arith, u);
    }

    pub missed : test k ≡ true → f k ≡ None → Looked (k + 1) (tries + 1)
    missed e m = record {
      none = first_more asked k looked.none (rw (e, m));
      tried = let s = sum_more (try test asked) k in let t = try_is true e in let u = looked.tried in omega (arith, s, t, u);
      few = let u = looked.few in omega (arith, u);
    }

    pub met : (n : ℕ) (x : X) → test k ≡ true → f k ≡ Some x → k < n → (Some x ≡ first_below asked n) × (tries + 1 ≡ count_until test asked n)
    met n x e m below =
        let here : asked k ≡ Some x = rw (e, m) in
        let so_far : tries + 1 ≡ count_until test asked (k + 1) = let s = sum_more (try test asked) k in let t = try_is true e in let u = looked.tried in omega (arith, s, t, u) in
        let rest : k + 1 + (n - (k + 1)) ≡ n = omega arith in (
          first_met asked n k x below looked.none here,
          so_far ∙ sym (count_stays test asked k (n - (k + 1)) x looked.none here) ∙ ap (count_until test asked) rest,
        )

-- two looks of the same hit and tries
pub looks : (o o' : Option Hit) (t t' : ℕ) → o ≡ o' → t ≡ t' → ◌≡◌ {A = Look} (record { hit = o; tries = t }) (record { hit = o'; tries = t' })
looks o o' t t' p q = cc
