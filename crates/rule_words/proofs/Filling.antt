-- Filling a buffer, set by set: the draws, how many words are stored, and the entries.
-- Assumes nothing.
use Rattle.std.proofs.Common.{◌≡◌, ℕ, zero, suc, ◌+◌, ◌*◌, ◌<◌, ◌≤◌, Bool, true, false, ◌≢◌, List, [], ◌∷◌, length, get_or, set, Option, sym, refl, ap, ◌∙◌, subst, inl, inr, add-one, arith, get_or-set_other, get_or-set_same}
use Rattle.std.proofs.lemmas.Bool.{cases_lt, lt-ltb, le-ltb}
use Rattle.opentype.specs.Bytes.{Array}
use Rattle.opentype.specs.Draws.{Allowance, Drew, of_work, of_bytes}
use Rattle.opentype.specs.Rules.{RuleSet}
use Rattle.opentype.specs.Words.{draws_below, set_draws, word_of}
use Rattle.opentype.proofs.Drawing.{drew_then, drew_stop}
use Rattle.rule_words.specs.Fills.{draws_until, stored_below, entry_of}

module _ (sets : Array (RuleSet (Option ℕ))) where
  -- ---- the draws

  module _ {a : Allowance} (n : ℕ) (is : n ≡ sets.count) where
    pub work_refused : {b : Allowance} → Drew (of_work n ∷ []) a b false → Drew (draws_until sets 0) a b false
    work_refused {b} p =
        drew_stop (of_bytes (8 * sets.count) ∷ []) (subst (λ (m : ℕ). Drew (of_work m ∷ []) a b false) is p)

    pub bytes_drawn : {b c : Allowance} {granted : Bool} → Drew (of_work n ∷ []) a b true → Drew (of_bytes (8 * n) ∷ []) b c granted
        → Drew (draws_until sets 0) a c granted
    bytes_drawn {b} {c} {granted} p q =
        drew_then (subst (λ (m : ℕ). Drew (of_work m ∷ []) a b true) is p) (subst (λ (m : ℕ). Drew (of_bytes (8 * m) ∷ []) b c granted) is q)

  pub set_drawn : {a b c : Allowance} (i : ℕ) → Drew (draws_below (λ k. set_draws (sets.entry k)) i) a b true
      → Drew (set_draws (sets.entry i)) b c true → Drew (draws_below (λ k. set_draws (sets.entry k)) (i + 1)) a c true
  set_drawn i p q = rw add-one (drew_then p q)

  pub sets_drawn : {a b c : Allowance} (i : ℕ) → Drew (draws_until sets 0) a b true → Drew (draws_below (λ k. set_draws (sets.entry k)) i) b c true
      → Drew (draws_until sets i) a c true
  sets_drawn i p q = drew_then p q

  module _ {a b : Allowance} where
    refused_stays : (m n : ℕ) → m ≤ n → Drew (draws_until sets m) a b false → Drew (draws_until sets n) a b false
    refused_stays m zero l p = let e : m ≡ zero = omega arith in subst (λ (k : ℕ). Drew (draws_until sets k) a b false) e p
    refused_stays m (suc n) l p =
        elim (cases_lt n m) [
          | inl last ↦ let e : m ≡ suc n = omega arith in subst (λ (k : ℕ). Drew (draws_until sets k) a b false) e p
          | inr before ↦ drew_stop (set_draws (sets.entry n)) (refused_stays m n before p)
        ]

    -- ---- how many words are stored

    stored_all : (m : ℕ) → Drew (draws_until sets m) a b true → stored_below sets m a ≡ m
    stored_all zero p = refl
    stored_all (suc m) p = let g = sym p.answer in rw g refl

    stored_stays : (m n : ℕ) → m ≤ n → Drew (draws_until sets (suc m)) a b false → stored_below sets n a ≡ stored_below sets m a
    stored_stays m zero l p = let e : m ≡ zero = omega arith in ap (λ (k : ℕ). stored_below sets k a) (sym e)
    stored_stays m (suc n) l p =
        elim (cases_lt n m) [
          | inl last ↦ let e : m ≡ suc n = omega arith in ap (λ (k : ℕ). stored_below sets k a) (sym e)
          | inr before ↦
              let g = sym (refused_stays (suc m) (suc n) (omega arith) p).answer in rw g (stored_stays m n before p)
        ]

  -- ---- the entries

  entry_before : (i : ℕ) (w : List ℕ) (k : ℕ) → k < i → entry_of sets i w k ≡ word_of (sets.entry k)
  entry_before i w k l = let t = lt-ltb k i l in rw t refl

  entry_behind : (i : ℕ) (w : List ℕ) (k : ℕ) → i ≤ k → entry_of sets i w k ≡ get_or w k 0
  entry_behind i w k l = let t = le-ltb k i l in rw t refl

  pub one_stored : (i : ℕ) (ws w : List ℕ) (v : ℕ) → i < length ws → v ≡ word_of (sets.entry i)
      → ((k : ℕ) → get_or ws k 0 ≡ entry_of sets i w k) → (k : ℕ) → get_or (set ws i v) k 0 ≡ entry_of sets (i + 1) w k
  one_stored i ws w v l e inv k =
      elim (cases_lt k i) [
        | inl before ↦
            let ne : k ≢ i = omega arith in
            get_or-set_other ws i k v 0 ne ∙ inv k ∙ entry_before i w k before ∙ sym (entry_before (i + 1) w k (omega arith))
        | inr behind ↦ elim (cases_lt i k) [
          | inl past ↦
              let ne : k ≢ i = omega arith in
              get_or-set_other ws i k v 0 ne ∙ inv k ∙ entry_behind i w k behind ∙ sym (entry_behind (i + 1) w k (omega arith))
          | inr here ↦
              let is : i ≡ k = omega arith in
              subst (λ (j : ℕ). get_or (set ws i v) j 0 ≡ entry_of sets (i + 1) w j) is
              (get_or-set_same ws i v 0 l ∙ e ∙ sym (entry_before (i + 1) w i (omega arith)))
        ]
      ]

  -- ---- how a fill ends: all granted, a refused draw before the first set, or one of set i

  module _ {a b : Allowance} (w : List ℕ) where
    pub all_filled : Drew (draws_until sets sets.count) a b true → (k : ℕ)
        → entry_of sets sets.count w k ≡ entry_of sets (stored_below sets sets.count a) w k
    all_filled p k = ap (λ (m : ℕ). entry_of sets m w k) (sym (stored_all sets.count p))

    pub none_filled : Drew (draws_until sets 0) a b false
        → Drew (draws_until sets sets.count) a b false
        × ((k : ℕ) → get_or w k 0 ≡ entry_of sets (stored_below sets sets.count a) w k)
    none_filled p = (
      refused_stays 0 sets.count (omega arith) p,
      λ k.
          sym (entry_behind 0 w k (omega arith))
          ∙ ap (λ (m : ℕ). entry_of sets m w k) (sym (stored_stays 0 sets.count (omega arith) (refused_stays 0 1 (omega arith) p))),
    )

    pub some_filled : {c : Allowance} (i : ℕ) → i < sets.count → Drew (draws_until sets i) a c true → Drew (set_draws (sets.entry i)) c b false
        → Drew (draws_until sets sets.count) a b false
        × ((k : ℕ) → entry_of sets i w k ≡ entry_of sets (stored_below sets sets.count a) w k)
    some_filled i l p q =
        let r : Drew (draws_until sets (suc i)) a b false = drew_then p q in (
          refused_stays (suc i) sets.count l r,
          λ k. ap (λ (m : ℕ). entry_of sets m w k) (sym (stored_stays i sets.count (omega arith) r ∙ stored_all i p)),
        )
