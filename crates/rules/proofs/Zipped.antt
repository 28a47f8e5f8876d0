-- A test of an array's entries, each beside an element of a list, by their places.
-- Assumes nothing.
use Rattle.std.proofs.Common.{◌≡◌, ℕ, zero, suc, ◌+◌, ◌-◌, ◌<◌, ◌≤◌, Bool, true, false, ◌&&◌, List, [], ◌∷◌, map, length, get_or, refl, ◌∙◌, sym, ap, subst, arith}
use Rattle.std.specs.List.{list_all, range_with_len, zip}
use Rattle.opentype.specs.Bytes.{Array}
use Rattle.opentype.specs.Matching.{all_below}
use Rattle.readers.specs.Views.{entries}

swapped : (a b c : Bool) → (a && (b && c)) ≡ (b && (a && c))
swapped true true c = refl
swapped true false c = refl
swapped false true c = refl
swapped false false c = refl

all_first : (test : ℕ → Bool) (n : ℕ) → all_below test (suc n) ≡ (test 0 && all_below (λ k. test (suc k)) n)
all_first test zero = refl
all_first test (suc n) = rw (all_first test n) (swapped (test (suc n)) (test 0) (all_below (λ k. test (suc k)) n))

module _ {X : Type 0} (means : X → ℕ → Bool) (f : ℕ → X) where
  all_zip : (start n : ℕ) (ys : List ℕ) (test : ℕ → Bool) → n ≤ length ys
      → ((k j : ℕ) → k < n → start + k ≡ j → means (f j) (get_or ys k 0) ≡ test k)
      → list_all (λ p. means p.0 p.1) (zip (map f (range_with_len start n)) ys) ≡ all_below test n
  all_zip start zero ys test room same = refl
  all_zip start (suc n) [] test room same = absurd (omega arith)
  all_zip start (suc n) (y ∷ ys) test room same =
      let here : means (f start) y ≡ test 0 = same 0 start (omega arith) (omega arith) in
      let later = all_zip (start + 1) n ys (λ k. test (suc k)) (omega arith) (λ k j l e. same (suc k) j (omega arith) (omega arith)) in
      rw (here, later) (sym (all_first test n))

-- for each entry
pub all_beside : {X : Type 0} (means : X → ℕ → Bool) (a : Array X) (ys : List ℕ) (test : ℕ → Bool) → a.count ≤ length ys
    → ((k : ℕ) → k < a.count → means (a.entry k) (get_or ys k 0) ≡ test k)
    → list_all (λ p. means p.0 p.1) (zip (entries a) ys) ≡ all_below test a.count
all_beside means a ys test room same =
    let whole : a.count - 0 ≡ a.count = omega arith in
    ap (λ (n : ℕ). list_all (λ p. means p.0 p.1) (zip (map a.entry (range_with_len 0 n)) ys)) whole
    ∙ all_zip means a.entry 0 a.count ys test room (λ k j l e. let here : k ≡ j = omega arith in subst (λ (i : ℕ). means (a.entry i) (get_or ys k 0) ≡ test k) here (same k l))
