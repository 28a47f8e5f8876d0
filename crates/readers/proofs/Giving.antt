-- Iterators that give the entries of an array, in order.
-- Assumes nothing.
use Rattle.std.proofs.Common.{◌≡◌, ℕ, zero, suc, refl, ◌+◌, ◌-◌, ◌<◌, ◌≤◌, List, map, ◌∷◌, length, Some, None, Option, ap, ◌∙◌, arith}
use Rattle.std.specs.Iterator.{Yields, YieldsFirst, YieldsFirstBy}
use Rattle.std.specs.List.{range_with_len, zip}
use Rattle.std.specs.declared.iter.Zip.{Zip}
use Rattle.std.specs.declared.ops.Range.{Range}
use Rattle.std.specs.Iterator.Adapters.{zip_first, zip_second}
use Rattle.std.proofs.iter.Yields.{nat_range_steps}
use Rattle.std.proofs.lemmas.Iterator.{YieldsList, YieldsList-from_range, YieldsList-from_zip, zips}
use Rattle.std.proofs.lemmas.Iterator.Consumers.{YieldsList-from_first, YieldsList-turn, YieldsList-end}
use Rattle.std.proofs.lemmas.List.FromFn.{length-map-range_with_len, get_or-map-range_with_len}
use Rattle.opentype.specs.Bytes.{Array}
use Rattle.readers.specs.Views.{entries}

pub record Gives {S A X : Type 0} (steps : S → Option A → S → Type 0) (shows : A → X) (s : S) (a : Array X) : Type 0 where
  pub items : YieldsList steps shows s (entries a)

-- one whose call gives the first of what is left, as it shows
pub gives : {S A X : Type 0} (shows : A → X) (rest : S → List X) {s t : S} {a : Array X} → t ≡ s → rest s ≡ entries a
    → Gives (YieldsFirstBy shows rest) shows t a
gives shows rest {a = a} is all = record { items = YieldsList-from_first shows rest (entries a) (ap rest is ∙ all) }

zip_entries : {X : Type 0} (f : ℕ → X) (start n m : ℕ) → m ≤ n
    → zip (range_with_len start n) (map f (range_with_len start m)) ≡ map (λ k. (k, f k)) (range_with_len start m)
zip_entries f start zero zero l = refl
zip_entries f start zero (suc m) l = absurd (omega arith)
zip_entries f start (suc n) zero l = refl
zip_entries f start (suc n) (suc m) l = ap (λ ps. (start, f start) ∷ ps) (zip_entries f (start + 1) n m (omega arith))

-- one that is zipped with the numbers of the entries
pub gives_numbered : {S X : Type 0} (rest : S → List X) {s t : Zip (Range ℕ) S} {r : Range ℕ} {i : S} {n : ℕ} {a : Array X} → t ≡ s
    → zip_first s ≡ r → r ≡ record { start = 0; end = n } → zip_second s ≡ i → rest i ≡ entries a → a.count ≤ n
    → Gives (zips nat_range_steps (YieldsFirst rest)) (λ p. p) t (record { count = a.count; entry = λ k. (k, a.entry k) })
gives_numbered {S} {X} rest {n = n} {a = a} is first range second all room =
    rw (is)
    (record {
      items =
          rw (← zip_entries a.entry 0 n (a.count - 0) (omega arith))
          (YieldsList-from_zip
          (YieldsList-from_range 0 n n (first ∙ range) (omega arith))
          (YieldsList-from_first (λ (x : X). x) rest (entries a) (ap rest second ∙ all)));
    })

-- ---- a turn of a loop, from a state in which the iterator has given `xs`

module _ {S A X : Type 0} {steps : S → Option A → S → Type 0} {shows : A → X} {s : S} {a : Array X} (all : Gives steps shows s a)
    (xs : List A) (t : S) (before : Yields steps s xs t) {r : Option A} (u : S) (now : steps t r u) where
  -- the item shows the entry at the number of turns before it
  pub item_is : (x : A) → r ≡ Some x → (length xs < a.count) × (shows x ≡ a.entry (length xs))
  item_is x is =
      let t = YieldsList-turn all.items xs t before r u x is now in
      let within : length xs < a.count = omega (arith, length-map-range_with_len a.entry 0 (a.count - 0)) in
      (within, t.1 ∙ get_or-map-range_with_len a.entry 0 (a.count - 0) (length xs) (length xs) (shows x) (omega arith) (omega arith))

  -- there are as many turns as entries
  pub all_taken : r ≡ None → length xs ≡ a.count
  all_taken is =
      let e = YieldsList-end all.items xs t before r u is now in
      omega (arith, length-map-range_with_len a.entry 0 (a.count - 0))
