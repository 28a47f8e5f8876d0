-- The entries of an array as a list, and what the first of them that answers tells.
-- Assumes nothing.
use Rattle.std.proofs.Common.{◌≡◌, ℕ, zero, suc, ◌+◌, ◌-◌, ◌<◌, Bool, true, false, ◌||◌, List, [], ◌∷◌, map, length, slice_index_or, Some, None, Option, sym, refl, ap, subst, ◌∙◌, arith}
use Rattle.std.specs.List.{list_any, range_with_len}
use Rattle.std.proofs.lemmas.List.FromFn.{get_or-map-range_with_len, length-map-range_with_len, map-range_with_len_more}
use Rattle.std.proofs.lemmas.List.Folds.{list_any-append}
use Rattle.std.specs.Option.{IfSome, IsSomeAnd, MatchOption, option_map}
use Rattle.std.specs.Fn.{Called}
use Rattle.std.specs.Bool.{IsTrue}
use Rattle.std.specs.Iterator.{YieldsFirstBy}
use Rattle.std.specs.Iterator.Runs.{Run, SomeRun, AllItemsGive, CallKeepsClosure, IsFirstToGive, ItemsMapTo}
use Rattle.std.proofs.iter.Rest.{run_of_first_by}
use denote.Param.Members.{Mut}
use Rattle.opentype.specs.Bytes.{Array}
use Rattle.opentype.specs.Matching.{any_below, first_below}
use Rattle.opentype.proofs.Matched.{first_met}
use Rattle.readers.specs.Views.{entries}

turned : (a b : Bool) → (a || (b || false)) ≡ (b || a)
turned true true = refl
turned true false = refl
turned false true = refl
turned false false = refl

any_more : {X : Type 0} (test : X → Bool) (f : ℕ → X) (n : ℕ) → list_any test (map f (range_with_len 0 n)) ≡ any_below (λ k. test (f k)) n
any_more test f zero = refl
any_more test f (suc n) =
    let more = map-range_with_len_more f 0 n n (omega arith) in
    let one : suc n ≡ n + 1 = omega arith in
    let step : list_any test (map f (range_with_len 0 (suc n))) ≡ (list_any test (map f (range_with_len 0 n)) || (test (f n) || false)) =
    ap (λ (k : ℕ). list_any test (map f (range_with_len 0 k))) one ∙ ap (list_any test) more ∙ list_any-append test (map f (range_with_len 0 n)) (f n ∷ []) in
    step ∙ rw (any_more test f n) (turned (any_below (λ k. test (f k)) n) (test (f n)))

whole : (n : ℕ) → n - 0 ≡ n
whole n = omega arith

pub any_entries : {X : Type 0} (test : X → Bool) (a : Array X) → list_any test (entries a) ≡ any_below (λ k. test (a.entry k)) a.count
any_entries test a = ap (λ (n : ℕ). list_any test (map a.entry (range_with_len 0 n))) (whole a.count) ∙ any_more test a.entry a.count

pub none_below : {X : Type 0} (f : ℕ → Option X) (n : ℕ) → ((k : ℕ) → k < n → f k ≡ None) → first_below f n ≡ None
none_below f zero g = refl
none_below f (suc n) g = let a = none_below f n (λ k l. g k (omega arith)) in let b = g n (omega arith) in rw (a, b) refl

length_entries : {X : Type 0} (a : Array X) → length (entries a) ≡ a.count
length_entries a = length-map-range_with_len a.entry 0 (a.count - 0) ∙ whole a.count

entry_at : {X : Type 0} (a : Array X) (k : ℕ) → k < a.count → slice_index_or (entries a) k (a.entry 0) ≡ a.entry k
entry_at a k l = get_or-map-range_with_len a.entry 0 (a.count - 0) k k (a.entry 0) (omega arith) (omega arith)

-- what `find_map` answers over the entries: the first answer of all
module _ {S A B C D F : Type 0} (view : A → B) (rest : S → List B) (w : C → D) (told : B → Option D) (all : Array B) (g : Mut F (A × Unit {0}) (Option C)) (f : F)
    (calls : (x : A) (b : Option C) (q : F) → Called g f (x, tt) b q → (q ≡ f) × (option_map w b ≡ told (view x))) where
  at_item : (o : Option A) (y : B) (b : Option C) → option_map view o ≡ Some y → IsSomeAnd o (λ x. Called g f (x, tt) b f) → option_map w b ≡ told y
  at_item None y b e h = absurd h
  at_item (Some x) y b e h = let same : view x ≡ y = cc in (calls x b f h).1 ∙ ap told same

  if_item : (o : Option A) (y : B) (b : Option C) → option_map view o ≡ Some y → IfSome o (λ x. Called g f (x, tt) b f) → option_map w b ≡ told y
  if_item None y b e h = grind arith
  if_item (Some x) y b e h = at_item (Some x) y b e h

  keeps : CallKeepsClosure g f
  keeps a r q k = (calls a.0 r q k).0

  module _ (p : Run (YieldsFirstBy view rest)) (left : rest p.from ≡ entries all) where
    reads : ItemsMapTo p view (entries all)
    reads = subst (λ (ys : List B). ItemsMapTo p view ys) left (run_of_first_by view rest p).1

    item : (k : ℕ) → k < p.len → option_map view (p.at k) ≡ Some (all.entry k)
    item k l = let short = reads.0 in let n = length_entries all in reads.2 k (all.entry 0) l ∙ ap Some (entry_at all k (omega arith))

    pub first_answer : (r : Option C) → MatchOption r (IsTrue p.whole × AllItemsGive p g f None)
        (λ y. (i : ℕ) × (i < p.len) × (p.len ≡ i + 1) × IsFirstToGive p g f (Some y) None i)
        → option_map w r ≡ first_below (λ k. told (all.entry k)) all.count
    first_answer None h =
        let long = reads.1 h.0 in let n = length_entries all in
        sym (none_below (λ k. told (all.entry k)) all.count
        (λ k l. let within : k < p.len = omega arith in sym (if_item (p.at k) (all.entry k) None (item k within) (h.1 keeps k))))
    first_answer (Some y) h =
        let short = reads.0 in let n = length_entries all in
        let first = h.3 keeps in
        first_met (λ k. told (all.entry k)) all.count h.0 (w y) (omega (arith, h.1))
        (none_below (λ k. told (all.entry k)) h.0
        (λ k l. let within : k < p.len = omega (arith, h.1) in sym (at_item (p.at k) (all.entry k) None (item k within) (first.1 k l))))
        (sym (at_item (p.at h.0) (all.entry h.0) (Some y) (item h.0 h.1) first.0))

  pub first_from_find_map : {s : S} (r : Option C)
      → SomeRun (YieldsFirstBy view rest) s (λ p. MatchOption r (IsTrue p.whole × AllItemsGive p g f None)
      (λ y. (i : ℕ) × (i < p.len) × (p.len ≡ i + 1) × IsFirstToGive p g f (Some y) None i))
      → rest s ≡ entries all
      → option_map w r ≡ first_below (λ k. told (all.entry k)) all.count
  first_from_find_map r run left = first_answer run.0 (ap rest run.1 ∙ left) r run.2
