-- Lists and sums over the numbers below n.
-- Assumes nothing.
use Rattle.std.proofs.Common.{◌≡◌, ℕ, zero, suc, ◌+◌, ◌<◌, ◌≤◌, Bool, ◌||◌, List, [], ◌++◌, Option, refl, ap, ◌∙◌, ap₂, append_assoc, append-nil, add-zero, add-suc, add-one, arith}
use Rattle.std.specs.Option.{option_or, option_to_list}
use Rattle.opentype.specs.Matching.{any_below, first_below}
use Rattle.book.specs.Scans.{list_below, sum_below}

pub sum_more : (f : ℕ → ℕ) (k : ℕ) → sum_below f (k + 1) ≡ sum_below f k + f k
sum_more f k = rw add-one

pub list_more : {X : Type 0} (f : ℕ → Option X) (n : ℕ) → list_below f (n + 1) ≡ list_below f n ++ option_to_list (f n)
list_more f n = rw add-one

-- the list below n begins that below n + d
pub list_split : {X : Type 0} (f : ℕ → Option X) (n d : ℕ) → (rest : List X) × (list_below f (n + d) ≡ list_below f n ++ rest)
list_split f n zero = ([], rw (add-zero, append-nil))
list_split f n (suc d) =
    let i = list_split f n d in
    (i.0 ++ option_to_list (f (n + d)), rw add-suc (ap (λ xs. xs ++ option_to_list (f (n + d))) i.1 ∙ append_assoc (list_below f n) i.0 (option_to_list (f (n + d)))))

-- ---- what is the same below n gives the same

pub first_same : {X : Type 0} (f g : ℕ → Option X) (n : ℕ) → ((k : ℕ) → k < n → f k ≡ g k) → first_below f n ≡ first_below g n
first_same f g zero h = refl
first_same f g (suc n) h = ap₂ option_or (first_same f g n (λ k l. h k (omega arith))) (h n (omega arith))

pub list_same : {X : Type 0} (f g : ℕ → Option X) (n : ℕ) → ((k : ℕ) → k < n → f k ≡ g k) → list_below f n ≡ list_below g n
list_same f g zero h = refl
list_same f g (suc n) h = ap₂ (λ xs o. xs ++ option_to_list o) (list_same f g n (λ k l. h k (omega arith))) (h n (omega arith))

pub sum_same : (f g : ℕ → ℕ) (n : ℕ) → ((k : ℕ) → k < n → f k ≡ g k) → sum_below f n ≡ sum_below g n
sum_same f g zero h = refl
sum_same f g (suc n) h = ap₂ (λ a b. a + b) (sum_same f g n (λ k l. h k (omega arith))) (h n (omega arith))

pub sum_le : (f g : ℕ → ℕ) (n : ℕ) → ((k : ℕ) → k < n → f k ≤ g k) → sum_below f n ≤ sum_below g n
sum_le f g zero h = omega arith
sum_le f g (suc n) h = let i = sum_le f g n (λ k l. h k (omega arith)) in let j = h n (omega arith) in omega (arith, i, j)

pub any_same : (f g : ℕ → Bool) (n : ℕ) → ((k : ℕ) → k < n → f k ≡ g k) → any_below f n ≡ any_below g n
any_same f g zero h = refl
any_same f g (suc n) h = ap₂ (λ a b. a || b) (h n (omega arith)) (any_same f g n (λ k l. h k (omega arith)))
