-- The buffer of a word fill.
-- Assumes nothing.
use Rattle.std.proofs.Common.{◌≡◌, ℕ, zero, suc, ◌+◌, ◌<◌, List, [], ◌∷◌, length, get_or, sym, refl, ap, ◌∙◌, add-zero, zero-add, arith}
use Rattle.std.proofs.lemmas.List.{ext_get_or}
use Rattle.calls.specs.Answers.{entries_from}

entries_length : (f : ℕ → ℕ) (n : ℕ) (xs : List ℕ) → length (entries_from f n xs) ≡ length xs
entries_length f n [] = refl
entries_length f n (x ∷ xs) = let i = entries_length f (n + 1) xs in omega (arith, i)

entries_at : (f : ℕ → ℕ) (n : ℕ) (xs : List ℕ) (k : ℕ) → k < length xs → get_or (entries_from f n xs) k 0 ≡ f (n + k)
entries_at f n [] k l = absurd (omega arith)
entries_at f n (x ∷ xs) zero l = ap f (sym (add-zero n))
entries_at f n (x ∷ xs) (suc k) l = let same : n + 1 + k ≡ n + suc k = omega arith in entries_at f (n + 1) xs k (omega arith) ∙ ap f same

-- a buffer by its entries
pub buffer_is : (f : ℕ → ℕ) (then lent : List ℕ) → length then ≡ length lent → ((k : ℕ) → get_or then k 0 ≡ f k) → then ≡ entries_from f 0 lent
buffer_is f then lent size each =
    ext_get_or 0 then (entries_from f 0 lent) (size ∙ sym (entries_length f 0 lent))
    (λ k l. each k ∙ ap f (sym (zero-add k)) ∙ sym (entries_at f 0 lent k (omega (arith, size))))
