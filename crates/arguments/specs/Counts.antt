-- So many words.
use Rattle.std.specs.Prelude.{◌≡◌, ℕ, cond, List, [], ◌∷◌, length, Ok, Err, Result, MatchResult, nat_lt}
use Rattle.words.specs.declared.fault.Fault.{Fault}
use Rattle.words.specs.declared.fault.Fault.TheVariants.{MissingWord, ExtraWord}

-- what follows from a value that was read; a fault stays
abbrev pub and_then : {X Y : Type 0} → Result X Fault → (X → Result Y Fault) → Result Y Fault
and_then (Ok x) f = f x
and_then (Err e) f = Err e

-- no word, and so many words
abbrev pub none_of : List (List ℕ) → Result (Unit {0}) Fault
none_of [] = Ok tt
none_of (w ∷ ws) = Err ExtraWord

abbrev pub exactly : ℕ → List (List ℕ) → Result (Unit {0}) Fault
exactly n ws = cond (nat_lt (length ws) n) (Err MissingWord) (cond (nat_lt n (length ws)) (Err ExtraWord) (Ok tt))

-- the first word, with those after it
abbrev pub next_word : List (List ℕ) → Result (List ℕ × List (List ℕ)) Fault
next_word [] = Err MissingWord
next_word (w ∷ ws) = Ok (w, ws)

-- the first two words and those after them, and two words with none after them
abbrev pub first_two : List (List ℕ) → Result ((List ℕ × List ℕ) × List (List ℕ)) Fault
first_two [] = Err MissingWord
first_two (a ∷ []) = Err MissingWord
first_two (a ∷ b ∷ ws) = Ok ((a, b), ws)

abbrev pub two_of : List (List ℕ) → Result (List ℕ × List ℕ) Fault
two_of ws = and_then (first_two ws) (λ p. and_then (none_of p.1) (λ _. Ok p.0))

-- what was read, as `view` sees it, is what is said; a fault is what is said too
abbrev pub Answered : {X Y : Type 0} (said : Result Y Fault) (view : X → Y) → Result X Fault → Type 0
Answered said view r = MatchResult r (λ x. said ≡ Ok (view x)) (λ f. said ≡ Err f)

-- the same of what was read from the front of some words, with the words after it
abbrev pub Taken : {X Y : Type 0} (read : List (List ℕ) → Result (Y × List (List ℕ)) Fault) (view : X → Y) (before : List (List ℕ)) → Result X Fault → (after : List (List ℕ)) → Type 0
Taken read view before r after = Answered (read before) (λ x. (view x, after)) r
