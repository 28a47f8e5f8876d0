-- Arguments in one word, in two, or in the first two of more.
use Rattle.std.specs.Prelude.{ℕ, ◌^◌, Bool, List, Ok, Result}
use Rattle.words.specs.Numbers.{decimal_in, flag_in}
use Rattle.words.specs.declared.fault.Fault.{Fault}
use Rattle.arguments.specs.Counts.{and_then, first_two, next_word, none_of, two_of}
use Rattle.arguments.specs.Kinds.{chained_in}

-- what one word says, by what a word of its kind says; what two words say
abbrev pub one_of : {X : Type 0} → (List ℕ → Result X Fault) → List (List ℕ) → Result X Fault
one_of said ws = and_then (next_word ws) (λ p. and_then (none_of p.1) (λ _. said p.0))

abbrev pub both_of : {X Y : Type 0} → (List ℕ → Result X Fault) → (List ℕ → Result Y Fault) → List (List ℕ) → Result (X × Y) Fault
both_of said also ws =
    and_then (two_of ws) (λ p. and_then (said p.0) (λ a. and_then (also p.1) (λ b. Ok (a, b))))

-- what the first word says, and what the first two say; each with the words after them
abbrev pub first_of : {X : Type 0} → (List ℕ → Result X Fault) → List (List ℕ) → Result (X × List (List ℕ)) Fault
first_of said ws = and_then (next_word ws) (λ p. and_then (said p.0) (λ a. Ok (a, p.1)))

abbrev pub first_both_of : {X Y : Type 0} → (List ℕ → Result X Fault) → (List ℕ → Result Y Fault) → List (List ℕ) → Result ((X × Y) × List (List ℕ)) Fault
first_both_of said also ws =
    and_then (first_two ws) (λ p. and_then (said p.0.0) (λ a. and_then (also p.0.1) (λ b. Ok ((a, b), p.1))))

-- one number below a limit
abbrev pub number_of : ℕ → List (List ℕ) → Result ℕ Fault
number_of limit = one_of (decimal_in limit)

-- two numbers below a limit
abbrev pub numbers_of : ℕ → List (List ℕ) → Result (ℕ × ℕ) Fault
numbers_of limit = both_of (decimal_in limit) (decimal_in limit)

-- the word of a table, and a glyph
abbrev pub table_of : List (List ℕ) → Result (List ℕ × ℕ) Fault
table_of ws = and_then (two_of ws) (λ p. and_then (decimal_in (2 ^ 32) p.1) (λ g. Ok (p.0, g)))

-- the word of a subtable, behind whether it is chained
abbrev pub open_of : List (List ℕ) → Result (List ℕ × Bool) Fault
open_of ws = and_then (two_of ws) (λ p. and_then (chained_in p.0) (λ chained. Ok (p.1, chained)))

-- a count, and a flag; each with the words after it
abbrev pub count_of : List (List ℕ) → Result (ℕ × List (List ℕ)) Fault
count_of = first_of (decimal_in (2 ^ 32))

abbrev pub flag_of : List (List ℕ) → Result (Bool × List (List ℕ)) Fault
flag_of = first_of flag_in

-- the number of a subtable and a place; the number of a subtable and a flag; each with the words after them
abbrev pub hit_of : List (List ℕ) → Result ((ℕ × ℕ) × List (List ℕ)) Fault
hit_of = first_both_of (decimal_in (2 ^ 32)) (decimal_in (2 ^ 64))

abbrev pub applies_of : List (List ℕ) → Result ((ℕ × Bool) × List (List ℕ)) Fault
applies_of = first_both_of (decimal_in (2 ^ 32)) flag_in
