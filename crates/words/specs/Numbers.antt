-- Decimal numbers without a sign, and ranges of them.
use Rattle.std.specs.Prelude.{ℕ, ◌+◌, ◌-◌, ◌*◌, ◌^◌, Bool, cond, ◌&&◌, List, [], ◌∷◌, length, take, drop, Ok, Err, Result, ◌==◌, nat_le, nat_lt, slice_index}
use Rattle.std.specs.Char.{is_ascii_digit}
use Rattle.std.specs.List.{list_all}
use Rattle.words.specs.Bytes.{index_of}
use Rattle.words.specs.declared.fault.Fault.{Fault}
use Rattle.words.specs.declared.fault.Fault.TheVariants.{NotANumber, NotARange, NumberTooLarge}

-- the number that digits write after those of `n`
abbrev pub value_after : ℕ → List ℕ → ℕ
value_after n [] = n
value_after n (c ∷ cs) = value_after (n * 10 + (c - 48)) cs

-- the number, where it is below the limit
abbrev pub below : ℕ → ℕ → Result ℕ Fault
below limit n = cond (nat_lt n limit) (Ok n) (Err NumberTooLarge)

-- the number below the limit that a word writes: one digit or more, and nothing else
abbrev pub decimal_in : ℕ → List ℕ → Result ℕ Fault
decimal_in limit [] = Err NotANumber
decimal_in limit (c ∷ cs) = cond (list_all is_ascii_digit (c ∷ cs)) (below limit (value_after 0 (c ∷ cs))) (Err NotANumber)

-- whether a number that was read is 1
abbrev pub is_one : Result ℕ Fault → Result Bool Fault
is_one (Ok n) = Ok (n == 1)
is_one (Err f) = Err f

-- the flag that a word writes, as 0 or 1
abbrev pub flag_in : List ℕ → Result Bool Fault
flag_in w = is_one (decimal_in 2 w)

-- two numbers that were read, unless one is a fault
abbrev pub between : Result ℕ Fault → Result ℕ Fault → Result (ℕ × ℕ) Fault
between (Err f) last = Err f
between (Ok a) (Err f) = Err f
between (Ok a) (Ok b) = Ok (a, b)

-- the ends of the range that a word writes: two dots at its first dot, a number below 2^32 before them and one after
abbrev pub range_in : List ℕ → Result (ℕ × ℕ) Fault
range_in w =
    let i : ℕ = index_of 46 w in
    cond (nat_le (i + 2) (length w) && slice_index w (i + 1) == 46)
    (between (decimal_in (2 ^ 32) (take i w)) (decimal_in (2 ^ 32) (drop (i + 2) w)))
    (Err NotARange)
