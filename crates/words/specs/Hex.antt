-- Bytes written as hexadecimal digits, two to a byte.
use Rattle.std.specs.Prelude.{◌≡◌, ℕ, ◌+◌, ◌-◌, ◌*◌, ◌%◌, ◌<◌, cond, ◌&&◌, List, [], ◌∷◌, ◌++◌, length, Ok, Err, vec_items, vec_len, vec_capacity, Result, Vec, MatchResult, ◌==◌, nat_lt, slice_index, alloc_error}
use Rattle.std.specs.Char.{is_ascii_hexdigit}
use Rattle.std.specs.List.{list_all}
use Rattle.std.specs.declared.alloc.Global.{Global}
use Rattle.words.specs.declared.fault.Fault.{Fault}
use Rattle.words.specs.declared.fault.Fault.TheVariants.{NotHex, OddHex}
use Rattle.words.specs.declared.fault.Unread.{Unread}
use Rattle.words.specs.declared.fault.Unread.TheVariants as unread
use Rattle.words.specs.declared.span.Span.{Span}

-- the value of a hexadecimal digit of either case
abbrev pub nibble : ℕ → ℕ
nibble c = cond (is_ascii_hexdigit c) (cond (nat_lt c 58) (c - 48) (cond (nat_lt c 71) (c - 55) (c - 87))) 0

-- the bytes that pairs of digits write, the high digit first
abbrev pub pairs : List ℕ → List ℕ
pairs [] = []
pairs (c ∷ []) = []
pairs (c ∷ d ∷ cs) = (nibble c * 16 + nibble d) ∷ pairs cs

-- the bytes that a word writes: none for `-`, else an even number of digits
abbrev pub hex_in : List ℕ → Result (List ℕ) Fault
hex_in w =
    cond (length w == 1 && slice_index w 0 == 45) (Ok [])
    (cond (list_all is_ascii_hexdigit w) (cond (length w % 2 == 0) (Ok (pairs w)) (Err OddHex)) (Err NotHex))

-- bytes read are appended and stand from the old length to the new one, unless the buffer has no room for them and there is no memory;
-- a fault leaves the buffer as it was
abbrev pub Appended : Result (List ℕ) Fault → (before after : Vec ℕ Global) → Result Span Unread → Type 0
Appended (Ok bs) before after r =
    MatchResult r
    (λ s. (vec_items after ≡ vec_items before ++ bs) × (s.start ≡ vec_len before) × (s.end ≡ vec_len after))
    (λ u. (vec_items after ≡ vec_items before) × (u ≡ unread.NoMemory alloc_error) × (vec_capacity before < vec_len before + length bs))
Appended (Err f) before after r = (vec_items after ≡ vec_items before) × (r ≡ Err (unread.Fault f))
