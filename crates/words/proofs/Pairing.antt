-- What reading digits two by two says of the bytes that a word writes.
use Rattle.std.proofs.Common.{◌≡◌, ℕ, zero, suc, ◌+◌, ◌*◌, ◌/◌, ◌%◌, ◌<◌, ◌≤◌, true, false, eqb, List, [], ◌∷◌, ◌++◌, length, drop, map, slice_index, Ok, Err, Result, Vec, vec_items, vec_len, vec_capacity, sym, refl, ap, subst, ◌∙◌, append-nil, arith}
use Rattle.std.specs.Prelude.{alloc_error}
use Rattle.std.proofs.lemmas.List.{at_drop_all}
use Rattle.std.proofs.lemmas.Bool.{eq-eqb, ne_eqb}
use Rattle.std.specs.Char.{is_ascii_hexdigit}
use Rattle.std.specs.List.{list_all}
use Rattle.std.specs.Simd.{first_chunks}
use Rattle.std.specs.declared.alloc.Global.{Global}
use Rattle.words.specs.Hex.{Appended, nibble, pairs, hex_in}
use Rattle.words.specs.declared.fault.Unread.{Unread}
use Rattle.words.specs.declared.fault.Unread.TheVariants.{NoMemory}
use Rattle.words.specs.declared.span.Span.{Span}

-- the byte of a pair of digits
abbrev pub byte : List ℕ → ℕ
byte pair = nibble (slice_index pair 0) * 16 + nibble (slice_index pair 1)

pub pairs_by_chunks : (n : ℕ) (cs : List ℕ) → n ≡ length cs / 2 → map byte (first_chunks 2 n cs) ≡ pairs cs
pairs_by_chunks zero [] h = refl
pairs_by_chunks zero (c ∷ []) h = refl
pairs_by_chunks zero (c ∷ d ∷ cs) h = absurd (omega arith)
pairs_by_chunks (suc n) [] h = absurd (omega arith)
pairs_by_chunks (suc n) (c ∷ []) h = absurd (omega arith)
pairs_by_chunks (suc n) (c ∷ d ∷ cs) h =
    ap (λ bs. (nibble c * 16 + nibble d) ∷ bs) (pairs_by_chunks n cs (omega arith))

pub hex_pairs : (w : List ℕ) → true ≡ list_all is_ascii_hexdigit w → length w % 2 ≡ 0 → hex_in w ≡ Ok (pairs w)
hex_pairs w e h =
    let one : eqb (length w) 1 ≡ false = ne_eqb (length w) 1 (λ z. omega arith) in
    let digits = sym e in
    let even = eq-eqb (length w % 2) 0 h in
    rw (one, digits, even) refl

-- the bytes of all chunks, once none is left to read
pub all_read : (chunks : List (List ℕ)) (items all : List ℕ) (i : ℕ) → length chunks ≤ i → items ++ map byte (drop i chunks) ≡ all → items ≡ all
all_read chunks items all i h e =
    sym (append-nil items) ∙ ap (λ l. items ++ l) (sym (at_drop_all (map byte) chunks i h)) ∙ e

-- half as many bytes as digits
length_pairs : (cs : List ℕ) → length (pairs cs) ≡ length cs / 2
length_pairs [] = refl
length_pairs (c ∷ []) = refl
length_pairs (c ∷ d ∷ cs) = let more = length_pairs cs in omega arith

-- what was read is appended
pub appended : (w : List ℕ) (before after : Vec ℕ Global) (s : Span) → true ≡ list_all is_ascii_hexdigit w → length w % 2 ≡ 0 → vec_items after ≡ vec_items before ++ pairs w → s.start ≡ vec_len before → s.end ≡ vec_len after → Appended (hex_in w) before after (Ok s)
appended w before after s e h items start end =
    subst (λ d. Appended d before after (Ok s)) (sym (hex_pairs w e h)) (items, start, end)

-- there is no memory for it
pub no_memory : (w : List ℕ) (before after : Vec ℕ Global) (r : Result Span Unread) (u : Unread) → r ≡ Err u → u ≡ NoMemory alloc_error → true ≡ list_all is_ascii_hexdigit w → length w % 2 ≡ 0 → vec_items after ≡ vec_items before → vec_capacity before < vec_len before + length w / 2 → Appended (hex_in w) before after r
no_memory w before after r u is why e h same full =
    rw is (subst (λ d. Appended d before after (Err u)) (sym (hex_pairs w e h))
    (same, why, let long = length_pairs w in omega arith))
