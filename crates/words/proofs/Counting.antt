-- What reading digits one after the other says of the number that a word writes.
use Rattle.std.proofs.Common.{◌≡◌, ℕ, ◌+◌, ◌-◌, ◌*◌, ◌<◌, ◌≤◌, true, false, eqb, List, [], ◌∷◌, length, get_or, drop, Ok, Err, Result, ltb, ⊎_elim, sym, refl, ap, ◌∙◌, arith}
use Rattle.std.proofs.lemmas.List.{at_drop_more}
use Rattle.std.proofs.lemmas.Bool.{cases_Bool, false≢true, le-ltb, ltb-false}
use Rattle.std.specs.Char.{is_ascii_digit}
use Rattle.words.specs.declared.fault.Fault.{Fault}
use Rattle.words.specs.declared.fault.Fault.TheVariants.{NumberTooLarge}
use Rattle.std.specs.List.{list_all}
use Rattle.words.specs.Numbers.{value_after, below, decimal_in}

-- more digits never make a number smaller
value_ge : (n : ℕ) (cs : List ℕ) → n ≤ value_after n cs
value_ge n [] = omega arith
value_ge n (c ∷ cs) = let more = value_ge (n * 10 + (c - 48)) cs in omega arith

decimal_digits : (limit : ℕ) (w : List ℕ) → (false ≡ eqb (length w) 0) → true ≡ list_all is_ascii_digit w → decimal_in limit w ≡ below limit (value_after 0 w)
decimal_digits limit [] h e = absurd (false≢true h)
decimal_digits limit (c ∷ cs) h e = let d = sym e in rw d refl

-- what a number that is refused says
past_below : (limit n : ℕ) (f : Fault) → Err f ≡ below limit n → (limit ≤ n) × (f ≡ NumberTooLarge)
past_below limit n f e =
    ⊎_elim
    (λ (t : ltb n limit ≡ true). let z : ◌≡◌ {A = Result ℕ Fault} (Err f) (Ok n) = rw t at e in cc)
    (λ (t : ltb n limit ≡ false). let z : ◌≡◌ {A = Result ℕ Fault} (Err f) (Err NumberTooLarge) = rw t at e in (ltb-false n limit t, cc))
    (cases_Bool (ltb n limit))

below_past : (limit n : ℕ) → limit ≤ n → Err NumberTooLarge ≡ below limit n
below_past limit n h = let f = le-ltb n limit h in rw f refl

module _ (w : List ℕ) (i n : ℕ) where
  value_more : i < length w → value_after n (drop i w) ≡ value_after 0 w → value_after (n * 10 + (get_or w i 0 - 48)) (drop (i + 1) w) ≡ value_after 0 w
  value_more h e = sym (at_drop_more (value_after n) w i 0 h) ∙ e

  -- digits so far that write a number past the limit write one with what follows
  value_past : (limit : ℕ) → i < length w → value_after n (drop i w) ≡ value_after 0 w → limit ≤ n * 10 + (get_or w i 0 - 48) → limit ≤ value_after 0 w
  value_past limit h e p =
      let more = value_more h e in
      let ge = value_ge (n * 10 + (get_or w i 0 - 48)) (drop (i + 1) w) in
      omega arith

  pub refused : (limit : ℕ) → (false ≡ eqb (length w) 0) → true ≡ list_all is_ascii_digit w → i < length w → value_after n (drop i w) ≡ value_after 0 w → (f : Fault) → Err f ≡ below limit (n * 10 + (get_or w i 0 - 48)) → Err f ≡ decimal_in limit w
  refused limit some all h e f is =
      let past = past_below limit _ f is in
      ap Err past.1 ∙ below_past limit (value_after 0 w) (value_past limit h e past.0) ∙ sym (decimal_digits limit w some all)
