-- The tally keeps step with the allowance, and its rest and sums come to what was given.
-- Assumes nothing.
use Rattle.std.proofs.Common.{◌≡◌, ℕ, ◌≤◌, Bool, true, false, cond, List, [], ◌∷◌, ◌++◌, map, sym, refl, ap, ◌∙◌, add-zero, arith}
use Rattle.std.proofs.lemmas.List.{append_assoc}
use Rattle.std.proofs.lemmas.Bool.{cond_both, leb-true}
use Rattle.opentype.specs.Draws.{Allowance, Counter, Draw, byte_counter, fits, left_of, rest, work_counter}
use Rattle.opentype.specs.Meaning.{Subtable}
use Rattle.calls.specs.Events.{Event, State, after, beside, draws_of, effect, filter, new_book, tally, tally_on}
use Rattle.calls.specs.Promise.{AddsUp}
use Rattle.calls.specs.Tallies.{Tally, ◌plus◌, granted, nothing, starts, tallied}

allowances : (w w' b b' : ℕ) → w ≡ w' → b ≡ b' → ◌≡◌ {A = Allowance} (record { work = w; bytes = b }) (record { work = w'; bytes = b' })
allowances w w' b b' p q = cc

-- ---- the draws of one call

whole_granted : (c : Counter) (n : ℕ) (t : Tally) → n ≤ left_of c t.rest → (granted (record { counter = c; amount = n }) t).rest plus (granted (record { counter = c; amount = n }) t).drawn ≡ t.rest plus t.drawn
whole_granted work_counter n t le = allowances _ _ _ _ (omega (arith, le)) (omega arith)
whole_granted byte_counter n t le = allowances _ _ _ _ (omega arith) (omega (arith, le))

whole_draws : (ds : List Draw) (t : Tally) → (tallied ds t).rest plus (tallied ds t).drawn ≡ t.rest plus t.drawn
whole_draws [] t = refl
whole_draws (d ∷ ds) t =
    cond_both (fits d t.rest) (tallied ds (granted d t)) t (λ x. x.rest plus x.drawn ≡ t.rest plus t.drawn)
    (λ e. whole_draws ds (granted d t) ∙ whole_granted d.counter d.amount t (leb-true d.amount (left_of d.counter t.rest) e)) (λ e. refl)

same_cond : {A B : Type 0} (f : A → B) (b : Bool) (x y : A) (x' y' : B) → f x ≡ x' → f y ≡ y' → f (cond b x y) ≡ cond b x' y'
same_cond f true x y x' y' p q = p
same_cond f false x y x' y' p q = q

rest_draws : (ds : List Draw) (t : Tally) → (tallied ds t).rest ≡ rest ds t.rest
rest_draws [] t = refl
rest_draws (d ∷ ds) t = same_cond (λ (x : Tally). x.rest) (fits d t.rest) (tallied ds (granted d t)) t _ _ (rest_draws ds (granted d t)) refl

-- ---- a list of calls

module _ (bank : List Subtable) where
  whole_calls : (t : Tally) (es : List Event) → (tally_on bank t es).rest plus (tally_on bank t es).drawn ≡ t.rest plus t.drawn
  whole_calls t [] = refl
  whole_calls t (e ∷ es) = whole_calls (tallied (draws_of bank e) t) es ∙ whole_draws (draws_of bank e) t

  rest_calls : (t : Tally) (s : State) (es : List Event) → t.rest ≡ s.left → (tally_on bank t es).rest ≡ (after bank s es).left
  rest_calls t s [] h = h
  rest_calls t s (e ∷ es) h = rest_calls (tallied (draws_of bank e) t) (effect bank e s) es (rest_draws (draws_of bank e) t ∙ ap (rest (draws_of bank e)) h)

  tally-append : (t : Tally) (es fs : List Event) → tally_on bank t (es ++ fs) ≡ tally_on bank (tally_on bank t es) fs
  tally-append t [] fs = refl
  tally-append t (e ∷ es) fs = tally-append (tallied (draws_of bank e) t) es fs

  plus_nothing : (a : Allowance) → a plus nothing ≡ a
  plus_nothing a = allowances _ _ _ _ (add-zero a.work) (add-zero a.bytes)

  -- earlier calls and these together
  pub adds : (given began : Allowance) (earlier es : List Event) → (after bank (new_book given) earlier).left ≡ began → given ≡ (after bank (new_book began) es).left plus (tally bank given (earlier ++ es)).drawn
  adds given began earlier es leads =
      let left = rest_calls (tally_on bank (starts given) earlier) (new_book began) es (rest_calls (starts given) (new_book given) earlier refl ∙ leads) in
      sym (ap (λ l. l plus (tally bank given (earlier ++ es)).drawn) (sym left ∙ ap (λ (t : Tally). t.rest) (sym (tally-append (starts given) earlier es)))
      ∙ whole_calls (starts given) (earlier ++ es) ∙ plus_nothing given)

  after-append : (s : State) (es fs : List Event) → after bank s (es ++ fs) ≡ after bank (after bank s es) fs
  after-append s [] fs = refl
  after-append s (e ∷ es) fs = after-append (effect bank e s) es fs

  draws_beside : (other : List Subtable) (e : Event) → draws_of bank (beside other e) ≡ draws_of other e
  draws_beside other (filter k) = refl
  draws_beside other e = refl

  -- the calls of a book on another bank leave as much, as calls beside this one
  left_beside : (other : List Subtable) (s s' : State) (es : List Event) → s.left ≡ s'.left → (after bank s (map (beside other) es)).left ≡ (after other s' es).left
  left_beside other s s' [] h = h
  left_beside other s s' (e ∷ es) h =
      left_beside other (effect bank (beside other e) s) (effect other e s') es
      (ap (λ ds. rest ds s.left) (draws_beside other e) ∙ ap (rest (draws_of other e)) h)

  pub adds_in_turn : (other : List Subtable) (began between left : Allowance) (es fs : List Event) → between ≡ (after other (new_book began) es).left → left ≡ (after bank (new_book between) fs).left → AddsUp bank began (map (beside other) es ++ fs) left
  adds_in_turn other began between left es fs e f given earlier leads =
      let first = map (beside other) es in
      let to : (after bank (new_book given) (earlier ++ first)).left ≡ between =
      ap (λ (s : State). s.left) (after-append (new_book given) earlier first) ∙ left_beside other (after bank (new_book given) earlier) (new_book began) es leads ∙ sym e in
      adds given between (earlier ++ first) fs to
      ∙ ap (λ l. l plus (tally bank given ((earlier ++ first) ++ fs)).drawn) (sym f)
      ∙ ap (λ all. left plus (tally bank given all).drawn) (append_assoc earlier first fs)
