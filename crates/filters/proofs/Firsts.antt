-- A rule by the first of its values.
-- Assumes nothing.
use Rattle.std.proofs.Common.{◌≡◌, arith, ℕ, zero, suc, ◌-◌, List, [], ◌∷◌, map, Some, Err, Result, refl, subst}
use Rattle.std.specs.List.{range_with_len}
use Rattle.opentype.specs.Filters.{Adding, add_rule}
use Rattle.opentype.specs.Rules.{Rule}
use Rattle.readers.specs.Views.{entries}
use Rattle.adding.specs.Walked.{CarriedOut}
use Rattle.adding.specs.declared.gathering.Gathering.{Gathering}
use Rattle.adding.specs.declared.stop.Stop.{Stop}
use Rattle.adding.specs.declared.stop.Stop.TheVariants.{AnyGlyph}
use Rattle.adding.proofs.Turns.{stops}

first_is : (f : ℕ → ℕ) (n x : ℕ) (rest : List ℕ) → map f (range_with_len 0 (n - 0)) ≡ x ∷ rest → (m : ℕ) × (n ≡ suc m) × (x ≡ f 0)
first_is f zero x rest e = cc
first_is f (suc m) x rest e =
    let whole : suc m - 0 ≡ suc m = omega arith in
    let e' : f 0 ∷ map f (range_with_len 1 m) ≡ x ∷ rest = rw whole at e in
    let first : x ≡ f 0 = cc in (m, refl, first)

no_entries : (f : ℕ → ℕ) (n : ℕ) → map f (range_with_len 0 (n - 0)) ≡ [] → n ≡ 0
no_entries f zero e = refl
no_entries f (suc m) e =
    let whole : suc m - 0 ≡ suc m = omega arith in
    let e' : f 0 ∷ map f (range_with_len 1 m) ≡ [] = rw whole at e in cc

module _ (adding : Adding ℕ) (r : Rule ℕ) where
  pub by_input : {x : ℕ} {rest : List ℕ} {here next : Gathering} {answer : Result (Unit {0}) Stop} → entries r.input ≡ x ∷ rest
      → CarriedOut (adding.input x) here next answer → CarriedOut (add_rule adding (Some r)) here next answer
  by_input {x} {rest} {here} {next} {answer} e now =
      let i = first_is r.input.entry r.input.count x rest e in
      rw (i.1) (subst (λ (v : ℕ). CarriedOut (adding.input v) here next answer) i.2 now)

  pub by_lookahead : {x : ℕ} {rest : List ℕ} {here next : Gathering} {answer : Result (Unit {0}) Stop} → entries r.input ≡ []
      → entries r.lookahead ≡ x ∷ rest → CarriedOut (adding.lookahead x) here next answer → CarriedOut (add_rule adding (Some r)) here next answer
  by_lookahead {x} {rest} {here} {next} {answer} none e now =
      let i = first_is r.lookahead.entry r.lookahead.count x rest e in
      rw (no_entries r.input.entry r.input.count none, i.1) (subst (λ (v : ℕ). CarriedOut (adding.lookahead v) here next answer) i.2 now)

  pub by_neither : (here : Gathering) → entries r.input ≡ [] → entries r.lookahead ≡ [] → CarriedOut (add_rule adding (Some r)) here here (Err AnyGlyph)
  by_neither here none neither =
      rw (no_entries r.input.entry r.input.count none, no_entries r.lookahead.entry r.lookahead.count neither) (stops here)
