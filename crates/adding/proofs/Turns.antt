-- The turns of loops over the entries of an array that walk, and of those that only add.
-- Assumes nothing.
use Rattle.std.proofs.Common.{◌≡◌, ℕ, refl, ◌+◌, ◌<◌, List, [], ◌∷◌, ◌++◌, length, Some, None, Option, Ok, Err, Result, IsErrAnd, sym, ap, ◌∙◌, subst, add-one}
use Rattle.std.specs.Iterator.{Yields}
use Rattle.std.proofs.lemmas.List.{length_push}
use Rattle.std.proofs.lemmas.Result.{err_from_is_err_and}
use Rattle.opentype.specs.Bytes.{Array}
use Rattle.opentype.specs.Carried.{Outcome, Ended}
use Rattle.opentype.specs.Walks.{Step, stopped, walk, walk_below, fold_below}
use Rattle.opentype.proofs.Carrying.{turn, ends}
use Rattle.digest.specs.Allowances.{allowance_of}
use Rattle.readers.proofs.Giving.{Gives, item_is, all_taken}
use Rattle.adding.specs.Walked.{ending_of, CarriedOut}
use Rattle.adding.specs.declared.gathering.Gathering.{Gathering}
use Rattle.adding.specs.declared.stop.Stop.{Stop}
use Rattle.adding.specs.declared.stop.Stop.TheVariants.{Exhausted, AnyGlyph}

-- ---- one more step of a walk

-- a part that stops the walk at once
pub stops : (here : Gathering) → CarriedOut (λ masks. stopped) here here (Err AnyGlyph)
stops here = record { answer = refl; same_allowance = refl }

ended : (stop : Stop) (m : List ℕ) → Ended (ending_of (Err stop) m)
ended Exhausted m = tt
ended AnyGlyph m = tt

module _ (step : ℕ → List ℕ → Step) {start here : Gathering} (i : ℕ) (before : CarriedOut (walk_below step i) start here (Ok tt))
    {next : Gathering} where
  -- it goes on
  pub goes_on : CarriedOut (step i) here next (Ok tt) → CarriedOut (walk_below step (i + 1)) start next (Ok tt)
  goes_on now = record {
    answer =
        now.answer ∙ sym (turn step start.digest.masks (allowance_of start.budget.now) i here.digest.masks (allowance_of here.budget.now) before.answer);
    same_allowance = now.same_allowance ∙ before.same_allowance;
  }

  -- it stops, and with it the walk
  pub goes_out : (n : ℕ) → i < n → (stop : Stop) (r : Result (Unit {0}) Stop) → CarriedOut (step i) here next (Err stop)
      → IsErrAnd r (λ e. e ≡ stop) → CarriedOut (walk_below step n) start next r
  goes_out n l stop r now out =
      let p = err_from_is_err_and r out in
      rw (p.1, p.2)
      (record {
        answer =
            now.answer
            ∙ sym
            (ends step start.digest.masks (allowance_of start.budget.now) i here.digest.masks (allowance_of here.budget.now) n l before.answer
            (subst (λ (o : Outcome). Ended o.ending) now.answer (ended stop next.digest.masks)));
        same_allowance = now.same_allowance ∙ before.same_allowance;
      })

-- ---- a turn of a loop over the entries of an array, from a state in which the iterator has given `xs`

module _ {S A X : Type 0} {steps : S → Option A → S → Type 0} {shows : A → X} {s : S} {a : Array X} (all : Gives steps shows s a)
    (xs : List A) (t : S) (before : Yields steps s xs t) {r : Option A} (u : S) (now : steps t r u) where
  -- ---- the loop only adds

  module _ (add : X → List ℕ → List ℕ) (start m : List ℕ) (added : m ≡ fold_below (λ k. add (a.entry k)) (length xs) start) where
    pub adds_on : (x : A) → r ≡ Some x → {m' : List ℕ} → m' ≡ add (shows x) m → m' ≡ fold_below (λ k. add (a.entry k)) (length (xs ++ x ∷ [])) start
    adds_on x is {m'} e = rw (length_push, add-one) (e ∙ ap (λ (y : X). add y m) (item_is all xs t before u now x is).1 ∙ ap (add (a.entry (length xs))) added)

    pub adds_all : r ≡ None → m ≡ fold_below (λ k. add (a.entry k)) a.count start
    adds_all is = subst (λ (k : ℕ). m ≡ fold_below (λ k. add (a.entry k)) k start) (all_taken all xs t before u now is) added

  -- ---- the loop walks

  module _ (step : X → List ℕ → Step) {start here : Gathering} (walked : CarriedOut (walk_below (λ k. step (a.entry k)) (length xs)) start here (Ok tt))
    where
      -- it goes on
      pub walks_on : (x : A) → r ≡ Some x → {next : Gathering} → CarriedOut (step (shows x)) here next (Ok tt)
          → CarriedOut (walk_below (λ k. step (a.entry k)) (length (xs ++ x ∷ []))) start next (Ok tt)
      walks_on x is {next} one =
          let here : CarriedOut (step (a.entry (length xs))) here next (Ok tt) = subst (λ (y : X). CarriedOut (step y) here next (Ok tt)) (item_is all xs t before u now x is).1 one in
          rw length_push (goes_on (λ k. step (a.entry k)) (length xs) walked here)

      -- it stops, and with it the walk
      pub walks_out : (x : A) → r ≡ Some x → {next : Gathering} {stop : Stop} {answer : Result (Unit {0}) Stop} → CarriedOut (step (shows x)) here next (Err stop)
          → IsErrAnd answer (λ e. e ≡ stop) → CarriedOut (walk step a) start next answer
      walks_out x is {next} {stop} {answer} one out =
          let i = item_is all xs t before u now x is in
          let here : CarriedOut (step (a.entry (length xs))) here next (Err stop) = subst (λ (y : X). CarriedOut (step y) here next (Err stop)) i.1 one in
          goes_out (λ k. step (a.entry k)) (length xs) walked a.count i.0 stop answer here out

      -- it ends
      pub walks_all : r ≡ None → CarriedOut (walk step a) start here (Ok tt)
      walks_all is = subst (λ (k : ℕ). CarriedOut (walk_below (λ k. step (a.entry k)) k) start here (Ok tt)) (all_taken all xs t before u now is) walked
