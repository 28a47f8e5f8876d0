-- A sheet of calls, one line more at a time.
-- Assumes nothing.
use Rattle.std.proofs.Common.{◌≡◌, ℕ, ◌+◌, ◌<◌, ◌≤◌, ◌≢◌, List, [], ◌∷◌, map, length, get_or, take, set, sym, ap, ◌∙◌, subst, ⊎_elim, arith}
use Rattle.std.proofs.lemmas.List.{get_or_default, get_or-map, get_or-set_other, get_or-set_same, length-map, length-set, map-set, set-get_or}
use Rattle.std.proofs.lemmas.Bool.{cases_lt}
use Rattle.book.specs.declared.slots.Slot.{Slot}
use Rattle.digest.specs.Allowances.{allowance_of}
use Rattle.digest.specs.declared.budget.Budget.{Budget}
use Rattle.opentype.specs.Draws.{Allowance, rest}
use Rattle.opentype.specs.Meaning.{Subtable}
use Rattle.calls.specs.Answers.{Does}
use Rattle.calls.specs.Events.{Event, State, after, anew, draws_of, effect, new_book, scan, slots_after}
use Rattle.calls.specs.Promise.{blank}
use Rattle.calls.specs.Replied.{Replied, outcome_then, sheet, slots_left}
use Rattle.calls.specs.Sheets.{Outcome, calls_of, event, event_of, outcome_of}
use Rattle.calls.specs.declared.sheet.Call.{Call}
use Rattle.calls.specs.declared.sheet.Call.TheVariants.{Scan}
use Rattle.calls.specs.declared.sheet.Line.{Line}
use Rattle.calls.proofs.Running.{state_more}

states : (ss ss' : List Slot) (l l' : Allowance) → ss ≡ ss' → l ≡ l' → ◌≡◌ {A = State} (record { slots = ss; left = l }) (record { slots = ss'; left = l' })
states ss ss' l l' p q = cc

-- some element of a list that has one
some : {X : Type 0} (l : List X) (i : ℕ) → i < length l → X
some [] i lt = absurd (omega arith)
some (x ∷ l) i lt = x

-- a call that reads as a scan has the room of the list lent to it
room_of : (aside : List Subtable) (call : Call) (hits words room : ℕ) (run : List ℕ) → event aside call hits words ≡ scan run room → room ≡ hits
room_of aside (Scan r) hits words room run e = cc
room_of aside call hits words room run e = cc

module _ (aside bank : List Subtable) (began : Budget) (old : List Line) where
  abbrev es : List Event
  es = map (event_of aside) old

  abbrev at : ℕ → State
  at n = after bank (new_book (allowance_of began)) (take n es)

  -- after i lines: where the book and the allowance are, what the lines worked off hold, and that the others stay
  pub record Played (i : ℕ) (slots : List Slot) (budget : Budget) (lines : List Line) : Type 0 where
    pub size : length lines ≡ length old
    pub same_calls : calls_of lines ≡ calls_of old
    pub slots_are : slots ≡ (at i).slots
    pub left_is : allowance_of budget ≡ (at i).left
    pub each : (j : ℕ) (d : Line) → j < i → j < length old → outcome_of (get_or lines j d) ≡ outcome_then bank (event_of aside (get_or old j d)) (at j) (outcome_of (get_or old j d))
    pub others : (j : ℕ) (d : Line) → i ≤ j → get_or lines j d ≡ get_or old j d

  event_at : (i : ℕ) (d : Line) → i < length old → get_or es i anew ≡ event_of aside (get_or old i d)
  event_at i d lt = get_or-map (event_of aside) old i d anew lt

  next_at : (i : ℕ) (x : Line) → i < length old → x ≡ get_or old i x → at (i + 1) ≡ effect bank (event_of aside x) (at i)
  next_at i x lt read =
      let size = length-map old (event_of aside) in
      state_more bank (new_book (allowance_of began)) es i (omega arith) ∙ ap (λ e. effect bank e (at i)) (event_at i x lt ∙ ap (event_of aside) (sym read))

  pub played_more : (bank' : List Subtable) → bank' ≡ bank → (i : ℕ) (d new : Line) (slots slots' : List Slot) (budget budget' : Budget) (lines : List Line) → i < length lines → Played i slots budget lines → new.call ≡ (get_or lines i d).call
      → Does bank' (event_of aside (get_or lines i d)) slots slots' (allowance_of budget) (allowance_of budget')
      → outcome_of new ≡ outcome_then bank' (event_of aside (get_or lines i d)) (record { slots = slots; left = allowance_of budget }) (outcome_of (get_or lines i d)) → Played (i + 1) slots' budget' (set lines i new)
  played_more bank' same-bank i d new slots slots' budget budget' lines lt r call does came =
      let in-old : i < length old = omega (arith, r.size) in
      let x : Line = get_or lines i d in
      let here : x ≡ get_or old i d = r.others i d (omega arith) in
      let next = next_at i x in-old (here ∙ get_or_default old i d x in-old) in
      let state : ◌≡◌ {A = State} (record { slots = slots; left = allowance_of budget }) (at i) = states _ _ _ _ r.slots_are r.left_is in
      let did : Does bank (event_of aside x) slots slots' (allowance_of budget) (allowance_of budget') = subst (λ b. Does b (event_of aside x) slots slots' (allowance_of budget) (allowance_of budget')) same-bank does in
      record {
        size = length-set lines i new ∙ r.size;
        same_calls =
            map-set (λ (l : Line). l.call) lines i new ∙ ap (set (calls_of lines) i) call
            ∙ sym (map-set (λ (l : Line). l.call) lines i (get_or lines i d)) ∙ ap calls_of (set-get_or lines i d) ∙ r.same_calls;
        slots_are = did.to_slots ∙ ap (λ (s : State). slots_after bank (event_of aside x) s.slots s.left) state ∙ ap (λ (s : State). s.slots) (sym next);
        left_is = did.to_left ∙ ap (λ (s : State). rest (draws_of bank (event_of aside x)) s.left) state ∙ ap (λ (s : State). s.left) (sym next);
        each = λ j e below j-old.
            ⊎_elim
            (λ before. let ne : j ≢ i = omega arith in ap outcome_of (get_or-set_other lines i j new e ne) ∙ r.each j e before j-old)
            (λ past.
            let same : j ≡ i = omega arith in
            let was : x ≡ get_or old i e = here ∙ get_or_default old i d e in-old in
            subst (λ k. outcome_of (get_or (set lines i new) k e) ≡ outcome_then bank (event_of aside (get_or old k e)) (at k) (outcome_of (get_or old k e))) (sym same)
            (ap outcome_of (get_or-set_same lines i new e lt) ∙ came ∙ ap (λ b. outcome_then b (event_of aside x) (record { slots = slots; left = allowance_of budget }) (outcome_of x)) same-bank
            ∙ ap (λ s. outcome_then bank (event_of aside x) s (outcome_of x)) state ∙ ap (λ y. outcome_then bank (event_of aside y) (at i) (outcome_of y)) was))
            (cases_lt j i);
        others = λ j e le. let ne : j ≢ i = omega arith in get_or-set_other lines i j new e ne ∙ r.others j e (omega arith);
      }

  pub played_all : (i : ℕ) (slots : List Slot) (budget : Budget) (lines : List Line) → i ≡ length old → Played i slots budget lines
      → Replied (sheet aside bank (allowance_of began) (allowance_of budget) old lines) (map outcome_of old) × (slots ≡ slots_left (sheet aside bank (allowance_of began) (allowance_of budget) old lines))
  played_all i slots budget lines end r =
      let size = length-map old (event_of aside) in
      let count : i ≡ length es = end ∙ sym size in
      let slots_are = r.slots_are ∙ ap (λ n. (at n).slots) count in (
        record {
          rooms = λ j run room lt e.
              let in-old : j < length old = omega arith in
              let d = some old j in-old in
              room_of aside (get_or old j d).call _ _ room run (sym (event_at j d in-old) ∙ e)
              ∙ ap (λ (o : Outcome). length o.hits) (sym (get_or-map outcome_of old j d blank in-old));
          each = λ j lt.
              let in-old : j < length old = omega arith in
              let d = some old j in-old in
              let at-event = event_at j d in-old in
              let at_old = get_or-map outcome_of old j d blank in-old in
              get_or-map outcome_of lines j d blank (omega (arith, r.size)) ∙ r.each j d (omega arith) in-old
              ∙ ap (λ e. outcome_then bank e (at j) (outcome_of (get_or old j d))) (sym at-event)
              ∙ ap (outcome_then bank (get_or es j anew) (at j)) (sym at_old);
          all = length-map lines outcome_of ∙ r.size ∙ sym size;
          rest_is = r.left_is ∙ ap (λ n. (at n).left) count;
        },
        slots_are,
      )
