-- The state of a book along a list of calls: its slots are kept.
-- Assumes nothing.
use Rattle.std.proofs.Common.{◌≡◌, ℕ, ◌+◌, ◌<◌, List, [], ◌∷◌, ◌++◌, length, get_or, take, refl, ap, ◌∙◌}
use Rattle.std.proofs.lemmas.List.{take_more}
use Rattle.book.proofs.Keeping.{kept_filter, kept_forget, kept_new}
use Rattle.book.specs.Slots.{Kept}
use Rattle.book.specs.declared.slots.Slot.{Slot}
use Rattle.opentype.specs.Draws.{Allowance}
use Rattle.opentype.specs.Meaning.{Subtable}
use Rattle.calls.specs.Events.{Event, State, after, anew, effect, filter, forget, new_book, slots_after}

after_push : (bank : List Subtable) (s : State) (es : List Event) (e : Event) → after bank s (es ++ e ∷ []) ≡ effect bank e (after bank s es)
after_push bank s [] e = refl
after_push bank s (x ∷ es) e = after_push bank (effect bank x s) es e

-- the state after one call more
pub state_more : (bank : List Subtable) (s : State) (es : List Event) (i : ℕ) → i < length es → after bank s (take (i + 1) es) ≡ effect bank (get_or es i anew) (after bank s (take i es))
state_more bank s es i lt = ap (after bank s) (take_more es i anew lt) ∙ after_push bank s (take i es) (get_or es i anew)

kept_call : (bank : List Subtable) (e : Event) (slots : List Slot) (left : Allowance) → Kept bank slots → Kept bank (slots_after bank e slots left)
kept_call bank (filter k) slots left h = kept_filter bank k left slots _ refl h
kept_call bank (forget k) slots left h = kept_forget bank k slots _ refl h
kept_call bank anew slots left h = kept_new bank _ refl
kept_call bank e slots left h = h

kept_after : (bank : List Subtable) (s : State) (es : List Event) → Kept bank s.slots → Kept bank (after bank s es).slots
kept_after bank s [] h = h
kept_after bank s (e ∷ es) h = kept_after bank (effect bank e s) es (kept_call bank e s.slots s.left h)

-- on a new book the slots are kept after any calls
pub kept_always : (bank : List Subtable) (given : Allowance) (es : List Event) → Kept bank (after bank (new_book given) es).slots
kept_always bank given es = kept_after bank (new_book given) es (kept_new bank _ refl)
