-- What one call answers, and what it leaves in the lists lent to it.
-- Assumes nothing.
use Rattle.std.specs.Prelude.{◌≡◌, ℕ, ◌+◌, cond, List, [], ◌∷◌, length, Ok, Err, Result}
use Rattle.answers.specs.Questions.{answered, list_refused}
use Rattle.answers.specs.declared.hit.Hit.{Hit}
use Rattle.answers.specs.declared.refusal.Refusal.{Refusal}
use Rattle.answers.specs.declared.refusal.Refusal.TheVariants.{Exhausted}
use Rattle.bank.specs.Answers.{digested}
use Rattle.book.specs.Calls.{filter_answer, forget_answer, state_answer}
use Rattle.book.specs.Scans.{applies_in, scan_answer, scan_list}
use Rattle.book.specs.declared.slots.Slot.{Slot}
use Rattle.opening.specs.Opened.{opened_by, told_of}
use Rattle.opentype.specs.Draws.{Allowance, fit, rest}
use Rattle.opentype.specs.Headers.{opened, opened_wide}
use Rattle.opentype.specs.Meaning.{Subtable, subtable}
use Rattle.rule_words.specs.Fills.{entry_of, fill_answer, fill_stores}
use Rattle.calls.specs.Events.{Event, anew, draw, draws_of, filter, filter_beside, forget, opening, opening_wide, scan, slots_after, state, word_fill, would_apply}
use Rattle.calls.specs.declared.sheet.Granted.{Granted}
use Rattle.calls.specs.declared.sheet.Granted.TheVariants.{Applies, Digest, Done, Scanned, StateIs}

-- granted, and there is nothing to tell
abbrev pub done : {X : Type 0} → Result X Refusal → Result Granted Refusal
done r = told_of (λ _. Done) r

-- a filter by its masks
abbrev pub digest_of : (masks : List ℕ) → Granted
digest_of masks = Digest (record { masks = masks })

-- what a call answers, on a book with these slots and with this allowance left
abbrev pub answer_to : (bank : List Subtable) → Event → List Slot → (left : Allowance) → Result Granted Refusal
answer_to bank (opening chained bytes) slots left = done (opened_by (opened chained bytes) left)
answer_to bank (opening_wide parts bytes) slots left = done (opened_by (opened_wide parts bytes) left)
answer_to bank (word_fill firsts room) slots left = done (fill_answer firsts room left)
answer_to bank (filter k) slots left = done (filter_answer bank k left)
answer_to bank (filter_beside other k) slots left = told_of digest_of (digested (subtable other k) left)
answer_to bank (draw ds) slots left = cond (fit ds left) (Ok Done) (Err Exhausted)
answer_to bank (forget k) slots left = done (forget_answer bank k)
answer_to bank (state k) slots left = told_of StateIs (state_answer bank slots k)
answer_to bank (would_apply glyphs bare) slots left = told_of Applies (answered (list_refused (length glyphs)) (applies_in bank slots glyphs bare))
answer_to bank (scan run room) slots left = told_of Scanned (scan_answer bank slots run room)
answer_to bank anew slots left = Ok Done

-- the list of hits that was lent to a call, then: only a scan writes it
abbrev pub hits_after : (bank : List Subtable) → Event → List Slot → (lent : List Hit) → List Hit
hits_after bank (scan run room) slots lent = scan_list bank slots run lent
hits_after bank e slots lent = lent

-- f k, f (k + 1), .., as many as a list has entries
abbrev pub entries_from : (ℕ → ℕ) → (k : ℕ) → List ℕ → List ℕ
entries_from f k [] = []
entries_from f k (x ∷ xs) = f k ∷ entries_from f (k + 1) xs

-- the words that were lent to a call, then: only a fill writes them; those that it stores come first, and the others stay
abbrev pub words_after : Event → (left : Allowance) → (lent : List ℕ) → List ℕ
words_after (word_fill firsts room) left lent = entries_from (entry_of firsts (fill_stores firsts room left) lent) 0 lent
words_after e left lent = lent

-- a call made of the slots and of the allowance what its kind makes of them
pub record Does (bank : List Subtable) (e : Event) (slots slots' : List Slot) (left left' : Allowance) : Type 0 where
  pub to_slots : slots' ≡ slots_after bank e slots left
  pub to_left : left' ≡ rest (draws_of bank e) left
