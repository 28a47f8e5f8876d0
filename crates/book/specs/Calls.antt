-- What the calls of a book on one slot answer, and what they leave.
-- Assumes nothing.
use Rattle.std.specs.Prelude.{ℕ, cond, List, length, Ok, Err, Result, nat_lt}
use Rattle.answers.specs.declared.refusal.Refusal.{Refusal}
use Rattle.answers.specs.declared.refusal.Refusal.TheVariants.{Exhausted as OutOfAllowance, NoSuchSubtable, NotFilterable}
use Rattle.opentype.specs.Draws.{Allowance, fit}
use Rattle.opentype.specs.Meaning.{Filter, Subtable, subtable}
use Rattle.book.specs.Slots.{changed, slot_at}
use Rattle.book.specs.declared.slots.Slot.{Slot}
use Rattle.book.specs.declared.slots.SlotEvent.{SlotEvent}
use Rattle.book.specs.declared.slots.SlotEvent.TheVariants.{Granted, Exhausted, Forget}
use Rattle.book.specs.declared.slots.SlotState.{SlotState}

-- an answer for a subtable of the bank; refused where there is no subtable k
abbrev pub of_subtable : {X : Type 0} → List Subtable → (k : ℕ) → Result X Refusal → Result X Refusal
of_subtable bank k answer = cond (nat_lt k (length bank)) answer (Err NoSuchSubtable)

-- is there a subtable k? can it be filtered? do its draws fit?
abbrev pub filter_answer : List Subtable → (k : ℕ) → (given : Allowance) → Result (Unit {0}) Refusal
filter_answer bank k given =
    let filter = (subtable bank k).filter in
    of_subtable bank k (cond filter.can (cond (fit filter.draws given) (Ok tt) (Err OutOfAllowance)) (Err NotFilterable))

-- the event of a filter: whether its draws fit, and its masks
abbrev pub filter_event : Filter → (given : Allowance) → SlotEvent
filter_event filter given = cond (fit filter.draws given) (Granted (record { masks = filter.masks })) Exhausted

abbrev pub filter_slots : List Subtable → (k : ℕ) → (given : Allowance) → List Slot → List Slot
filter_slots bank k given slots =
    let filter = (subtable bank k).filter in
    cond (nat_lt k (length bank)) (cond filter.can (changed slots k (filter_event filter given)) slots) slots

abbrev pub forget_answer : List Subtable → (k : ℕ) → Result (Unit {0}) Refusal
forget_answer bank k = of_subtable bank k (Ok tt)

abbrev pub forget_slots : List Subtable → (k : ℕ) → List Slot → List Slot
forget_slots bank k slots = cond (nat_lt k (length bank)) (changed slots k Forget) slots

abbrev pub state_answer : List Subtable → List Slot → (k : ℕ) → Result SlotState Refusal
state_answer bank slots k = of_subtable bank k (Ok (slot_at slots k).state)
