-- Lists of calls: what each draws, what it makes of a book and the allowance, and the tally that is kept of them. A call
-- is seen by its arguments and by the meaning of the bank that a filter is put to, never by its answer.
-- Assumes nothing.
use Rattle.std.specs.Prelude.{ℕ, Bool, cond, List, [], ◌∷◌, replicate, Some, None, Option, nat_le}
use Rattle.opentype.specs.Bytes.{Array}
use Rattle.opentype.specs.Draws.{Allowance, Draw, rest}
use Rattle.opentype.specs.Headers.{WideParts, opened, opened_wide}
use Rattle.opentype.specs.Meaning.{Subtable, subtable}
use Rattle.opentype.specs.Openings.{opening_draws}
use Rattle.opentype.specs.Rules.{RuleSet}
use Rattle.opentype.specs.Subtables.{Table}
use Rattle.opentype.specs.Words.{word_draws}
use Rattle.book.specs.Calls.{filter_slots, forget_slots}
use Rattle.book.specs.Slots.{bare}
use Rattle.book.specs.declared.slots.Slot.{Slot}
use Rattle.calls.specs.Tallies.{Tally, starts, tallied}

-- one call, by its arguments; with a list that is lent goes the room of the list
pub data Event : Type 0 where
  opening : (chained : Bool) → (bytes : List ℕ) → Event
  opening_wide : (parts : WideParts) → (bytes : List ℕ) → Event
  -- a class subtable by the first input of each rule of its sets
  word_fill : (firsts : Array (RuleSet (Option ℕ))) → (room : ℕ) → Event
  filter : (k : ℕ) → Event
  -- a filter of another bank, by what that bank means
  filter_beside : (bank : List Subtable) → (k : ℕ) → Event
  -- draws made by hand
  draw : List Draw → Event
  forget : (k : ℕ) → Event
  state : (k : ℕ) → Event
  would_apply : (glyphs : List ℕ) → (bare : Bool) → Event
  scan : (run : List ℕ) → (room : ℕ) → Event
  -- the book is ended, and another started on its bank
  anew : Event

-- ---- draws

-- an opening draws nothing where the header cannot be read
abbrev pub table_draws : Option Table → List Draw
table_draws None = []
table_draws (Some t) = opening_draws t

-- a filter draws nothing where it cannot be made
abbrev pub filter_draws : Subtable → List Draw
filter_draws s = cond s.filter.can s.filter.draws []

-- a word fill draws nothing where the buffer is shorter than the sets
abbrev pub fill_draws : (firsts : Array (RuleSet (Option ℕ))) → (room : ℕ) → List Draw
fill_draws firsts room = cond (nat_le firsts.count room) (word_draws firsts) []

-- the draws that a call sets out to make, in order, where `bank` is the book's; the other calls make none
abbrev pub draws_of : (bank : List Subtable) → Event → List Draw
draws_of bank (opening chained bytes) = table_draws (opened chained bytes)
draws_of bank (opening_wide parts bytes) = table_draws (opened_wide parts bytes)
draws_of bank (word_fill firsts room) = fill_draws firsts room
draws_of bank (filter k) = filter_draws (subtable bank k)
draws_of bank (filter_beside other k) = filter_draws (subtable other k)
draws_of bank (draw ds) = ds
draws_of bank e = []

-- the tally of a list of calls
abbrev pub tally_on : (bank : List Subtable) → Tally → List Event → Tally
tally_on bank t [] = t
tally_on bank t (e ∷ es) = tally_on bank (tallied (draws_of bank e) t) es

abbrev pub tally : (bank : List Subtable) → (given : Allowance) → List Event → Tally
tally bank given es = tally_on bank (starts given) es

-- a call on a book over `other`, as a call beside another book: a filter is put to `other` all the same
abbrev pub beside : (other : List Subtable) → Event → Event
beside other (filter k) = filter_beside other k
beside other e = e

-- ---- a book and the allowance

pub record State : Type 0 where
  pub slots : List Slot
  pub left : Allowance

-- a new book: every slot is bare
abbrev pub new_book : (given : Allowance) → State
new_book given = record { slots = replicate 32 bare; left = given }

-- the slots after a call: the other calls leave them
abbrev pub slots_after : (bank : List Subtable) → Event → List Slot → (left : Allowance) → List Slot
slots_after bank (filter k) slots left = filter_slots bank k left slots
slots_after bank (forget k) slots left = forget_slots bank k slots
slots_after bank anew slots left = replicate 32 bare
slots_after bank e slots left = slots

-- what one call makes of the book and the allowance
abbrev pub effect : (bank : List Subtable) → Event → State → State
effect bank e s = record { slots = slots_after bank e s.slots s.left; left = rest (draws_of bank e) s.left }

abbrev pub after : (bank : List Subtable) → State → List Event → State
after bank s [] = s
after bank s (e ∷ es) = after bank (effect bank e s) es

-- what a list of calls on a new book leaves of an allowance
abbrev pub leaves : (bank : List Subtable) → (given : Allowance) → List Event → Allowance
leaves bank given es = (after bank (new_book given) es).left
