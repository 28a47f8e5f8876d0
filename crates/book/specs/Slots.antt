-- What a slot holds, what an event makes of it, and what the slots of a book keep true.
-- Assumes nothing.
use Rattle.std.specs.Prelude.{◌≡◌, ℕ, ◌<◌, Bool, true, false, List, [], slice_index_or, slice_set}
use Rattle.opentype.specs.Masks.{full}
use Rattle.opentype.specs.Meaning.{Filter, Subtable, subtable}
use Rattle.book.specs.declared.slots.Slot.{Slot}
use Rattle.book.specs.declared.slots.SlotEvent.{SlotEvent}
use Rattle.book.specs.declared.slots.SlotEvent.TheVariants.{Granted, Exhausted, Forget}
use Rattle.book.specs.declared.slots.SlotState.{SlotState}
use Rattle.book.specs.declared.slots.SlotState.TheVariants.{Bare, Held, GivenUp}

abbrev pub state_number : SlotState → ℕ
state_number Bare = 0
state_number Held = 1
state_number GivenUp = 2

-- a slot that holds a filter with these masks
abbrev pub held : (masks : List ℕ) → Slot
held masks = record { state = Held; digest = record { masks = masks } }

-- a slot in a state in which it holds none: its masks are all ones
abbrev pub idle : SlotState → Slot
idle state = record { state = state; digest = record { masks = full } }

abbrev pub bare : Slot
bare = idle Bare

-- what is read past the last slot; it is never asked for
abbrev pub blank : Slot
blank = record { state = Bare; digest = record { masks = [] } }

abbrev pub slot_at : List Slot → (k : ℕ) → Slot
slot_at slots k = slice_index_or slots k blank

-- a slot after an event, whatever it was before
abbrev pub after : Slot → SlotEvent → Slot
after slot (Granted digest) = held digest.masks
after slot Exhausted = idle GivenUp
after slot Forget = idle Bare

-- the slots after an event at slot k: the others stay
abbrev pub changed : List Slot → (k : ℕ) → SlotEvent → List Slot
changed slots k event = slice_set slots k (after (slot_at slots k) event)

abbrev pub is_held : SlotState → Bool
is_held Bare = false
is_held Held = true
is_held GivenUp = false

-- held: the masks are those of the subtable's filter, which could be made; else all ones
abbrev pub MasksBy : SlotState → Filter → (masks : List ℕ) → Type 0
MasksBy Bare filter masks = masks ≡ full
MasksBy Held filter masks = (filter.can ≡ true) × (masks ≡ filter.masks)
MasksBy GivenUp filter masks = masks ≡ full

-- what the slots keep true: every held slot has its subtable's masks, and every other all ones
abbrev pub Kept : List Subtable → List Slot → Type 0
Kept bank slots = (k : ℕ) → k < 32 → MasksBy (slot_at slots k).state (subtable bank k).filter (slot_at slots k).digest.masks
