-- A worked example, by computation: one subtable, whose rule has the glyph 70 after the glyph 20.
-- Assumes nothing.
use Rattle.std.specs.Prelude.{◌≡◌, List, [], ◌∷◌, replicate, Ok}
use Rattle.std.specs.Option.{option_to_list}
use Rattle.answers.specs.declared.hit.Hit.{Hit}
use Rattle.opentype.specs.Examples.{run, the_one}
use Rattle.opentype.specs.Meaning.{Subtable}
use Rattle.book.specs.Calls.{filter_slots, state_answer}
use Rattle.book.specs.Scans.{hits_in, tries_in}
use Rattle.book.specs.Slots.{bare}
use Rattle.book.specs.declared.slots.Slot.{Slot}
use Rattle.book.specs.declared.slots.SlotState.TheVariants.{Held, GivenUp}

abbrev pub one_bank : List Subtable
one_bank = option_to_list the_one

abbrev pub bare_slots : List Slot
bare_slots = replicate 32 bare

-- after a filter on an allowance of two
abbrev pub held_slots : List Slot
held_slots = filter_slots one_bank 0 (record { work = 2; bytes = 0 }) bare_slots

-- after a filter on an allowance of one, which does not suffice
abbrev pub given_up_slots : List Slot
given_up_slots = filter_slots one_bank 0 (record { work = 1; bytes = 0 }) held_slots

-- the hit at place 0
abbrev pub only_hit : Hit
only_hit = record { place = 0; subtable = 0; length = 2; records = 18; record_count = 1 }

-- the run 20, 70, 20, 71
pub record Examples : Type 0 where
  pub bare_hits : hits_in one_bank bare_slots run ≡ only_hit ∷ []
  pub bare_tries : tries_in one_bank bare_slots run ≡ 4
  pub held : state_answer one_bank held_slots 0 ≡ Ok Held
  pub held_hits : hits_in one_bank held_slots run ≡ only_hit ∷ []
  pub held_tries : tries_in one_bank held_slots run ≡ 2
  pub given_up : state_answer one_bank given_up_slots 0 ≡ Ok GivenUp
  pub given_up_tries : tries_in one_bank given_up_slots run ≡ 4
