-- What each call of a sheet is defined to answer and to leave, in its place after the calls before it.
-- Assumes nothing.
use Rattle.std.specs.Prelude.{◌≡◌, ℕ, ◌<◌, List, map, length, get_or, Some, slice_index_or}
use Rattle.book.specs.declared.slots.Slot.{Slot}
use Rattle.opentype.specs.Draws.{Allowance, rest}
use Rattle.opentype.specs.Meaning.{Subtable}
use Rattle.calls.specs.Answers.{answer_to, hits_after, words_after}
use Rattle.calls.specs.Events.{Event, State, draws_of, scan}
use Rattle.calls.specs.Promise.{Promise, Sheet, blank, call, outcome, state_at}
use Rattle.calls.specs.Sheets.{Outcome, event_of, outcome_of}
use Rattle.calls.specs.declared.sheet.Line.{Line}

-- what comes of a call, by the book and the allowance before it, and by the lists as they were lent to it
abbrev pub outcome_then : (bank : List Subtable) → Event → State → (lent : Outcome) → Outcome
outcome_then bank e s lent = record {
  answer = Some (answer_to bank e s.slots s.left);
  hits = hits_after bank e s.slots lent.hits;
  words = words_after e s.left lent.words;
  left = rest (draws_of bank e) s.left;
}

-- the slots that the calls leave the book with
abbrev pub slots_left : Sheet → List Slot
slots_left x = (state_at x (length x.calls)).slots

-- every call was made in its place, after the calls before it, with the lists lent to it as they are in `lent`
pub record Replied (x : Sheet) (lent : List Outcome) : Type 0 where
  pub rooms : (i : ℕ) (run : List ℕ) (room : ℕ) → i < length x.calls → call x i ≡ scan run room → room ≡ length (get_or lent i blank).hits
  pub each : (i : ℕ) → i < length x.calls → outcome x i ≡ outcome_then x.bank (call x i) (state_at x i) (slice_index_or lent i blank)
  pub all : length x.outcomes ≡ length x.calls
  pub rest_is : x.rest ≡ (state_at x (length x.calls)).left

-- a sheet that was worked off on a new book: these are the book's slots then, every call was answered as it is defined, and
-- the promise holds
pub record WorkedOff (x : Sheet) (lent : List Outcome) (slots : List Slot) : Type 0 where
  pub slots_are : slots ≡ slots_left x
  pub replied : Replied x lent
  pub promise : Promise x

-- the sheet of these lines, as they were and as they are then, on an allowance before and after
abbrev pub sheet : (aside bank : List Subtable) → (before after : Allowance) → (lines then : List Line) → Sheet
sheet aside bank before after lines then = record {
  bank = bank;
  began = before;
  calls = map (event_of aside) lines;
  outcomes = map outcome_of then;
  rest = after;
}
