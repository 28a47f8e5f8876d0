-- A sheet of calls as the program holds it, read as the calls that the tally sees and as what came of them.
-- Assumes nothing.
use Rattle.std.specs.Prelude.{ℕ, List, map, length, Option, Result, vec_items}
use Rattle.answers.specs.declared.hit.Hit.{Hit}
use Rattle.answers.specs.declared.refusal.Refusal.{Refusal}
use Rattle.context.specs.Classes.{class_table_of}
use Rattle.opening.specs.Wide.{parts_of}
use Rattle.opentype.specs.Draws.{Allowance}
use Rattle.opentype.specs.Meaning.{Subtable}
use Rattle.calls.specs.Events.{Event, anew, filter, filter_beside, forget, opening, opening_wide, scan, state, word_fill, would_apply}
use Rattle.calls.specs.declared.sheet.Call.{Call}
use Rattle.calls.specs.declared.sheet.Call.TheVariants.{Anew, Fill, Filter, FilterBeside, Forget, Open, OpenWide, Scan, State, WouldApply}
use Rattle.calls.specs.declared.sheet.Granted.{Granted}
use Rattle.calls.specs.declared.sheet.Left.{Left}
use Rattle.calls.specs.declared.sheet.Line.{Line}

-- a call, where lists with this room for hits and for words are lent to it; `aside` is what the bank beside the book means
abbrev pub event : (aside : List Subtable) → Call → (hits words : ℕ) → Event
event aside (Open bytes chained) hits words = opening chained bytes.now
event aside (OpenWide bytes parts) hits words = opening_wide (parts_of parts) bytes.now
event aside (Fill view) hits words = word_fill (class_table_of view.now).firsts words
event aside (Filter k) hits words = filter k
event aside (FilterBeside k) hits words = filter_beside aside k
event aside (Forget k) hits words = forget k
event aside (State k) hits words = state k
event aside (WouldApply glyphs bare) hits words = would_apply glyphs.now bare
event aside (Scan run) hits words = scan run.now hits
event aside Anew hits words = anew

abbrev pub event_of : (aside : List Subtable) → Line → Event
event_of aside line = event aside line.call (length (vec_items line.hits)) (length (vec_items line.words))

abbrev pub calls_of : List Line → List Call
calls_of lines = map (λ line. line.call) lines

-- what came of a call: its answer once it was made, the lists that were lent to it, and what is left of the allowance
pub record Outcome : Type 0 where
  pub answer : Option (Result Granted Refusal)
  pub hits : List Hit
  pub words : List ℕ
  pub left : Allowance

abbrev pub allowance_left : Left → Allowance
allowance_left left = record { work = left.work; bytes = left.bytes }

abbrev pub outcome_of : Line → Outcome
outcome_of line = record {
  answer = line.answer;
  hits = vec_items line.hits;
  words = vec_items line.words;
  left = allowance_left line.left;
}
