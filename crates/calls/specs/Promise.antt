-- What holds of every sheet of calls that was worked off on a new book.
-- Assumes nothing.
use Rattle.std.specs.Prelude.{◌≡◌, ℕ, zero, suc, ◌<◌, ◌≤◌, Bool, true, List, [], ◌++◌, length, take, Some, None, Ok, Decides, slice_index_or}
use Rattle.answers.specs.declared.hit.Hit.{Hit}
use Rattle.bank.specs.Searches.{SomeApplies}
use Rattle.book.specs.Laws.{Listed, held_in, tries_by}
use Rattle.opentype.specs.Draws.{Allowance}
use Rattle.opentype.specs.Meaning.{Subtable}
use Rattle.calls.specs.Events.{Event, State, after, anew, leaves, new_book, scan, tally, would_apply}
use Rattle.calls.specs.Sheets.{Outcome}
use Rattle.calls.specs.Tallies.{◌plus◌, nothing}
use Rattle.calls.specs.declared.sheet.Granted.TheVariants.{Applies, Scanned}

-- a sheet worked off: what the book's bank means, the allowance as the book began, the calls, what came of each, and what
-- is left of the allowance now
pub record Sheet : Type 0 where
  pub bank : List Subtable
  pub began : Allowance
  pub calls : List Event
  pub outcomes : List Outcome
  pub rest : Allowance

-- what is read past the last outcome; it is never asked for
abbrev pub blank : Outcome
blank = record { answer = None; hits = []; words = []; left = nothing }

abbrev pub call : Sheet → (i : ℕ) → Event
call x i = slice_index_or x.calls i anew

abbrev pub outcome : Sheet → (i : ℕ) → Outcome
outcome x i = slice_index_or x.outcomes i blank

-- the book and the allowance that the first n calls lead to
abbrev pub state_at : Sheet → (n : ℕ) → State
state_at x n = after x.bank (new_book x.began) (take n x.calls)

-- whose filters are held then
abbrev pub held_at : Sheet → (n k : ℕ) → Bool
held_at x n k = held_in (state_at x n).slots k

-- what the allowance itself tells after the first n calls
abbrev pub left_at : Sheet → (n : ℕ) → Allowance
left_at x zero = x.began
left_at x (suc i) = (outcome x i).left

-- call i was a scan of this run, and was accepted with these hits, which stand first in its list, and this many tries
pub record ToldHits (x : Sheet) (i : ℕ) (run : List ℕ) (hits : List Hit) (tries : ℕ) : Type 0 where
  pub here : i < length x.calls
  pub room : ℕ
  pub asked : call x i ≡ scan run room
  pub accepted : (outcome x i).answer ≡ Some (Ok (Scanned (record { hits = length hits; tries = tries })))
  pub listed : take (length hits) (outcome x i).hits ≡ hits

-- call i was a would-apply of these glyphs, and was accepted with this answer
pub record ToldApplies (x : Sheet) (i : ℕ) (glyphs : List ℕ) (bare yes : Bool) : Type 0 where
  pub here : i < length x.calls
  pub asked : call x i ≡ would_apply glyphs bare
  pub accepted : (outcome x i).answer ≡ Some (Ok (Applies yes))

-- Whatever earlier calls led from an allowance given to the one that these calls began with: the allowance given is what
-- is left and all draws granted so far, by the tally of the earlier calls and these.
abbrev pub AddsUp : (bank : List Subtable) → (began : Allowance) → (calls : List Event) → (left : Allowance) → Type 0
AddsUp bank began calls left = (given : Allowance) (earlier : List Event) → leaves bank given earlier ≡ began
    → given ≡ left plus (tally bank given (earlier ++ calls)).drawn

-- the promise of one book
pub record Promise (x : Sheet) : Type 0 where
  -- an accepted scan lists, in order of place, exactly the places where some subtable matches, each with the hit of the first
  pub complete : (i : ℕ) (run : List ℕ) (hits : List Hit) (tries : ℕ) → ToldHits x i run hits tries → Listed x.bank run hits
  -- and counts its tries by the try rule
  pub by_rule : (i : ℕ) (run : List ℕ) (hits : List Hit) (tries : ℕ) → ToldHits x i run hits tries → tries ≡ tries_by x.bank (held_at x i) run
  -- an accepted would-apply says yes exactly where some subtable would apply
  pub exact : (i : ℕ) (glyphs : List ℕ) (bare yes : Bool) → ToldApplies x i glyphs bare yes → Decides yes (SomeApplies x.bank glyphs bare)
  -- at the start and after every call, the allowance given is what is left and all draws granted so far
  pub adds_up : (n : ℕ) → n ≤ length x.calls → AddsUp x.bank x.began (take n x.calls) (left_at x n)
  pub at_end : left_at x (length x.calls) ≡ x.rest

-- the promise of two books on banks of one meaning, each after any calls of its own
pub record Agree (x y : Sheet) : Type 0 where
  -- accepted scans of the same run have the same hits
  pub same_hits : (i j : ℕ) (run : List ℕ) (hits hits' : List Hit) (tries tries' : ℕ)
      → ToldHits x i run hits tries → ToldHits y j run hits' tries' → hits ≡ hits'
  -- and the book that then holds every filter that the other holds makes no more tries
  pub fewer_tries : (i j : ℕ) (run : List ℕ) (hits hits' : List Hit) (tries tries' : ℕ)
      → ToldHits x i run hits tries → ToldHits y j run hits' tries'
      → ((k : ℕ) → held_at y j k ≡ true → held_at x i k ≡ true) → tries ≤ tries'
