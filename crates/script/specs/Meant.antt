-- What the commands of a script mean, by its buffers.
use Rattle.std.specs.Prelude.{◌≡◌, ℕ, ◌-◌, ◌≤◌, List, ◌++◌, map, length, take, drop, Ok, Err, vec_items, Result, MatchResult}
use Rattle.std.specs.List.{AllByRecursion}
use Rattle.script.specs.Lines.{Said, coverage, class, digest_of, digest_span, allowance, left, opens, opens_wide, hit, applies, aside, masks, words, book, filter, forget, state, would_apply, scan, masks_beside, words_beside, anew, end}
use Rattle.script.specs.declared.command.Command.{Command}
use Rattle.script.specs.declared.command.Command.TheVariants as command
use Rattle.script.specs.declared.command.BookCommand.{BookCommand}
use Rattle.script.specs.declared.command.BookCommand.TheVariants as on_book
use Rattle.words.specs.declared.fault.Fault.{Fault}
use Rattle.words.specs.declared.fault.Unread.{Unread}
use Rattle.words.specs.declared.fault.Unread.TheVariants as unread
use Rattle.words.specs.Reading.{IfFault}
use Rattle.script.specs.declared.reader.Script.{Script}
use Rattle.words.specs.declared.span.Span.{Span}

-- the elements at a span
abbrev pub cut : Span → List ℕ → List ℕ
cut s xs = take (s.end - s.start) (drop s.start xs)

abbrev pub Inside : Span → List ℕ → Type 0
Inside s xs = (s.start ≤ s.end) × (s.end ≤ length xs)

-- a command on a book with what stands at its spans
abbrev pub meant_on_book : (glyphs : List ℕ) → BookCommand → Said
meant_on_book glyphs (on_book.Filter subtable) = filter subtable
meant_on_book glyphs (on_book.Forget subtable) = forget subtable
meant_on_book glyphs (on_book.State subtable) = state subtable
meant_on_book glyphs (on_book.WouldApply zero_context at) = would_apply zero_context (cut at glyphs)
meant_on_book glyphs (on_book.Scan count at) = scan count (cut at glyphs)
meant_on_book glyphs (on_book.MasksBeside subtable) = masks_beside subtable
meant_on_book glyphs (on_book.WordsBeside subtable count) = words_beside subtable count
meant_on_book glyphs on_book.Anew = anew
meant_on_book glyphs on_book.End = end

-- a command with what stands at its spans
abbrev pub meant : (bytes glyphs : List ℕ) → Command → Said
meant bytes glyphs (command.Coverage table glyph) = coverage (cut table bytes) glyph
meant bytes glyphs (command.Class table glyph) = class (cut table bytes) glyph
meant bytes glyphs (command.DigestOf at) = digest_of (cut at glyphs)
meant bytes glyphs (command.DigestSpan first last) = digest_span first last
meant bytes glyphs (command.Allowance work amount) = allowance work amount
meant bytes glyphs command.Left = left
meant bytes glyphs (command.Open table chained) = opens (cut table bytes) chained
meant bytes glyphs (command.OpenWide table parts) = opens_wide (cut table bytes) parts
meant bytes glyphs (command.Hit subtable place at) = hit subtable place (cut at glyphs)
meant bytes glyphs (command.Applies subtable zero_context at) = applies subtable zero_context (cut at glyphs)
meant bytes glyphs command.Aside = aside
meant bytes glyphs (command.Masks subtable) = masks subtable
meant bytes glyphs (command.Words subtable count) = words subtable count
meant bytes glyphs command.Book = book
meant bytes glyphs (command.OnBook c) = meant_on_book glyphs c

-- a line with what stands at its spans
abbrev pub said : (bytes glyphs : List ℕ) → Result Command Fault → Result Said Fault
said bytes glyphs (Ok c) = Ok (meant bytes glyphs c)
said bytes glyphs (Err f) = Err f

-- what all lines of a script say
abbrev pub said_of : Script → List (Result Said Fault)
said_of s = map (said (vec_items s.bytes) (vec_items s.glyphs)) (vec_items s.lines)

-- a command on a book stands where its span is inside the glyphs
abbrev pub StandsOnBook : (glyphs : List ℕ) → BookCommand → Type 0
StandsOnBook glyphs (on_book.Filter subtable) = Unit {0}
StandsOnBook glyphs (on_book.Forget subtable) = Unit {0}
StandsOnBook glyphs (on_book.State subtable) = Unit {0}
StandsOnBook glyphs (on_book.WouldApply zero_context at) = Inside at glyphs
StandsOnBook glyphs (on_book.Scan count at) = Inside at glyphs
StandsOnBook glyphs (on_book.MasksBeside subtable) = Unit {0}
StandsOnBook glyphs (on_book.WordsBeside subtable count) = Unit {0}
StandsOnBook glyphs on_book.Anew = Unit {0}
StandsOnBook glyphs on_book.End = Unit {0}

-- a command stands where its spans are inside the buffers
abbrev pub Stands : (bytes glyphs : List ℕ) → Command → Type 0
Stands bytes glyphs (command.Coverage table glyph) = Inside table bytes
Stands bytes glyphs (command.Class table glyph) = Inside table bytes
Stands bytes glyphs (command.DigestOf at) = Inside at glyphs
Stands bytes glyphs (command.DigestSpan first last) = Unit {0}
Stands bytes glyphs (command.Allowance work amount) = Unit {0}
Stands bytes glyphs command.Left = Unit {0}
Stands bytes glyphs (command.Open table chained) = Inside table bytes
Stands bytes glyphs (command.OpenWide table parts) = Inside table bytes
Stands bytes glyphs (command.Hit subtable place at) = Inside at glyphs
Stands bytes glyphs (command.Applies subtable zero_context at) = Inside at glyphs
Stands bytes glyphs command.Aside = Unit {0}
Stands bytes glyphs (command.Masks subtable) = Unit {0}
Stands bytes glyphs (command.Words subtable count) = Unit {0}
Stands bytes glyphs command.Book = Unit {0}
Stands bytes glyphs (command.OnBook c) = StandsOnBook glyphs c

abbrev pub LineStands : (bytes glyphs : List ℕ) → Result Command Fault → Type 0
LineStands bytes glyphs (Ok c) = Stands bytes glyphs c
LineStands bytes glyphs (Err f) = Unit {0}

-- every command of a script stands
abbrev pub Sound : Script → Type 0
Sound s = AllByRecursion (LineStands (vec_items s.bytes) (vec_items s.glyphs)) (vec_items s.lines)

-- ---- what a reading call leaves

-- a fault is the one of the definition; of no memory nothing is known
abbrev pub Faulty : {X : Type 0} → Result X Fault → Unread → Type 0
Faulty read u = IfFault u (λ f. read ≡ Err f)

-- numbers that were appended and stand at a span
pub record Stored (xs before after : List ℕ) (s : Span) : Type 0 where
  pub grown : after ≡ before ++ xs
  pub at : cut s after ≡ xs
  pub inside : Inside s after

-- numbers that were read are appended; a fault leaves the buffer as it was
abbrev pub Read : Result (List ℕ) Fault → (before after : List ℕ) → Result Span Unread → Type 0
Read read before after r =
    MatchResult r (λ s. (xs : List ℕ) × (read ≡ Ok xs) × Stored xs before after s) (λ u. (after ≡ before) × Faulty read u)

-- the same where a fault leaves the numbers before it
abbrev pub Pushed : Result (List ℕ) Fault → (before after : List ℕ) → Result (Unit {0}) Unread → Type 0
Pushed read before after r =
    MatchResult r
    (λ _. (xs : List ℕ) × (read ≡ Ok xs) × (after ≡ before ++ xs))
    (λ u. ((xs : List ℕ) × (after ≡ before ++ xs)) × Faulty read u)

-- the buffers grow, and the lines stay
pub record Grows (before after : Script) : Type 0 where
  pub bytes : (xs : List ℕ) × (vec_items after.bytes ≡ vec_items before.bytes ++ xs)
  pub glyphs : (xs : List ℕ) × (vec_items after.glyphs ≡ vec_items before.glyphs ++ xs)
  pub lines : vec_items after.lines ≡ vec_items before.lines

-- a command that was read means what the definition says, and the buffers grew by what it stands on
abbrev pub CommandRead : Result Said Fault → (before after : Script) → Result Command Unread → Type 0
CommandRead read before after r =
    Grows before after
    × MatchResult r
    (λ c. (read ≡ Ok (meant (vec_items after.bytes) (vec_items after.glyphs) c)) × Stands (vec_items after.bytes) (vec_items after.glyphs) c)
    (λ u. (vec_items after.bytes ≡ vec_items before.bytes) × (vec_items after.glyphs ≡ vec_items before.glyphs) × Faulty read u)

-- a line says the command that was read, or the fault
abbrev pub LineOf : Result Command Unread → Result Command Fault → Type 0
LineOf (Ok c) said = said ≡ Ok c
LineOf (Err (unread.Fault f)) said = said ≡ Err f
LineOf (Err (unread.NoMemory e)) said = ⊥
