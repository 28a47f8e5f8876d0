-- What the lines of a script say, with their bytes and glyphs written out.
use Rattle.std.specs.Prelude.{ℕ, ◌^◌, Bool, cond, List, [], ◌∷◌, Some, None, Ok, Err, Option, Result, ◌==◌, slice_index}
use Rattle.arguments.specs.Counts.{and_then, none_of}
use Rattle.arguments.specs.Parts.{open_wide_of}
use Rattle.arguments.specs.Simple.{applies_of, count_of, flag_of, hit_of, number_of, numbers_of, open_of, table_of}
use Rattle.std.specs.List.{flat_map, slice_split}
use Rattle.words.specs.Hex.{hex_in}
use Rattle.words.specs.Numbers.{decimal_in}
use Rattle.opening.specs.declared.wide.WideParts.{WideParts}
use Rattle.script.specs.Verbs.{verb_in}
use Rattle.words.specs.Words.{words_in}
use Rattle.script.specs.declared.command.Verb.{Verb}
use Rattle.script.specs.declared.command.Verb.TheVariants as verb
use Rattle.script.specs.declared.command.BookVerb.{BookVerb}
use Rattle.script.specs.declared.command.BookVerb.TheVariants as book_verb
use Rattle.words.specs.declared.fault.Fault.{Fault}
use Rattle.words.specs.declared.fault.Fault.TheVariants.{UnknownCommand}

-- a command with its arguments
pub data Said : Type 0 where
  coverage : (table : List ℕ) (glyph : ℕ) → Said
  class : (table : List ℕ) (glyph : ℕ) → Said
  digest_of : (glyphs : List ℕ) → Said
  digest_span : (first last : ℕ) → Said
  allowance : (work bytes : ℕ) → Said
  left : Said
  opens : (table : List ℕ) (chained : Bool) → Said
  opens_wide : (table : List ℕ) (parts : WideParts) → Said
  hit : (subtable place : ℕ) (glyphs : List ℕ) → Said
  applies : (subtable : ℕ) (zero_context : Bool) (glyphs : List ℕ) → Said
  aside : Said
  masks : (subtable : ℕ) → Said
  words : (subtable count : ℕ) → Said
  book : Said
  filter : (subtable : ℕ) → Said
  forget : (subtable : ℕ) → Said
  state : (subtable : ℕ) → Said
  would_apply : (zero_context : Bool) (glyphs : List ℕ) → Said
  scan : (count : ℕ) (glyphs : List ℕ) → Said
  masks_beside : (subtable : ℕ) → Said
  words_beside : (subtable count : ℕ) → Said
  anew : Said
  end : Said

-- any number of glyphs
abbrev pub glyphs_of : List (List ℕ) → Result (List ℕ) Fault
glyphs_of [] = Ok []
glyphs_of (w ∷ ws) = and_then (decimal_in (2 ^ 32) w) (λ g. and_then (glyphs_of ws) (λ gs. Ok (g ∷ gs)))

-- a command on the bytes that a word writes, with its other arguments
abbrev pub on_bytes : {X : Type 0} → Result (List ℕ × X) Fault → (List ℕ → X → Said) → Result Said Fault
on_bytes args says = and_then args (λ p. and_then (hex_in p.0) (λ bytes. Ok (says bytes p.1)))

-- a command on the glyphs that its last words write, with its other arguments
abbrev pub on_glyphs : {X : Type 0} → Result (X × List (List ℕ)) Fault → (X → List ℕ → Said) → Result Said Fault
on_glyphs args says = and_then args (λ p. and_then (glyphs_of p.1) (λ glyphs. Ok (says p.0 glyphs)))

-- a command on a book by its verb and the words after it
abbrev pub said_on_book : BookVerb → List (List ℕ) → Result Said Fault
said_on_book book_verb.Filter ws = and_then (number_of (2 ^ 32) ws) (λ k. Ok (filter k))
said_on_book book_verb.Forget ws = and_then (number_of (2 ^ 32) ws) (λ k. Ok (forget k))
said_on_book book_verb.State ws = and_then (number_of (2 ^ 32) ws) (λ k. Ok (state k))
said_on_book book_verb.WouldApply ws = on_glyphs (flag_of ws) would_apply
said_on_book book_verb.Scan ws = on_glyphs (count_of ws) scan
said_on_book book_verb.MasksBeside ws = and_then (number_of (2 ^ 32) ws) (λ k. Ok (masks_beside k))
said_on_book book_verb.WordsBeside ws = and_then (numbers_of (2 ^ 32) ws) (λ p. Ok (words_beside p.0 p.1))
said_on_book book_verb.Anew ws = and_then (none_of ws) (λ _. Ok anew)
said_on_book book_verb.End ws = and_then (none_of ws) (λ _. Ok end)

-- a command by its verb and the words after it
abbrev pub said_by : Option Verb → List (List ℕ) → Result Said Fault
said_by None ws = Err UnknownCommand
said_by (Some verb.Coverage) ws = on_bytes (table_of ws) coverage
said_by (Some verb.Class) ws = on_bytes (table_of ws) class
said_by (Some verb.DigestOf) ws = and_then (glyphs_of ws) (λ gs. Ok (digest_of gs))
said_by (Some verb.DigestSpan) ws = and_then (numbers_of (2 ^ 32) ws) (λ p. Ok (digest_span p.0 p.1))
said_by (Some verb.Allowance) ws = and_then (numbers_of (2 ^ 64) ws) (λ p. Ok (allowance p.0 p.1))
said_by (Some verb.Left) ws = and_then (none_of ws) (λ _. Ok left)
said_by (Some verb.Open) ws = on_bytes (open_of ws) opens
said_by (Some verb.OpenWide) ws = on_bytes (open_wide_of ws) opens_wide
said_by (Some verb.Hit) ws = on_glyphs (hit_of ws) (λ p. hit p.0 p.1)
said_by (Some verb.Applies) ws = on_glyphs (applies_of ws) (λ p. applies p.0 p.1)
said_by (Some verb.Aside) ws = and_then (none_of ws) (λ _. Ok aside)
said_by (Some verb.Masks) ws = and_then (number_of (2 ^ 32) ws) (λ k. Ok (masks k))
said_by (Some verb.Words) ws = and_then (numbers_of (2 ^ 32) ws) (λ p. Ok (words p.0 p.1))
said_by (Some verb.Book) ws = and_then (none_of ws) (λ _. Ok book)
said_by (Some (verb.OnBook v)) ws = said_on_book v ws

-- a line's words: nothing where there are none
abbrev pub words_said : List (List ℕ) → List (Result Said Fault)
words_said [] = []
words_said (w ∷ ws) = said_by (verb_in w) ws ∷ []

-- a line that begins with `#` says nothing
abbrev pub line_said : List ℕ → List (Result Said Fault)
line_said line = cond (slice_index line 0 == 35) [] (words_said (words_in line))

-- what the lines of a text say, in order
abbrev pub script_in : List ℕ → List (Result Said Fault)
script_in text = flat_map line_said (slice_split (λ c. c == 10) text)
