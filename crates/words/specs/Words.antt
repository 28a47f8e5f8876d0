-- The words of a line: the longest runs of bytes that are no space.
use Rattle.std.specs.Prelude.{◌≡◌, ℕ, ◌<◌, true, not, List, [], ◌∷◌, length, take, drop, Some, None, Option, is_some, option_map, ◌==◌}
use Rattle.std.specs.Borrow.{Bor}
use Rattle.std.specs.Iterator.{YieldsFirstBy}
use Rattle.std.specs.List.{filter, slice_split}
use Rattle.words.specs.Bytes.{index_of, leading}
use Rattle.words.specs.declared.line.Words.{Words}

-- a text from its first word on
abbrev pub from_word : List ℕ → List ℕ
from_word cs = drop (leading 32 cs) cs

abbrev pub unless_empty : List ℕ → Option (List ℕ)
unless_empty [] = None
unless_empty (c ∷ cs) = Some (c ∷ cs)

-- the first word of a text, and what follows it
abbrev pub word_in : List ℕ → Option (List ℕ)
word_in cs = unless_empty (take (index_of 32 (from_word cs)) (from_word cs))

abbrev pub after_word : List ℕ → List ℕ
after_word cs = drop (index_of 32 (from_word cs)) (from_word cs)

-- all words of a text: it is cut at each space, and what stands between two that follow one another is no word
abbrev pub words_in : List ℕ → List (List ℕ)
words_in cs = filter (λ w. not (length w == 0)) (slice_split (λ c. c == 32) cs)

-- the words that are still to be read
abbrev pub words_left : Words → List (List ℕ)
words_left s = words_in s.rest.now

-- a call took the first word, if there is one, and left what follows it; a word leaves less text
pub record WordTaken (before : List ℕ) (word : Option (List ℕ)) (after : List ℕ) : Type 0 where
  pub value : word ≡ word_in before
  pub left : after ≡ after_word before
  pub shorter : is_some word ≡ true → length after < length before

-- the same in words: the first of those that were left, and the others are left
abbrev pub TakesWord : Words → Option (Bor (List ℕ)) → Words → Type 0
TakesWord s r t =
    YieldsFirstBy (λ w. w.now) words_left s r t × WordTaken s.rest.now (option_map (λ w. w.now) r) t.rest.now
