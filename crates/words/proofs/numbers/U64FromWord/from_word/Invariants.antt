use Rattle.std.proofs.Common.{◌≡◌, ◌^◌, ◌<◌, drop}
use Rattle.words.specs.Numbers.{value_after}
use Rattle.words.proofs.numbers.U64FromWord.from_word.Given as goal

abbrev pub invariant-loop-digit : goal.invariant-loop-digit
invariant-loop-digit l =
    (value_after l.value (drop l.digit-index l.word) ≡ value_after 0 l.word) × (l.value < 2 ^ 64)
