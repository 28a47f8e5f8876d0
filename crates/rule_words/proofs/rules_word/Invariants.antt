use Rattle.std.proofs.Common.{◌≡◌, ℕ, Some, length}
use Rattle.opentype.specs.Rules.{first_input_in}
use Rattle.opentype.specs.Words.{word_below}
use Rattle.rules.specs.Views.{parts_of}
use Rattle.rule_words.proofs.rules_word.Given as goal

-- the first inputs of the rules so far are added
abbrev pub invariant-loop-rule : goal.invariant-loop-rule
invariant-loop-rule g l =
    word_below (λ (k : ℕ). first_input_in l.chained 2 ((parts_of g.F.Offset.Width.BYTES l.rules).entry k)) (length l.yielded) ≡ Some l.digest.word
