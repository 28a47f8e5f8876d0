use Rattle.std.proofs.Common.{◌≡◌, ℕ, true, get_or, length}
use Rattle.opentype.specs.Draws.{Drew}
use Rattle.opentype.specs.Words.{draws_below, set_draws}
use Rattle.digest.specs.Allowances.{allowance_of}
use Rattle.rule_words.specs.Fills.{entry_of, firsts_of}
use Rattle.rule_words.proofs.fill.Given as goal

-- the words of the sets so far are stored, and what they draw is granted
abbrev pub invariant-loop-i : goal.invariant-loop-i
invariant-loop-i g l =
    let all = firsts_of g.F.Set.Width.BYTES g.F.Offset.Width.BYTES l.sets in
    Drew (draws_below (λ (k : ℕ). set_draws (all.entry k)) (length l.yielded)) (allowance_of l.initial.budget) (allowance_of l.budget) true
    × ((k : ℕ) → get_or l.words k 0 ≡ entry_of all (length l.yielded) l.initial.words k)
