use Rattle.std.proofs.Common.{◌≡◌, ℕ, ◌-◌, true, get_or}
use Rattle.opentype.specs.Matching.{all_below}
use Rattle.readers.specs.Views.{uints_of}
use Rattle.rules.proofs.sequence.matches_before.Given as goal

abbrev pub invariant-loop-i : goal.invariant-loop-i
invariant-loop-i g l =
    all_below (λ (k : ℕ). g.M.ValueMatch.means l.matcher ((uints_of g.W.Width.BYTES l.values).entry k) (get_or l.run (l.place - 1 - k) 0)) l.i ≡ true
