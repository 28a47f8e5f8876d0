use Rattle.std.proofs.Common.{ℕ, ◌-◌, get_or, arith}
use Rattle.opentype.proofs.Matched.{all_missed, all_more}
use Rattle.readers.specs.Views.{uints_of}
use Rattle.rules.proofs.sequence.matches_before.Goals as goal

pub returns-then-not-matches : goal.returns-then-not-matches
returns-then-not-matches g c =
    all_missed _ (λ (k : ℕ). g.M.ValueMatch.means c.args.matcher.now ((uints_of g.W.Width.BYTES c.args.values.now).entry k) (get_or c.args.run.now (c.args.place - 1 - k) 0))
    c.args.values.now.count c.loop-i.i (omega arith) (cc (c.if-not-matches.ensures, c.get.ensures.value))

pub loop-i-preserved : goal.loop-i-preserved
loop-i-preserved g c =
    all_more (λ (k : ℕ). g.M.ValueMatch.means c.args.matcher.now ((uints_of g.W.Width.BYTES c.args.values.now).entry k) (get_or c.args.run.now (c.args.place - 1 - k) 0))
    c.loop-i.i c.loop-i.invariant (cc (c.if-not-matches.ensures, c.get.ensures.value))
