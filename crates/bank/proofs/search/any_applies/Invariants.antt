use Rattle.bank.proofs.Searching.{Unapplied}
use Rattle.bank.proofs.search.any_applies.Given as goal

-- none of the subtables passed would apply
abbrev pub invariant-loop-k : goal.invariant-loop-k
invariant-loop-k g l = Unapplied (g.B.Matching.meaning l.bank) l.glyphs l.zero_context l.k
