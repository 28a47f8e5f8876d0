use Rattle.bank.proofs.Searching.{Missed}
use Rattle.bank.proofs.search.first_hit.Given as goal

-- none of the subtables passed matches
abbrev pub invariant-loop-k : goal.invariant-loop-k
invariant-loop-k g l = Missed (g.B.Matching.meaning l.bank) l.run l.place l.k
