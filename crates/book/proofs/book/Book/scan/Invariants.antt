use Rattle.book.proofs.Scanning.{Scanned}
use Rattle.book.proofs.book.Book.scan.Given as goal

-- the places passed are done
abbrev pub invariant-loop-place : goal.invariant-loop-place
invariant-loop-place g l = Scanned (g.B.Matching.meaning l.self.bank) l.self.slots.table l.run l.initial.hits l.place l.found l.tries l.hits
