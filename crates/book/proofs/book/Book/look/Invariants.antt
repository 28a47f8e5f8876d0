use Rattle.opentype.specs.Meaning.{subtable}
use Rattle.bank.specs.Answers.{hit_of}
use Rattle.book.specs.Scans.{may_try}
use Rattle.book.proofs.Looking.{Looked}
use Rattle.book.proofs.book.Book.look.Given as goal

-- the subtables passed have no hit, or were skipped
abbrev pub invariant-loop-k : goal.invariant-loop-k
invariant-loop-k g l =
    Looked (may_try l.self.slots.table l.run l.place) (λ k. hit_of (subtable (g.B.Matching.meaning l.self.bank) k) k l.run l.place) l.k l.tries
