use Rattle.std.proofs.Common.{◌≡◌}
use Rattle.calls.proofs.Steps.{Played}
use Rattle.replay.proofs.working.replay.Given as goal

-- the lines passed are worked off
abbrev pub invariant-loop-i : goal.invariant-loop-i
invariant-loop-i g l =
    (l.book.bank ≡ l.fn.bank) ×
    Played (g.O.Matching.meaning l.beside) (g.B.Matching.meaning l.fn.bank) l.fn.budget l.fn.lines l.i l.book.slots.table l.budget l.lines
