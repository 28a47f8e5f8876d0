use Rattle.std.proofs.Common.{refl}
use Rattle.calls.proofs.Keeping.{sheets_in_turn}
use Rattle.replay.proofs.turns.in_turn.Goals as goal

pub returns-clause-adds_up : goal.returns-clause-adds_up
returns-clause-adds_up g c = sheets_in_turn _ _ _ _ c.replay.ensures.worked_off.replied c.replay-book.ensures.worked_off.replied refl
