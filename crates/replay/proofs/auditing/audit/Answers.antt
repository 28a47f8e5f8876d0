use Rattle.std.proofs.Common.{sym}
use Rattle.calls.proofs.Keeping.{sheets_agree}
use Rattle.replay.proofs.auditing.audit.Goals as goal

pub returns-clause-agree : goal.returns-clause-agree
returns-clause-agree g c same =
    let law = g.A.Matching.lawful c.args.one in
    let law' = g.B.Matching.lawful c.args.other in
    let one = c.replay-one.ensures.worked_off.replied in
    let other = c.replay-other.ensures.worked_off.replied in
    (sheets_agree _ _ _ _ law law' one other same, sheets_agree _ _ _ _ law' law other one (sym same))
