use Rattle.std.proofs.Common.{ap, ◌∙◌, arith}
use Rattle.calls.proofs.Keeping.{sheets_keep}
use Rattle.calls.proofs.Steps.{played_all, played_more}
use Rattle.replay.proofs.working.replay.Goals as goal

pub loop-i-preserved : goal.loop-i-preserved
loop-i-preserved g c =
    let w = c.work.ensures in
    let same = c.loop-i.invariant.0 in (
      w.same ∙ same,
      played_more _ _ _ _ _ (ap g.B.Matching.meaning same) c.loop-i.i c.index-lines-i.result _ _ _ _ _ c.loop-i.lines (omega arith) c.loop-i.invariant.1 w.call w.does w.came,
    )

pub returns-clause-worked_off : goal.returns-clause-worked_off
returns-clause-worked_off g c =
    let all = played_all _ _ _ _ c.loop-i.i _ _ _ (omega arith) c.loop-i.invariant.1 in
    record { slots_are = all.1; replied = all.0; promise = sheets_keep _ _ (g.B.Matching.lawful c.args.bank) all.0 }
