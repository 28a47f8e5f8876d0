use Rattle.context.proofs.coverages.ChainContext3.rule_finds.Goals as goal

pub returns-in-Narrow : goal.returns-in-Narrow
returns-in-Narrow c = rw c.in-Narrow.is c.find.ensures

pub returns-in-Wide : goal.returns-in-Wide
returns-in-Wide c = rw c.in-Wide.is c.find-in-Wide.ensures
