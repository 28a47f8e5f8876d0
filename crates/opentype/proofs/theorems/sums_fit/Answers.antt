use Rattle.opentype.proofs.Sums.{sums_fit}
use Rattle.opentype.proofs.theorems.sums_fit.Goals as goal

pub returns : goal.returns
returns c = sums_fit
