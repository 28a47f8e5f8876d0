use Rattle.opentype.proofs.Carrying.{carrying}
use Rattle.opentype.proofs.Drawing.{goes}
use Rattle.opentype.proofs.theorems.draws_go_in_order.Goals as goal

pub returns : goal.returns
returns c = record { order = goes; carrying = carrying }
