use Rattle.std.proofs.Common.{ℕ, ◌%◌, not, eqb, ap, ◌∙◌}
use lib.Bits.{bit_and}
use Rattle.opentype.proofs.Bits.{and_has}
use Rattle.digest.proofs.masks.has_bit.Goals as goal

pub returns : goal.returns
returns c = record { value = ap (λ (b : ℕ). not (eqb (bit_and c.args.mask b) 0)) c.bit_of.ensures.value ∙ and_has c.args.mask (c.args.number % 64) }
