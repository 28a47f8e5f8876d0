use Rattle.std.proofs.Common.{◌%◌, refl, mod-lt, arith}
use Rattle.opentype.proofs.Bits.{ones_has}
use Rattle.digest.proofs.rule_set_digest.RuleSetDigest.full.Goals as goal

pub returns : goal.returns
returns c = record { value = refl; every = λ v. ones_has (v % 64) (mod-lt v (omega arith)) }
