use Rattle.std.proofs.Common.{refl}
use Rattle.opentype.proofs.Laws.{digest_laws}
use Rattle.digest.proofs.set_digest.SetDigest.full.Goals as goal

pub returns : goal.returns
returns c = record { value = refl; every = digest_laws.all }
