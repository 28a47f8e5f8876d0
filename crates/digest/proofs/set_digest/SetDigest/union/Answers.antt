use Rattle.std.proofs.Common.{ℕ, List, refl}
use Rattle.opentype.proofs.Laws.{digest_laws, mask_laws}
use Rattle.digest.proofs.set_digest.SetDigest.union.Goals as goal

pub returns : goal.returns
returns c =
    let ms : List ℕ = c.args.self.now.masks in
    let os : List ℕ = c.args.other.now.masks in
    record { value = refl; kept = digest_laws.left ms os; added = digest_laws.right ms os; bits = mask_laws.union ms os }
