use Rattle.std.proofs.Common.{◌≡◌, ℕ, List, [], ◌∷◌}
use Rattle.opentype.specs.Masks.{add_glyph}
use Rattle.digest.proofs.After.{glyph_added, glyph_kept, glyph_bits}
use Rattle.digest.proofs.set_digest.SetDigest.add.Goals as goal

pub returns : goal.returns
returns c =
    let ms : List ℕ = c.args.self.now.masks in
    let g : ℕ = c.args.glyph in
    let ns : List ℕ = c.with_glyph.result ∷ c.with_glyph-2.result ∷ c.with_glyph-3.result ∷ [] in
    let made : ns ≡ add_glyph ms g = cc in
    record { value = made; added = glyph_added ns ms g made; kept = glyph_kept ns ms g made; bits = glyph_bits ns ms g made }
