use Rattle.std.proofs.Common.{◌≡◌, ℕ, List, length}
use Rattle.opentype.specs.Masks.{add_glyph}
use Rattle.opentype.specs.Walks.{fold_below}
use Rattle.readers.specs.Views.{uints_of}
use Rattle.adding.proofs.coverage.add_glyphs.Given as goal

-- the glyphs so far are added
abbrev pub invariant-loop-glyph : goal.invariant-loop-glyph
invariant-loop-glyph l =
    l.digest.masks
    ≡ fold_below (λ (k : ℕ) (ms : List ℕ). add_glyph ms ((uints_of 2 l.glyphs).entry k)) (length l.yielded) l.initial.digest.masks
