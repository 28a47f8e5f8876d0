use Rattle.std.proofs.Common.{ℕ, List}
use Rattle.opentype.specs.Masks.{add_glyph}
use Rattle.readers.specs.Left.{left_of}
use Rattle.readers.proofs.Giving.{gives}
use Rattle.adding.proofs.Turns.{adds_on, adds_all}
use Rattle.adding.proofs.coverage.add_glyphs.Goals as goal

pub loop-glyph-preserved : goal.loop-glyph-preserved
loop-glyph-preserved c =
    adds_on (gives (λ (glyph : ℕ). glyph) (left_of 2) c.into_iter-glyph-iterator.ensures.into_iter_gives c.iter-glyph-items.ensures) c.loop-glyph.yielded _ c.loop-glyph.yielded_by c.next.new.self c.next.ensures.steps
    (λ (glyph : ℕ) (ms : List ℕ). add_glyph ms glyph) _ _ c.loop-glyph.invariant c.in-Some.glyph c.in-Some.is c.add.ensures.value

pub returns : goal.returns
returns c =
    record {
      masks =
          adds_all (gives (λ (glyph : ℕ). glyph) (left_of 2) c.into_iter-glyph-iterator.ensures.into_iter_gives c.iter-glyph-items.ensures) c.loop-glyph.yielded _ c.loop-glyph.yielded_by c.next.new.self c.next.ensures.steps
          (λ (glyph : ℕ) (ms : List ℕ). add_glyph ms glyph) _ _ c.loop-glyph.invariant c.in-None.is;
    }
