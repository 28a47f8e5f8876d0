use Rattle.std.proofs.Common.{◌≡◌, ℕ, ◌+◌, min, cond, eqb, List, refl, ap, ◌∙◌, arith}
use Rattle.std.proofs.lemmas.Bool.{eq-eqb, ne_eqb}
use Rattle.opentype.specs.Masks.{add_glyph}
use Rattle.readers.specs.Left.{left_of}
use Rattle.readers.proofs.Giving.{gives_numbered}
use Rattle.adding.proofs.Turns.{adds_on, adds_all}
use Rattle.adding.proofs.class.add_entries.Goals as goal

-- what an entry adds, at its number
abbrev adds : (start class : ℕ) → ℕ × ℕ → List ℕ → List ℕ
adds start class e masks = cond (eqb e.1 class) (add_glyph masks (min (start + e.0) 65535)) masks

pub loop-k-preserved-then-entry-class : goal.loop-k-preserved-then-entry-class
loop-k-preserved-then-entry-class c =
    let m : c.min.result ≡ min (c.args.start + c.in-Some.k) 65535 = omega arith in
    let y = gives_numbered (left_of 2) c.into_iter-k-iterator.ensures.into_iter_gives c.zip-k-items.ensures.first refl
    c.zip-k-items.ensures.second c.iter.ensures (omega arith) in
    let t = eq-eqb c.in-Some.entry c.args.class c.if-entry-class.true in
    adds_on y c.loop-k.yielded _ c.loop-k.yielded_by c.next.new.self c.next.ensures.steps
    (adds c.args.start c.args.class) _ _ c.loop-k.invariant (c.in-Some.k, c.in-Some.entry) c.in-Some.is
    (rw t (c.add.ensures.value ∙ ap (add_glyph c.loop-k.digest.masks) m))

pub loop-k-preserved : goal.loop-k-preserved
loop-k-preserved c =
    let y = gives_numbered (left_of 2) c.into_iter-k-iterator.ensures.into_iter_gives c.zip-k-items.ensures.first refl
    c.zip-k-items.ensures.second c.iter.ensures (omega arith) in
    let t = ne_eqb c.in-Some.entry c.args.class c.if-entry-class.false in
    adds_on y c.loop-k.yielded _ c.loop-k.yielded_by c.next.new.self c.next.ensures.steps
    (adds c.args.start c.args.class) _ _ c.loop-k.invariant (c.in-Some.k, c.in-Some.entry) c.in-Some.is (rw t refl)

pub returns : goal.returns
returns c =
    let y = gives_numbered (left_of 2) c.into_iter-k-iterator.ensures.into_iter_gives c.zip-k-items.ensures.first refl
    c.zip-k-items.ensures.second c.iter.ensures (omega arith) in
    record {
      masks =
          adds_all y c.loop-k.yielded _ c.loop-k.yielded_by c.next.new.self c.next.ensures.steps
          (adds c.args.start c.args.class) _ _ c.loop-k.invariant c.in-None.is;
    }
