use Rattle.std.proofs.Common.{◌≡◌, ℕ, List, [], ◌∷◌, arith}
use Rattle.opentype.specs.Spans.{add_span}
use Rattle.opentype.specs.Theorems.{InBits}
use Rattle.opentype.proofs.Sums.{always_fits, sums_fit}
use Rattle.digest.proofs.After.{three_in_bits, span_added, span_kept, span_bits, span_each}
use Rattle.digest.proofs.set_digest.SetDigest.add_range.Goals as goal

-- the sums fit, so that no mask is refused
pub returns : goal.returns
returns c =
    let ms : List ℕ = c.args.self.now.masks in
    let s : ℕ = c.args.start in
    let e : ℕ = c.args.end in
    let ns : List ℕ = c.in_ok-a.a ∷ c.in_ok-b.b ∷ c.in_ok-c.c ∷ [] in
    let x = rw (always_fits 4 s e) at c.in_ok-a.ensures.value in
    let y = rw (always_fits 0 s e) at c.in_ok-b.ensures.value in
    let z = rw (always_fits 6 s e) at c.in_ok-c.ensures.value in
    let made : ns ≡ add_span ms s e = cc in
    let fits : InBits ms = three_in_bits ms (omega arith) (omega arith) (omega arith) (omega arith) in
    record {
      answer = rw (sums_fit s e);
      value = rw (sums_fit s e) made;
      added = λ _. span_added ns ms s e made;
      kept = span_kept ns ms s e made;
      each = λ _. span_each ns ms s e made fits;
      bits = λ _. span_bits ns ms s e made;
    }
