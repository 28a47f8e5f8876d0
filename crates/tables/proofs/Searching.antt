-- One turn of the search.
-- Assumes nothing.
use Rattle.std.proofs.Common.{◌≡◌, ℕ, zero, suc, ◌+◌, ◌-◌, ◌/◌, ◌<◌, ◌≤◌, true, false, ltb, Some, None, Option, refl, arith}
use Rattle.std.proofs.lemmas.Bool.{lt-ltb, le-ltb}
use Rattle.opentype.specs.Search.{search_from, searched}

-- what is left between `low` and `high` gives the answer, in turns enough
pub data Left (starts ends : ℕ → ℕ) (glyph low high : ℕ) (answer : Option ℕ) : Type 0 where
  left : (turns : ℕ) → high - low ≤ turns → search_from starts ends glyph turns low high ≡ answer → Left starts ends glyph low high answer

-- at the start all is left
pub left_start : {starts ends : ℕ → ℕ} {glyph : ℕ} (count size : ℕ) → count ≡ size → Left starts ends glyph 0 count (searched starts ends size glyph)
left_start count size e = rw e (left size (omega arith) refl)

module _ {starts ends : ℕ → ℕ} {glyph low high : ℕ} {answer : Option ℕ} where
  -- where the middle entry ends below the glyph, the search goes on above it
  pub left_up : (mid : ℕ) → Left starts ends glyph low high answer → low < high → mid ≡ (low + high) / 2 → ends mid < glyph
      → Left starts ends glyph (mid + 1) high answer
  left_up mid (left zero n is) l m e = absurd (omega arith)
  left_up mid (left (suc t) n is) l m e =
      let a : ltb low high ≡ true = lt-ltb low high l in
      let b : ltb (ends ((low + high) / 2)) glyph ≡ true = lt-ltb _ _ (rw m at e) in
      left t (omega arith) (rw m (rw (a, b) at is))

  -- where it starts above the glyph, the search goes on below it
  pub left_down : (mid : ℕ) → Left starts ends glyph low high answer → low < high → mid ≡ (low + high) / 2 → glyph ≤ ends mid → glyph < starts mid
      → Left starts ends glyph low mid answer
  left_down mid (left zero n is) l m e s = absurd (omega arith)
  left_down mid (left (suc t) n is) l m e s =
      let a : ltb low high ≡ true = lt-ltb low high l in
      let b : ltb (ends ((low + high) / 2)) glyph ≡ false = le-ltb _ _ (rw m at e) in
      let d : ltb glyph (starts ((low + high) / 2)) ≡ true = lt-ltb _ _ (rw m at s) in
      left t (omega arith) (rw m (rw (a, b, d) at is))

  -- where it does neither, it is the answer
  pub left_here : (mid : ℕ) → Left starts ends glyph low high answer → low < high → mid ≡ (low + high) / 2 → glyph ≤ ends mid → starts mid ≤ glyph
      → Some mid ≡ answer
  left_here mid (left zero n is) l m e s = absurd (omega arith)
  left_here mid (left (suc t) n is) l m e s =
      let a : ltb low high ≡ true = lt-ltb low high l in
      let b : ltb (ends ((low + high) / 2)) glyph ≡ false = le-ltb _ _ (rw m at e) in
      let d : ltb glyph (starts ((low + high) / 2)) ≡ false = le-ltb _ _ (rw m at s) in
      rw m (rw (a, b, d) at is)

  -- where no entry is left, the answer is none
  pub left_none : Left starts ends glyph low high answer → high ≤ low → None ≡ answer
  left_none (left zero n is) l = is
  left_none (left (suc t) n is) l = let a : ltb low high ≡ false = le-ltb low high l in rw a at is
