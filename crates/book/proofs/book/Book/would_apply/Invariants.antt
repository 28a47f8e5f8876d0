use Rattle.std.proofs.Common.{◌≡◌, false, ◌&&◌}
use Rattle.opentype.specs.Matching.{any_below}
use Rattle.opentype.specs.Meaning.{subtable}
use Rattle.book.specs.Scans.{may_try}
use Rattle.book.proofs.book.Book.would_apply.Given as goal

-- the subtables passed would not apply, or were skipped
abbrev pub invariant-loop-k : goal.invariant-loop-k
invariant-loop-k g l =
    any_below (λ k. may_try l.self.slots.table l.glyphs 0 k && (subtable (g.B.Matching.meaning l.self.bank) k).matching.applies l.glyphs l.zero_context) l.k ≡ false
