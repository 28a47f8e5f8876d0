use Rattle.std.proofs.Common.{◌+◌, ◌-◌, ◌/◌, arith, rules}
use Rattle.opentype.proofs.Searching.{search_finds}
use Rattle.tables.proofs.Searching.{left_start, left_up, left_down, left_here, left_none}
use Rattle.tables.proofs.search.find.Goals as goal

pub loop-low-init : goal.loop-low-init
loop-low-init g c = (omega arith, left_start _ _ c.len-high.ensures)

pub loop-low-preserved-then-end-glyph : goal.loop-low-preserved-then-end-glyph
loop-low-preserved-then-end-glyph g c =
    let mid = c.loop-low.low + (c.loop-low.high - c.loop-low.low) / 2 in
    (omega arith, left_up mid c.loop-low.invariant.1 (omega arith) (omega arith) (search rules))

pub loop-low-preserved : goal.loop-low-preserved
loop-low-preserved g c =
    let mid = c.loop-low.low + (c.loop-low.high - c.loop-low.low) / 2 in
    (omega arith, left_down mid c.loop-low.invariant.1 (omega arith) (omega arith) (search rules) (search rules))

pub returns-else-glyph-start : goal.returns-else-glyph-start
returns-else-glyph-start g c =
    let mid = c.loop-low.low + (c.loop-low.high - c.loop-low.low) / 2 in
    let is = left_here mid c.loop-low.invariant.1 (omega arith) (omega arith) (search rules) (search rules) in
    record { answer = is; holds = search rules; order = rw is (search_finds _ _ _ _) }

pub returns : goal.returns
returns g c =
    let is = left_none c.loop-low.invariant.1 c.loop-low-test.false in
    record { answer = is; holds = tt; order = rw is (search_finds _ _ _ _) }
