use Rattle.std.proofs.Common.{ℕ, List}
use Rattle.opentype.specs.Spans.{add_span}
use Rattle.opentype.proofs.Sums.{sums_fit}
use Rattle.tables.specs.Records.{left_of}
use Rattle.tables.specs.declared.ranges.RangeRecord.{RangeRecord}
use Rattle.readers.proofs.Giving.{gives}
use Rattle.adding.proofs.Turns.{adds_on, adds_all}
use Rattle.adding.proofs.coverage.add_spans.Goals as goal

pub loop-range-preserved : goal.loop-range-preserved
loop-range-preserved c =
    adds_on (gives (λ (range : RangeRecord). range) left_of c.into_iter-range-iterator.ensures.into_iter_gives c.iter-range-items.ensures) c.loop-range.yielded _ c.loop-range.yielded_by c.next.new.self c.next.ensures.steps
    (λ (range : RangeRecord) (ms : List ℕ). add_span ms range.start range.end) _ _ c.loop-range.invariant c.in-Some.range c.in-Some.is
    (rw sums_fit at c.add_range.ensures.value)

pub returns : goal.returns
returns c =
    record {
      masks =
          adds_all (gives (λ (range : RangeRecord). range) left_of c.into_iter-range-iterator.ensures.into_iter_gives c.iter-range-items.ensures) c.loop-range.yielded _ c.loop-range.yielded_by c.next.new.self c.next.ensures.steps
          (λ (range : RangeRecord) (ms : List ℕ). add_span ms range.start range.end) _ _ c.loop-range.invariant c.in-None.is;
    }
