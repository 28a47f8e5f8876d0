-- The number of each refusal.
-- Assumes nothing.
use Rattle.std.specs.Prelude.{ℕ}
use Rattle.answers.specs.declared.refusal.Refusal.{Refusal}
use Rattle.answers.specs.declared.refusal.Refusal.TheVariants.{NoGlyph, TooLong, NotInRun, NoSuchSubtable, Exhausted, NotFilterable, Unopenable, SpanSum, ListFull, ShortBuffer, TooManySubtables}

abbrev pub number_of : Refusal → ℕ
number_of NoGlyph = 1
number_of TooLong = 2
number_of NotInRun = 3
number_of NoSuchSubtable = 4
number_of Exhausted = 5
number_of NotFilterable = 6
number_of Unopenable = 7
number_of SpanSum = 8
number_of ListFull = 9
number_of ShortBuffer = 10
number_of TooManySubtables = 11
