-- What an iterator of numbers has left.
-- Assumes nothing.
use Rattle.std.specs.Prelude.{ℕ, List}
use Rattle.readers.specs.Views.{entries_from, uints_of}
use Rattle.readers.specs.declared.each.Each.{Each}
use Rattle.readers.specs.declared.uints.Numbers.{Numbers}

abbrev pub left_of : {W : Type 0} → (width : ℕ) → Each (Numbers W) → List ℕ
left_of width n = entries_from n.at (uints_of width n.view.uints)
