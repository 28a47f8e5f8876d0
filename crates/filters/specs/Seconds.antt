-- How the values of rules are added, by the tables that they are read in.
-- Assumes nothing.
use Rattle.std.specs.Prelude.{ℕ, List}
use Rattle.opentype.specs.Filters.{Adding, add_class, add_ahead, add_coverage}
use Rattle.opentype.specs.Headers.{coverage_at}
use Rattle.tables.specs.Tables.{classes_of}
use Rattle.tables.specs.declared.class.ClassDef.{ClassDef}

-- a value is a class
abbrev pub classes_adding : (input lookahead : ClassDef) → Adding ℕ
classes_adding input lookahead = record { input = add_class (classes_of input); lookahead = add_ahead (classes_of lookahead) }

-- a value is the offset of a coverage table
abbrev pub offsets_adding : List ℕ → Adding ℕ
offsets_adding xs = record { input = λ value. add_coverage (coverage_at xs value); lookahead = λ value. add_coverage (coverage_at xs value) }
