-- The words that name kinds of subtables.
use Rattle.std.specs.Prelude.{ℕ, Bool, true, false, cond, List, Ok, Err, codes, Result}
use Rattle.std.specs.Str.{bytes_eq}
use Rattle.words.specs.declared.fault.Fault.{Fault}
use Rattle.words.specs.declared.fault.Fault.TheVariants.{UnknownKind}
use Rattle.arguments.specs.declared.kinds.WideKind.{WideKind}
use Rattle.arguments.specs.declared.kinds.WideKind.TheVariants.{Glyphs, PlainClasses, ChainedClasses, Coverages}

-- whether a word names chained subtables, and not plain ones
abbrev pub chained_in : List ℕ → Result Bool Fault
chained_in w =
    cond (bytes_eq w (codes "plain")) (Ok false) (cond (bytes_eq w (codes "chained")) (Ok true) (Err UnknownKind))

-- a wide kind by the word that names it and whether it is chained; coverages are plain
abbrev pub kind_by : List ℕ → Result Bool Fault → Result WideKind Fault
kind_by w (Err f) = Err f
kind_by w (Ok chained) =
    cond (bytes_eq w (codes "glyphs")) (Ok (Glyphs chained))
    (cond (bytes_eq w (codes "classes")) (Ok (cond chained ChainedClasses PlainClasses))
    (cond (bytes_eq w (codes "coverages")) (cond chained (Err UnknownKind) (Ok Coverages)) (Err UnknownKind)))

-- the wide kind that two words name
abbrev pub kind_in : List ℕ → List ℕ → Result WideKind Fault
kind_in kind chained = kind_by kind (chained_in chained)

-- how many byte ranges a subtable of a wide kind has
abbrev pub range_count : WideKind → ℕ
range_count (Glyphs chained) = 2
range_count PlainClasses = 3
range_count ChainedClasses = 5
range_count Coverages = 2
