-- What is proved of all sheets whose calls were answered as they are defined.
-- Assumes nothing.
use Rattle.std.specs.Prelude.{◌≡◌, List, ◌++◌, map}
use Rattle.opentype.specs.Meaning.{Bank}
use Rattle.calls.specs.Events.{beside}
use Rattle.calls.specs.Promise.{AddsUp, Agree, Promise, Sheet}
use Rattle.calls.specs.Replied.{Replied}
use Rattle.calls.specs.Sheets.{Outcome}

-- such a sheet keeps the promise
abbrev pub SheetsKeep : Type 0
SheetsKeep = (x : Sheet) (lent : List Outcome) → Bank x.bank → Replied x lent → Promise x

-- two such sheets on banks of one meaning agree
abbrev pub SheetsAgree : Type 0
SheetsAgree = (x y : Sheet) (lent lent' : List Outcome) → Bank x.bank → Bank y.bank → Replied x lent → Replied y lent' → x.bank ≡ y.bank → Agree x y

-- where the second begins with what the first left, the tally goes on: the first book's calls come before
abbrev pub SheetsInTurn : Type 0
SheetsInTurn = (x y : Sheet) (lent lent' : List Outcome) → Replied x lent → Replied y lent' → y.began ≡ x.rest
    → AddsUp y.bank x.began (map (beside x.bank) x.calls ++ y.calls) y.rest
