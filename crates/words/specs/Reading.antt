-- What a call answers that reads something where there may be no memory for it.
use Rattle.std.specs.Prelude.{⊤}
use Rattle.words.specs.declared.fault.Fault.{Fault}
use Rattle.words.specs.declared.fault.Unread.{Unread}
use Rattle.words.specs.declared.fault.Unread.TheVariants as unread

-- where it is a fault, P holds of it
abbrev pub IfFault : Unread → (Fault → Type 0) → Type 0
IfFault (unread.Fault f) P = P f
IfFault (unread.NoMemory e) P = ⊤
