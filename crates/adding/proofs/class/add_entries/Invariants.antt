use Rattle.std.proofs.Common.{◌≡◌, length}
use Rattle.opentype.specs.Filters.{add_entries_below}
use Rattle.readers.specs.Views.{uints_of}
use Rattle.adding.proofs.class.add_entries.Given as goal

-- the entries so far are added
abbrev pub invariant-loop-k : goal.invariant-loop-k
invariant-loop-k l = l.digest.masks ≡ add_entries_below l.start l.class (uints_of 2 l.classes) (length l.yielded) l.initial.digest.masks
