use Rattle.std.proofs.Common.{◌≡◌, ◌+◌, ◌-◌, ◌≤◌, ◌++◌, length, drop, map, vec_items, vec_len, vec_capacity}
use Rattle.words.proofs.Pairing.{byte}
use Rattle.words.proofs.hex.hex.Given as goal

abbrev pub invariant-loop-high : goal.invariant-loop-high
invariant-loop-high l =
    (vec_items l.bytes ++ map byte (drop l.high-index l.pairs) ≡ vec_items l.initial.bytes ++ map byte l.pairs)
    × (vec_len l.bytes + (length l.pairs - l.high-index) ≤ vec_capacity l.bytes)
