-- What two banks joined mean: the first 32 of the one's subtables and then the other's. Their hits are numbered anew.
-- Assumes nothing.
use Rattle.std.specs.Prelude.{ℕ, ◌+◌, cond, List, ◌++◌, length, take, Some, None, Ok, Err, Option, Result, nat_le}
use Rattle.answers.specs.declared.hit.Hit.{Hit}
use Rattle.answers.specs.declared.refusal.Refusal.{Refusal}
use Rattle.answers.specs.declared.refusal.Refusal.TheVariants.{TooManySubtables}

abbrev pub joined_banks : {X : Type 0} → (first second : List X) → List X
joined_banks first second = take 32 (first ++ second)

-- refused where there are more than 32 together
abbrev pub join_answer : {X : Type 0} → (first second : List X) → Result Unit Refusal
join_answer first second = cond (nat_le (length first + length second) 32) (Ok tt) (Err TooManySubtables)

-- the same answer, its hit told as that of subtable k
abbrev pub renumbered : (k : ℕ) → Result (Option Hit) Refusal → Result (Option Hit) Refusal
renumbered k (Err e) = Err e
renumbered k (Ok None) = Ok None
renumbered k (Ok (Some h)) = Ok (Some (record {
  place = h.place;
  subtable = k;
  length = h.length;
  records = h.records;
  record_count = h.record_count;
}))
