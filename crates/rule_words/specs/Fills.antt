-- Filling a buffer with the words of rule sets.
-- Assumes nothing.
use Rattle.std.specs.Prelude.{ℕ, zero, suc, ◌*◌, cond, List, ◌∷◌, Ok, Err, Option, Result, nat_le, nat_lt, slice_index}
use Rattle.answers.specs.declared.refusal.Refusal.{Refusal}
use Rattle.answers.specs.declared.refusal.Refusal.TheVariants.{ShortBuffer, Exhausted}
use Rattle.opentype.specs.Bytes.{Array}
use Rattle.opentype.specs.Draws.{Draw, Allowance, of_work, of_bytes, fit, rest}
use Rattle.opentype.specs.Headers.{firsts_at}
use Rattle.opentype.specs.Rules.{RuleSet, first_input_in, read_set, rule_set_at}
use Rattle.opentype.specs.Words.{set_draws, draws_below, word_draws, word_of}
use Rattle.readers.specs.Views.{uints_of}
use Rattle.rules.specs.declared.rule_sets.RuleSets.{RuleSets}

-- the set at a place of a class subtable, with the first input of each rule; classes have two bytes
abbrev pub firsts_in : {F : Type 0} → (offset : ℕ) → RuleSets F → (place : ℕ) → RuleSet (Option ℕ)
firsts_in offset s place = read_set (first_input_in s.chained 2) (rule_set_at offset s.bytes.now place)

-- the sets of a class subtable, with the first input of each rule
abbrev pub firsts_of : {F : Type 0} → (set offset : ℕ) → RuleSets F → Array (RuleSet (Option ℕ))
firsts_of set offset s = firsts_at (record { chained = s.chained; value = 2; offset = offset }) s.bytes.now (uints_of set s.offsets)

module _ (sets : Array (RuleSet (Option ℕ))) where
  -- what is drawn until the words of the first n sets are stored
  abbrev pub draws_until : (n : ℕ) → List Draw
  draws_until n = of_work sets.count ∷ of_bytes (8 * sets.count) ∷ draws_below (λ k. set_draws (sets.entry k)) n

  -- of the first n sets, how many have their words stored: those before the first draw that is refused
  abbrev pub stored_below : (n : ℕ) → Allowance → ℕ
  stored_below zero left = 0
  stored_below (suc n) left = cond (fit (draws_until (suc n)) left) (suc n) (stored_below n left)

  -- a buffer with its first entries, as many as are stored, replaced by the sets' words
  abbrev pub entry_of : (stored : ℕ) → (buffer : List ℕ) → (k : ℕ) → ℕ
  entry_of stored buffer k = cond (nat_lt k stored) (word_of (sets.entry k)) (slice_index buffer k)

  -- ---- a buffer of `room` entries: one shorter than the sets is refused, and nothing is drawn or stored

  abbrev pub fill_answer : (room : ℕ) → Allowance → Result (Unit {0}) Refusal
  fill_answer room left = cond (nat_le sets.count room) (cond (fit (word_draws sets) left) (Ok tt) (Err Exhausted)) (Err ShortBuffer)

  abbrev pub fill_leaves : (room : ℕ) → Allowance → Allowance
  fill_leaves room left = cond (nat_le sets.count room) (rest (word_draws sets) left) left

  abbrev pub fill_stores : (room : ℕ) → Allowance → ℕ
  fill_stores room left = cond (nat_le sets.count room) (stored_below sets.count left) 0
