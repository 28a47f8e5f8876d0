-- Kept slots hide nothing: a subtable that matches, or would apply, is never skipped.
-- Assumes nothing.
use Rattle.std.proofs.Common.{◌≡◌, ℕ, ◌+◌, ◌<◌, ◌≤◌, Bool, true, false, cond, not, ◌&&◌, ◌||◌, ltb, List, length, get_or, is_some, Some, None, Option, sym, refl, ap, ◌∙◌, ap₂, arith}
use Rattle.std.proofs.lemmas.Bool.{ltb-true, or_right, true≢false}
use Rattle.std.specs.Option.{option_map}
use Rattle.answers.specs.declared.hit.Hit.{Hit}
use Rattle.bank.specs.Answers.{hit_of, told}
use Rattle.bank.specs.Searches.{first_hit}
use Rattle.opentype.proofs.Laws.{digest_laws}
use Rattle.opentype.specs.Masks.{admits, full}
use Rattle.opentype.specs.Matching.{Found, first_below}
use Rattle.opentype.specs.Meaning.{Bank, Filter, Subtable, subtable}
use Rattle.book.specs.Laws.{FewerTries, FiltersHideNothing, Whole, held_in, skipped}
use Rattle.book.specs.Scans.{hit_at, may_try, seen}
use Rattle.book.specs.Slots.{Kept, MasksBy, is_held, slot_at}
use Rattle.book.specs.declared.slots.Slot.{Slot}
use Rattle.book.specs.declared.slots.SlotState.{SlotState}
use Rattle.book.specs.declared.slots.SlotState.TheVariants.{Bare, Held, GivenUp}
use Rattle.book.proofs.Sums.{any_same, first_same, list_same, sum_le, sum_same}

-- ---- by a slot's state

full_admits : (masks : List ℕ) (g : ℕ) → masks ≡ full → admits masks g ≡ true
full_admits masks g e = ap (λ m. admits m g) e ∙ digest_laws.all g

or_not : (next a : Bool) → (not next || a) ≡ not (next && not a)
or_not true true = refl
or_not true false = refl
or_not false a = refl

-- a slot lets its subtable be tried exactly where it is not skipped
rule_by : (state : SlotState) (f : Filter) (masks : List ℕ) (g : ℕ) (next : Bool) → MasksBy state f masks
    → (not next || admits masks g) ≡ not (is_held state && (next && not (admits f.masks g)))
rule_by Bare f masks g next e = or_right (not next) _ (full_admits masks g e)
rule_by GivenUp f masks g next e = or_right (not next) _ (full_admits masks g e)
rule_by Held f masks g next e = ap (λ m. not next || admits m g) e.1 ∙ or_not next (admits f.masks g)

next_then : (next a : Bool) → (next ≡ true → a ≡ true) → (not next || a) ≡ true
next_then true a h = h refl
next_then false a h = refl

-- where the filter's masks admit the next glyph, so does the slot
lets_by : (state : SlotState) (f : Filter) (masks : List ℕ) (g : ℕ) (next : Bool) → MasksBy state f masks
    → (f.can ≡ true → next ≡ true → admits f.masks g ≡ true) → (not next || admits masks g) ≡ true
lets_by Bare f masks g next e h = or_right (not next) _ (full_admits masks g e)
lets_by GivenUp f masks g next e h = or_right (not next) _ (full_admits masks g e)
lets_by Held f masks g next e h = next_then next (admits masks g) (λ n. ap (λ m. admits m g) e.1 ∙ h e.0 n)

seen_by : (b : Bool) (place k : ℕ) (o : Option Found) → (is_some o ≡ true → b ≡ true) → cond b (option_map (told place k) o) None ≡ option_map (told place k) o
seen_by true place k o h = refl
seen_by false place k None h = refl
seen_by false place k (Some f) h = absurd (true≢false (sym (h refl)))

and_by : (b a : Bool) → (a ≡ true → b ≡ true) → (b && a) ≡ a
and_by true a h = refl
and_by false false h = refl
and_by false true h = absurd (true≢false (sym (h refl)))

-- ---- kept slots

module _ (bank : List Subtable) (slots : List Slot) (law : Bank bank) (kept : Kept bank slots) where
  module _ (k : ℕ) (below : k < length bank) where
    few : k < 32
    few = omega (arith, law.few)

    own : MasksBy (slot_at slots k).state (subtable bank k).filter (slot_at slots k).digest.masks
    own = kept k few

    by_rule : (run : List ℕ) (place : ℕ) → may_try slots run place k ≡ not (skipped bank (held_in slots) run place k)
    by_rule run place = rule_by (slot_at slots k).state (subtable bank k).filter (slot_at slots k).digest.masks (get_or run (place + 1) 0) (ltb (place + 1) (length run)) own

    tried_at_match : (run : List ℕ) (place : ℕ) → is_some ((subtable bank k).matching.finds run place) ≡ true → may_try slots run place k ≡ true
    tried_at_match run place e =
        lets_by (slot_at slots k).state (subtable bank k).filter (slot_at slots k).digest.masks (get_or run (place + 1) 0) (ltb (place + 1) (length run)) own
        (λ can next. (law.sound k can).next run place (ltb-true (place + 1) (length run) next) e)

    seen_whole : (run : List ℕ) (place : ℕ) → seen bank slots run place k ≡ hit_of (subtable bank k) k run place
    seen_whole run place = seen_by (may_try slots run place k) place k ((subtable bank k).matching.finds run place) (tried_at_match run place)

    tried_at_list : (glyphs : List ℕ) (bare : Bool) → (subtable bank k).matching.applies glyphs bare ≡ true → may_try slots glyphs 0 k ≡ true
    tried_at_list glyphs bare e =
        lets_by (slot_at slots k).state (subtable bank k).filter (slot_at slots k).digest.masks (get_or glyphs 1 0) (ltb 1 (length glyphs)) own
        (λ can next. (law.sound k can).second glyphs bare (ltb-true 1 (length glyphs) next) e)

  hit_whole : (run : List ℕ) (place : ℕ) → hit_at bank slots run place ≡ first_hit bank run place
  hit_whole run place = first_same _ _ (length bank) (λ k l. seen_whole k l run place)

  abbrev one_if : Bool → Option Hit → ℕ
  one_if b o = cond (b && not (is_some o)) 1 0

  try_whole : (run : List ℕ) (place k : ℕ) → k < length bank
      → one_if (may_try slots run place k) (first_below (seen bank slots run place) k)
      ≡ one_if (not (skipped bank (held_in slots) run place k)) (first_below (λ j. hit_of (subtable bank j) j run place) k)
  try_whole run place k l =
      ap₂ one_if (by_rule k l run place)
      (first_same (seen bank slots run place) (λ j. hit_of (subtable bank j) j run place) k (λ j m. seen_whole j (omega arith) run place))

  whole : Whole bank slots
  whole = record {
    hits = λ run. list_same _ _ (length run) (λ place _. hit_whole run place);
    tries = λ run. sum_same _ _ (length run) (λ place _. sum_same _ _ (length bank) (λ k l. try_whole run place k l));
    applies = λ glyphs bare. any_same _ _ (length bank) (λ k l. and_by (may_try slots glyphs 0 k) ((subtable bank k).matching.applies glyphs bare) (tried_at_list k l glyphs bare));
  }

pub filters_hide_nothing : FiltersHideNothing
filters_hide_nothing = whole

-- ---- fewer tries

try_le : (a b c : Bool) → (a ≡ true → b ≡ true) → cond (a && c) 1 0 ≤ cond (b && c) 1 0
try_le true true c h = omega arith
try_le true false c h = absurd (true≢false (sym (h refl)))
try_le false true true h = omega arith
try_le false true false h = omega arith
try_le false false c h = omega arith

-- what is not skipped with more filters held is not skipped with fewer
skipped_more : (m l x : Bool) → (l ≡ true → m ≡ true) → not (m && x) ≡ true → not (l && x) ≡ true
skipped_more m true x h e = ap (λ b. not (b && x)) (sym (h refl)) ∙ e
skipped_more m false x h e = refl

pub fewer_tries : FewerTries
fewer_tries bank more less holds run =
    sum_le _ _ (length run) (λ place _. sum_le _ _ (length bank)
    (λ k _. try_le (not (skipped bank more run place k)) (not (skipped bank less run place k)) _ (skipped_more (more k) (less k) _ (holds k))))
