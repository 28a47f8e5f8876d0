-- Filters draw work alone.
-- Assumes nothing.
use Rattle.std.proofs.Common.{◌≡◌, ℕ, zero, suc, Bool, true, false, cond, eqb, List, [], ◌∷◌, ◌++◌, Some, None, Option, refl, arith}
use Rattle.opentype.specs.Classes.{Classes, no_classes, class_array, class_ranges}
use Rattle.opentype.specs.Coverages.{Coverage, no_coverage, glyph_list, glyph_ranges}
use Rattle.opentype.specs.Draws.{Draw, byte_counter, total}
use Rattle.opentype.specs.Filters.{Adding, add_range, add_listed, add_class, add_ahead, add_coverage, add_first, add_rule, add_set, add_sets}
use Rattle.opentype.specs.Masks.{none}
use Rattle.opentype.specs.Rules.{Rule, RuleSet, Sets, null, unreadable, rules}
use Rattle.opentype.specs.Subtables.{by_glyph, by_class, by_coverage, ByClass, glyph_adding, class_adding, coverage_adding, class_step_by}
use Rattle.opentype.specs.Theorems.{FiltersDrawWork}
use Rattle.opentype.specs.Walks.{Step, onward, walk_below}

-- no bytes are drawn
abbrev Spares : List Draw → Type 0
Spares ds = total byte_counter ds ≡ 0

both_spare : (ds es : List Draw) → Spares ds → Spares es → Spares (ds ++ es)
both_spare [] es p q = q
both_spare (d ∷ ds) es p q =
    omega (arith, both_spare ds es (omega (arith, p)) q, p)

onward_spares : (ds : List Draw) (masks : Option (List ℕ)) (next : List ℕ → Step) → Spares ds → ((m : List ℕ) → Spares (next m).draws)
    → Spares (onward ds masks next).draws
onward_spares ds None next p q = p
onward_spares ds (Some masks) next p q = both_spare ds (next masks).draws p (q masks)

walk_spares : (step : ℕ → List ℕ → Step) → ((i : ℕ) (m : List ℕ) → Spares (step i m).draws) → (n : ℕ) (masks : List ℕ)
    → Spares (walk_below step n masks).draws
walk_spares step p zero masks = refl
walk_spares step p (suc n) masks =
    onward_spares (walk_below step n masks).draws (walk_below step n masks).masks (step n) (walk_spares step p n masks) (p n)

cond_spares : (b : Bool) (x y : Step) → Spares x.draws → Spares y.draws → Spares (cond b x y).draws
cond_spares true x y p q = p
cond_spares false x y p q = q

-- ---- what adding a value draws

listed_spares : (table : Classes) (class : ℕ) (masks : List ℕ) → Spares (add_listed table class masks).draws
listed_spares no_classes class masks = refl
listed_spares (class_array start a) class masks = refl
listed_spares (class_ranges r) class masks =
    omega (arith, walk_spares (add_range r class) (λ i m. cond_spares (eqb (r.value i) class) _ _ refl refl) r.count masks)

class_spares : (table : Classes) (class : ℕ) (masks : List ℕ) → Spares (add_class table class masks).draws
class_spares table class masks = cond_spares (eqb class 0) _ (add_listed table class masks) refl (listed_spares table class masks)

ahead_spares : (table : Classes) (class : ℕ) (masks : List ℕ) → Spares (add_ahead table class masks).draws
ahead_spares no_classes class masks = refl
ahead_spares (class_array start a) class masks = class_spares (class_array start a) class masks
ahead_spares (class_ranges r) class masks = class_spares (class_ranges r) class masks

coverage_spares : (c : Coverage) (masks : List ℕ) → Spares (add_coverage c masks).draws
coverage_spares no_coverage masks = refl
coverage_spares (glyph_list a) masks = refl
coverage_spares (glyph_ranges r) masks = refl

-- ---- the walk over rules and sets

module _ {V : Type 0} (adding : Adding V)
    (inputs : (v : V) (m : List ℕ) → Spares (adding.input v m).draws)
    (aheads : (v : V) (m : List ℕ) → Spares (adding.lookahead v m).draws) where
  first_spares : (i a : ℕ) (r : Rule V) (masks : List ℕ) → Spares (add_first adding i a r masks).draws
  first_spares (suc i) a r masks = inputs (r.input.entry 0) masks
  first_spares zero (suc a) r masks = aheads (r.lookahead.entry 0) masks
  first_spares zero zero r masks = refl

  rule_spares : (o : Option (Rule V)) (masks : List ℕ) → Spares (add_rule adding o masks).draws
  rule_spares None masks = refl
  rule_spares (Some r) masks = first_spares r.input.count r.lookahead.count r masks

  set_spares : (s : RuleSet (Option (Rule V))) (masks : List ℕ) → Spares (add_set adding s masks).draws
  set_spares null masks = refl
  set_spares unreadable masks = refl
  set_spares (rules a) masks = omega (arith, walk_spares (λ i. add_rule adding (a.entry i)) (λ i. rule_spares (a.entry i)) a.count masks)

  sets_spare : (sets : Sets V) → Spares (add_sets adding sets).draws
  sets_spare sets = omega (arith, walk_spares (λ i. add_set adding (sets.entry i)) (λ i. set_spares (sets.entry i)) sets.count none)

class_step_spares : (table : Classes) (t : ByClass) → Spares (class_step_by table t).draws
class_step_spares no_classes t = refl
class_step_spares (class_array start a) t = sets_spare (class_adding t) (class_spares t.input) (ahead_spares t.lookahead) t.sets
class_step_spares (class_ranges r) t = sets_spare (class_adding t) (class_spares t.input) (ahead_spares t.lookahead) t.sets

pub filters_draw_work : FiltersDrawWork
filters_draw_work (by_glyph t) = sets_spare glyph_adding (λ v m. refl) (λ v m. refl) t.sets
filters_draw_work (by_class t) = class_step_spares t.input t
filters_draw_work (by_coverage t) = rule_spares coverage_adding coverage_spares coverage_spares (Some t.rule) none
