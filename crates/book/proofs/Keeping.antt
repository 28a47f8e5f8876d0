-- What the slots keep true, through every event; and what a filter does by whether its draws fit.
-- Assumes nothing.
use Rattle.std.proofs.Common.{◌≡◌, ℕ, zero, suc, Bool, true, false, cond, ltb, ◌⊎◌, List, [], ◌∷◌, length, get_or, set, replicate, sym, refl, ap, ◌∙◌, subst, inl, inr}
use lib.ListN.{get_or-replicate}
use Rattle.std.proofs.lemmas.Bool.{cond_both}
use Rattle.opentype.specs.Draws.{Allowance, fit}
use Rattle.opentype.specs.Meaning.{Subtable, subtable}
use Rattle.book.specs.Calls.{filter_event, filter_slots, forget_slots}
use Rattle.book.specs.Slots.{Kept, MasksBy, after, bare, blank, changed, slot_at}
use Rattle.book.specs.declared.slots.Slot.{Slot}
use Rattle.book.specs.declared.slots.SlotEvent.{SlotEvent}
use Rattle.book.specs.declared.slots.SlotEvent.TheVariants.{Granted, Exhausted, Forget}

-- a slot is kept for a subtable
abbrev Own : Subtable → Slot → Type 0
Own s slot = MasksBy slot.state s.filter slot.digest.masks

pub kept_new : (bank : List Subtable) (slots : List Slot) → slots ≡ replicate 32 bare → Kept bank slots
kept_new bank slots e k l = subst (Own (subtable bank k)) (sym (ap (λ t. slot_at t k) e ∙ get_or-replicate 32 k bare blank l)) refl

-- what stands at j after a write at i
set_either : {X : Type 0} (l : List X) (i j : ℕ) (x d : X) → ((j ≡ i) × (get_or (set l i x) j d ≡ x)) ⊎ (get_or (set l i x) j d ≡ get_or l j d)
set_either [] i j x d = inr refl
set_either (y ∷ l) zero zero x d = inl (refl, refl)
set_either (y ∷ l) zero (suc j) x d = inr refl
set_either (y ∷ l) (suc i) zero x d = inr refl
set_either (y ∷ l) (suc i) (suc j) x d = elim (set_either l i j x d) [ inl w ↦ inl (ap suc w.0, w.1) | inr e ↦ inr e ]

-- an event whose slot is kept keeps the table
kept_changed : (bank : List Subtable) (slots : List Slot) (k : ℕ) (event : SlotEvent) → Own (subtable bank k) (after (slot_at slots k) event) → Kept bank slots → Kept bank (changed slots k event)
kept_changed bank slots k event own kept j l =
    elim (set_either slots k j (after (slot_at slots k) event) blank) [
      | inl w ↦ subst (Own (subtable bank j)) (sym w.1) (subst (λ i. Own (subtable bank i) (after (slot_at slots k) event)) (sym w.0) own)
      | inr same ↦ subst (Own (subtable bank j)) (sym same) (kept j l)
    ]

own_filter : (s : Subtable) (slot : Slot) (fits : Bool) → s.filter.can ≡ true → Own s (after slot (cond fits (Granted (record { masks = s.filter.masks })) Exhausted))
own_filter s slot true can = (can, refl)
own_filter s slot false can = refl

pub kept_filter : (bank : List Subtable) (k : ℕ) (given : Allowance) (slots slots' : List Slot) → slots' ≡ filter_slots bank k given slots → Kept bank slots → Kept bank slots'
kept_filter bank k given slots slots' e kept =
    let s = subtable bank k in
    subst (Kept bank) (sym e)
    (cond_both (ltb k (length bank)) (cond s.filter.can (changed slots k (filter_event s.filter given)) slots) slots (Kept bank)
    (λ _. cond_both s.filter.can (changed slots k (filter_event s.filter given)) slots (Kept bank)
    (λ can. kept_changed bank slots k _ (own_filter s (slot_at slots k) (fit s.filter.draws given) can) kept)
    (λ _. kept))
    (λ _. kept))

pub kept_forget : (bank : List Subtable) (k : ℕ) (slots slots' : List Slot) → slots' ≡ forget_slots bank k slots → Kept bank slots → Kept bank slots'
kept_forget bank k slots slots' e kept =
    subst (Kept bank) (sym e)
    (cond_both (ltb k (length bank)) (changed slots k Forget) slots (Kept bank) (λ _. kept_changed bank slots k Forget refl kept) (λ _. kept))
