-- A list of at most 32 subtables is a bank. Proofs, which stand here since the impl of the bank's trait cites them.
-- Assumes nothing.
use Rattle.std.specs.Prelude.{◌≡◌, ℕ, zero, suc, ◌<◌, ◌≤◌, List, [], ◌∷◌, length, slice_index_or}
use Rattle.std.proofs.Common.{sym, ◌∙◌, ap, arith}
use Rattle.std.proofs.Math.ListN.{get_or-eq_default}
use Rattle.std.proofs.lemmas.List.{get_or-map, length-map}
use Rattle.opentype.specs.Meaning.{Sound, Bank, past_last, subtable}
use Rattle.opentype.proofs.Sounding.{filters_sound}
use Rattle.bank.specs.Lawful.{past_sound}
use Rattle.context.specs.Meanings.{meaning_of, table_of}
use Rattle.context.specs.declared.subtable.Subtable.{Subtable}
use Rattle.lookup.specs.Listed.{meanings}

sound_at : (xs : List Subtable) (k : ℕ) → Sound (subtable (meanings xs) k)
sound_at [] k = past_sound
sound_at (x ∷ xs) zero = filters_sound (table_of x)
sound_at (x ∷ xs) (suc k) = sound_at xs k

pub counted : {n m : ℕ} → n ≡ m → n ≤ 32 → m ≤ 32
counted e h = omega arith

pub listed_lawful : (xs : List Subtable) → length xs ≤ 32 → Bank (meanings xs)
listed_lawful xs few = record { few = omega (arith, length-map xs meaning_of); sound = sound_at xs }

-- subtable k of the bank is what element k of the list means
pub listed_at : (xs : List Subtable) (k : ℕ) (s : Subtable) → k < length xs → s ≡ slice_index_or xs k s → meaning_of s ≡ subtable (meanings xs) k
listed_at xs k s h e = ap meaning_of e ∙ sym (get_or-map meaning_of xs k s past_last h)

-- and past the last there is none
pub listed_past : (xs : List Subtable) (k : ℕ) → length xs ≤ k → past_last ≡ subtable (meanings xs) k
listed_past xs k h = sym (get_or-eq_default (meanings xs) past_last (omega (arith, length-map xs meaning_of)))
