-- The first hits of all places of a run are complete.
-- Assumes nothing.
use Rattle.std.proofs.Common.{◌≡◌, ℕ, zero, suc, ◌<◌, List, [], ◌∷◌, ◌++◌, length, get_or, is_some, Some, None, Option, sym, refl, ap, ◌∙◌, subst, ⊎_elim, arith}
use Rattle.std.proofs.lemmas.List.{append-nil, get_or_append_left, get_or_push, length_push}
use Rattle.std.proofs.lemmas.Bool.{cases_lt, true≢false}
use Rattle.std.specs.Option.{option_to_list}
use Rattle.answers.specs.declared.hit.Hit.{Hit}
use Rattle.bank.proofs.Searching.{told_none, told_some}
use Rattle.bank.specs.Answers.{hit_of}
use Rattle.bank.specs.Searches.{IsFirst, first_hit}
use Rattle.opentype.proofs.Matched.{first_is, none_before}
use Rattle.opentype.specs.Matching.{Found}
use Rattle.opentype.specs.Meaning.{Subtable, subtable}
use Rattle.book.specs.Laws.{HitsAreListed, no_hit}
use Rattle.book.specs.Scans.{list_below}

-- ---- the first hit at a place

module _ (bank : List Subtable) (run : List ℕ) (place : ℕ) where
  abbrev hit : ℕ → Option Hit
  hit k = hit_of (subtable bank k) k run place

  is_first : (h : Hit) → first_hit bank run place ≡ Some h → IsFirst bank run place h
  is_first h e =
      let p = (first_is hit (length bank) h).0 e in
      let q = told_some place p.0 ((subtable bank p.0).matching.finds run place) h p.2 in
      (p.0, q.0, p.1, q.1, q.2, λ j l. told_none place j ((subtable bank j).matching.finds run place) (p.3 j l))

  no_match : first_hit bank run place ≡ None → (k : ℕ) (f : Found) → k < length bank → (subtable bank k).matching.finds run place ≡ Some f → ⊥
  no_match e k f l is =
      let none = told_none place k ((subtable bank k).matching.finds run place) (none_before hit (length bank) e k l) in
      true≢false (sym (ap is_some is) ∙ ap is_some none)

-- ---- place by place

module _ (bank : List Subtable) (run : List ℕ) where
  record ListedTo (n : ℕ) (hits : List Hit) : Type 0 where
    pub in_order : (i j : ℕ) → i < j → j < length hits → (get_or hits i no_hit).place < (get_or hits j no_hit).place
    pub below : (i : ℕ) → i < length hits → (get_or hits i no_hit).place < n
    pub first : (i : ℕ) → i < length hits → IsFirst bank run (get_or hits i no_hit).place (get_or hits i no_hit)
    pub every : (place k : ℕ) (f : Found) → place < n → k < length bank → (subtable bank k).matching.finds run place ≡ Some f
        → (i : ℕ) × (i < length hits) × ((get_or hits i no_hit).place ≡ place)

  none_more : (n : ℕ) (hits : List Hit) → ListedTo n hits → first_hit bank run n ≡ None → ListedTo (suc n) hits
  none_more n hits r none = record {
    in_order = r.in_order;
    below = λ i lt. omega (arith, r.below i lt);
    first = r.first;
    every = λ p k f lt in-bank e.
        ⊎_elim (λ before. r.every p k f before in-bank e)
        (λ past. let same : p ≡ n = omega arith in absurd (no_match bank run n none k f in-bank (rw same at e)))
        (cases_lt p n);
  }

  module _ (n : ℕ) (hits : List Hit) (h : Hit) where
    abbrev new : List Hit
    new = hits ++ h ∷ []

    old_at : (i : ℕ) → i < length hits → get_or new i no_hit ≡ get_or hits i no_hit
    old_at i lt = get_or_append_left hits (h ∷ []) no_hit i lt

    last_at : (i : ℕ) → i ≡ length hits → get_or new i no_hit ≡ h
    last_at i e = get_or_push hits h no_hit i (sym e)

    -- each entry of the new list is one of the old list, or the last
    by_entry : (P : ℕ → Hit → Type 0) → ((i : ℕ) → i < length hits → P i (get_or hits i no_hit)) → P (length hits) h → (i : ℕ) → i < length new → P i (get_or new i no_hit)
    by_entry P old last i lt =
        let size = length_push hits h in
        ⊎_elim
        (λ before. let e = old_at i before in rw e (old i before))
        (λ past. let same : i ≡ length hits = omega arith in let e = last_at i same in rw e (subst (λ x. P x h) (sym same) last))
        (cases_lt i (length hits))

    one_more : ListedTo n hits → IsFirst bank run n h → ListedTo (suc n) new
    one_more r first =
        let size = length_push hits h in
        let placed : h.place ≡ n = ap (λ (x : Hit). x.place) first.4 in
        record {
          in_order = λ i j lt in-new.
              let e : get_or new i no_hit ≡ get_or hits i no_hit = old_at i (omega arith) in
              rw e
              (by_entry (λ x y. i < x → (get_or hits i no_hit).place < y.place)
              (λ x old less. r.in_order i x less old)
              (λ less. omega (arith, r.below i less)) j in-new lt);
          below = by_entry (λ x y. y.place < suc n) (λ x old. omega (arith, r.below x old)) (omega arith);
          first = by_entry (λ x y. IsFirst bank run y.place y) (λ x old. r.first x old) (subst (λ p. IsFirst bank run p h) (sym placed) first);
          every = λ p k f lt in-bank e.
              ⊎_elim
              (λ before. let w = r.every p k f before in-bank e in (w.0, omega (arith, w.1), ap (λ (x : Hit). x.place) (old_at w.0 w.1) ∙ w.2))
              (λ past. let same : p ≡ n = omega arith in (length hits, omega arith, ap (λ (x : Hit). x.place) (last_at (length hits) refl) ∙ placed ∙ sym same))
              (cases_lt p n);
        }

  listed_step : (n : ℕ) (hits : List Hit) (o : Option Hit) → first_hit bank run n ≡ o → ListedTo n hits → ListedTo (suc n) (hits ++ option_to_list o)
  listed_step n hits None e r = rw append-nil (none_more n hits r e)
  listed_step n hits (Some h) e r = one_more n hits h r (is_first bank run n h e)

  listed_to : (n : ℕ) → ListedTo n (list_below (first_hit bank run) n)
  listed_to zero = record {
    in_order = λ i j lt h. absurd (omega arith);
    below = λ i h. absurd (omega arith);
    first = λ i h. absurd (omega arith);
    every = λ p k f h in-bank e. absurd (omega arith);
  }
  listed_to (suc n) = listed_step n (list_below (first_hit bank run) n) (first_hit bank run n) refl (listed_to n)

pub hits_are_listed : HitsAreListed
hits_are_listed bank run =
    let r = listed_to bank run (length run) in
    record { in_order = r.in_order; in_run = r.below; first = r.first; every = r.every }
