-- A scan, one place more at a time.
-- Assumes nothing.
use Rattle.std.proofs.Common.{◌≡◌, ℕ, ◌+◌, ◌-◌, ◌*◌, ◌<◌, ◌≤◌, Bool, true, false, cond, leb, List, [], ◌∷◌, ◌++◌, length, get_or, take, drop, set, is_ok, Some, None, Ok, Err, Option, sym, refl, ap, ◌∙◌, arith}
use Rattle.std.proofs.lemmas.List.{append-nil, append_assoc, length-append, length_push, drop_more, drop_all, set_at, take_at}
use Rattle.std.proofs.lemmas.Bool.{cond-true, le-leb, leb-true, lt-leb, true≢false}
use Rattle.std.specs.Option.{option_to_list}
use Rattle.answers.specs.Questions.{answered, run_refused}
use Rattle.answers.specs.declared.hit.Hit.{Hit}
use Rattle.answers.specs.declared.refusal.Refusal.TheVariants.{ListFull, TooLong}
use Rattle.opentype.specs.Meaning.{Subtable}
use Rattle.book.specs.Scans.{hit_at, hits_in, list_below, scan_answer, scan_list, sum_below, tries_at, tries_in, written}
use Rattle.book.specs.declared.slots.Slot.{Slot}
use Rattle.book.proofs.Sums.{list_more, list_split, sum_more}

-- ---- the question that comes first

pub run_passed : (n : ℕ) (u : Unit {0}) → Ok u ≡ answered (run_refused n) tt → n ≤ 65536
run_passed n u e = by (leb n 65536) refl e
  where
    by : (b : Bool) → leb n 65536 ≡ b → Ok u ≡ answered (cond b None (Some TooLong)) tt → n ≤ 65536
    by true few e = leb-true n 65536 few
    by false few e = absurd (true≢false (ap is_ok e))

-- ---- place by place

module _ (bank : List Subtable) (slots : List Slot) (run : List ℕ) (old : List Hit) where
  -- the hits at the first p places
  abbrev below : ℕ → List Hit
  below p = list_below (hit_at bank slots run) p

  abbrev all : List Hit
  all = hits_in bank slots run

  -- after the first p places: so many hits are listed, before what stood there
  pub record Scanned (p found tries : ℕ) (hits : List Hit) : Type 0 where
    pub number : found ≡ length (below p)
    pub room : found ≤ length old
    pub listed : hits ≡ below p ++ drop (length (below p)) old
    pub tried : tries ≡ sum_below (tries_at bank slots run) p
    pub few : tries ≤ 32 * p

  module _ (p found tries : ℕ) (hits : List Hit) (s : Scanned p found tries hits) where
    more_tries : (t : ℕ) → t ≡ tries_at bank slots run p → tries + t ≡ sum_below (tries_at bank slots run) (p + 1)
    more_tries t e = let u = s.tried in let v = sum_more (tries_at bank slots run) p in omega (arith, u, v, e)

    next_hits : (o : Option Hit) → hit_at bank slots run p ≡ o → below (p + 1) ≡ below p ++ option_to_list o
    next_hits o e = list_more (hit_at bank slots run) p ∙ ap (λ o. below p ++ option_to_list o) e

    pub scanned_miss : (found' t : ℕ) (hits' : List Hit) → hit_at bank slots run p ≡ None → t ≡ tries_at bank slots run p → t ≤ 32 → found' ≡ found → hits' ≡ hits → Scanned (p + 1) found' (tries + t) hits'
    scanned_miss found' t hits' none e le fe he =
        let same : below (p + 1) ≡ below p = next_hits None none ∙ append-nil (below p) in
        record {
          number = fe ∙ s.number ∙ ap length (sym same);
          room = omega (arith, s.room, fe);
          listed = he ∙ s.listed ∙ ap (λ x. x ++ drop (length x) old) (sym same);
          tried = more_tries t e;
          few = omega (arith, s.few);
        }

    pub scanned_hit : (found' t : ℕ) (h : Hit) (hits' : List Hit) → found < length old → hit_at bank slots run p ≡ Some h → t ≡ tries_at bank slots run p → t ≤ 32 → found' ≡ found + 1 → hits' ≡ set hits found h → Scanned (p + 1) found' (tries + t) hits'
    scanned_hit found' t h hits' space some e le fe he =
        let more : below (p + 1) ≡ below p ++ h ∷ [] = next_hits (Some h) some in
        let size : length (below p ++ h ∷ []) ≡ length (below p) + 1 = length_push (below p) h in
        let lt : length (below p) < length old = omega (arith, s.number) in
        let before : hits ≡ below p ++ get_or old (length (below p)) h ∷ drop (length (below p) + 1) old = s.listed ∙ ap (λ x. below p ++ x) (drop_more old (length (below p)) h lt) in
        record {
          number = omega (arith, s.number, ap length more, size, fe);
          room = omega (arith, fe);
          listed =
              he ∙ ap (λ x. set x found h) before ∙ set_at (below p) _ _ h found (sym s.number) ∙ sym (append_assoc (below p) (h ∷ []) (drop (length (below p) + 1) old))
              ∙ ap (λ x. (below p ++ h ∷ []) ++ drop x old) (sym size) ∙ ap (λ x. x ++ drop (length x) old) (sym more);
          tried = more_tries t e;
          few = omega (arith, s.few);
        }

    by_room : (fits : Bool) → length run ≤ 65536 → leb (length all) (length old) ≡ fits → scan_answer bank slots run (length old) ≡ cond fits (Ok (record { hits = length all; tries = tries_in bank slots run })) (Err ListFull)
    by_room fits few e =
        cond-true (leb (length run) 65536) _ (Err TooLong) (le-leb (length run) 65536 few)
        ∙ ap (λ b. cond b (Ok (record { hits = length all; tries = tries_in bank slots run })) (Err ListFull)) e

    written_is : length run ≤ 65536 → hits ≡ written all old → hits ≡ scan_list bank slots run old
    written_is few e = e ∙ sym (cond-true (leb (length run) 65536) _ old (le-leb (length run) 65536 few))

    -- a hit that the list does not take: it has the first ones
    pub scanned_full : (h : Hit) → length run ≤ 65536 → p < length run → length old ≤ found → hit_at bank slots run p ≡ Some h → (Err ListFull ≡ scan_answer bank slots run (length old)) × (hits ≡ scan_list bank slots run old)
    scanned_full h few lt full some =
        let rest = list_split (hit_at bank slots run) (p + 1) (length run - (p + 1)) in
        let end : length run ≡ p + 1 + (length run - (p + 1)) = omega arith in
        let more : below (p + 1) ≡ below p ++ h ∷ [] = next_hits (Some h) some in
        let size : length (below p) ≡ length old = omega (arith, s.number, s.room) in
        let whole : all ≡ below p ++ (h ∷ [] ++ rest.0) = ap below end ∙ rest.1 ∙ ap (λ x. x ++ rest.0) more ∙ append_assoc (below p) (h ∷ []) rest.0 in
        let long : length old < length all = omega (arith, ap length whole, length-append (below p) (h ∷ [] ++ rest.0), length-append (h ∷ []) rest.0) in
        let kept : hits ≡ below p = s.listed ∙ ap (λ x. below p ++ x) (drop_all (length (below p)) old (omega arith)) ∙ append-nil (below p) in
        let taken : take (length old) all ≡ below p = ap (take (length old)) whole ∙ take_at (below p) _ (length old) size in
        let none : drop (length all) old ≡ [] = drop_all (length all) old (omega arith) in (
          sym (by_room false few (lt-leb (length all) (length old) long)),
          written_is few (kept ∙ sym (ap (λ x. x ++ drop (length all) old) taken ∙ ap (λ x. below p ++ x) none ∙ append-nil (below p))),
        )
