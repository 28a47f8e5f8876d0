-- The promise, from what each call is defined to answer.
-- Assumes nothing.
use Rattle.std.proofs.Common.{◌≡◌, ℕ, zero, suc, ◌≤◌, Bool, true, false, cond, leb, List, ◌++◌, length, get_or, take, drop, Some, None, Ok, Err, Option, sym, refl, ap, ◌∙◌, subst, add-one, arith}
use Rattle.std.proofs.lemmas.List.{take_all, take_at}
use Rattle.std.proofs.lemmas.Bool.{leb-true}
use Rattle.answers.specs.Questions.{answered, list_refused}
use Rattle.answers.specs.declared.hit.Hit.{Hit}
use Rattle.answers.specs.declared.refusal.Refusal.{Refusal}
use Rattle.answers.specs.declared.refusal.Refusal.TheVariants.{ListFull, TooLong}
use Rattle.bank.proofs.Searching.{decides_some}
use Rattle.bank.specs.Searches.{some_applies}
use Rattle.book.proofs.Hiding.{fewer_tries, filters_hide_nothing}
use Rattle.book.proofs.Listing.{hits_are_listed}
use Rattle.book.specs.Laws.{Listed, Whole, hits_of, tries_by}
use Rattle.book.specs.Scans.{applies_in, hits_in, tries_in, written}
use Rattle.book.specs.declared.book.Counts.{Counts}
use Rattle.opentype.specs.Meaning.{Bank}
use Rattle.opening.specs.Opened.{told_of}
use Rattle.calls.specs.Answers.{answer_to, hits_after}
use Rattle.calls.specs.Events.{State, after, effect, leaves, new_book, tally}
use Rattle.calls.specs.Promise.{Promise, Sheet, ToldApplies, ToldHits, blank, call, held_at, left_at, outcome, state_at}
use Rattle.calls.specs.Replied.{Replied}
use Rattle.calls.specs.Sheets.{Outcome}
use Rattle.calls.specs.Tallies.{◌plus◌}
use Rattle.calls.specs.Theorems.{SheetsAgree, SheetsInTurn, SheetsKeep}
use Rattle.calls.specs.declared.sheet.Granted.TheVariants.{Applies, Scanned}
use Rattle.calls.proofs.Running.{kept_always, state_more}
use Rattle.calls.proofs.Tallying.{adds, adds_in_turn}

-- ---- an accepted scan tells what it finds

all_written : (hits lent : List Hit) → length hits ≤ length lent → take (length hits) (written hits lent) ≡ hits
all_written hits lent le = ap (λ x. take (length hits) (x ++ drop (length hits) lent)) (take_all (length lent) hits le) ∙ take_at hits (drop (length hits) lent) (length hits) refl

hears : (found lent list hits : List Hit) (tried room tries : ℕ) (a b : Bool) → leb (length found) room ≡ b
    → Some (told_of Scanned (cond a (cond b (Ok (record { hits = length found; tries = tried })) (Err ListFull)) (Err TooLong))) ≡ Some (Ok (Scanned (record { hits = length hits; tries = tries })))
    → room ≡ length lent → list ≡ cond a (written found lent) lent → take (length hits) list ≡ hits → (found ≡ hits) × (tried ≡ tries)
hears found lent list hits tried room tries true true fits e same w t =
    let counts : ◌≡◌ {A = Counts} (record { hits = length found; tries = tried }) (record { hits = length hits; tries = tries }) = cc in
    let le = leb-true (length found) room fits in (
      sym (all_written found lent (omega arith)) ∙ ap (λ (n : Counts). take n.hits (written found lent)) counts ∙ ap (take (length hits)) (sym w) ∙ t,
      ap (λ (n : Counts). n.tries) counts,
    )
hears found lent list hits tried room tries true false fits e same w t = cc
hears found lent list hits tried room tries false b fits e same w t = cc

says : (refusal : Option Refusal) (x said : Bool) → Some (told_of Applies (answered refusal x)) ≡ Some (Ok (Applies said)) → x ≡ said
says None x said e = cc
says (Some d) x said e = cc

-- ---- one sheet

module _ (x : Sheet) (lent : List Outcome) (law : Bank x.bank) (r : Replied x lent) where
  whole : (i : ℕ) → Whole x.bank (state_at x i).slots
  whole i = filters_hide_nothing x.bank (state_at x i).slots law (kept_always x.bank x.began (take i x.calls))

  heard : (i : ℕ) (run : List ℕ) (hits : List Hit) (tries : ℕ) → ToldHits x i run hits tries
      → (hits_in x.bank (state_at x i).slots run ≡ hits) × (tries_in x.bank (state_at x i).slots run ≡ tries)
  heard i run hits tries t =
      let s = state_at x i in
      let e = r.each i t.here in
      let answer = ap (λ c. Some (answer_to x.bank c s.slots s.left)) (sym t.asked) ∙ ap (λ (o : Outcome). o.answer) (sym e) ∙ t.accepted in
      let list = ap (λ (o : Outcome). o.hits) e ∙ ap (λ c. hits_after x.bank c s.slots (get_or lent i blank).hits) t.asked in
      hears (hits_in x.bank s.slots run) (get_or lent i blank).hits (outcome x i).hits hits (tries_in x.bank s.slots run) t.room tries (leb (length run) 65536) _ refl
      answer (r.rooms i run t.room t.here t.asked) list t.listed

  hits_are : (i : ℕ) (run : List ℕ) (hits : List Hit) (tries : ℕ) → ToldHits x i run hits tries → hits_of x.bank run ≡ hits
  hits_are i run hits tries t = sym ((whole i).hits run) ∙ (heard i run hits tries t).0

  tries_are : (i : ℕ) (run : List ℕ) (hits : List Hit) (tries : ℕ) → ToldHits x i run hits tries → tries ≡ tries_by x.bank (held_at x i) run
  tries_are i run hits tries t = sym (heard i run hits tries t).1 ∙ (whole i).tries run

  said_is : (i : ℕ) (glyphs : List ℕ) (bare said : Bool) → ToldApplies x i glyphs bare said → said ≡ some_applies x.bank glyphs bare
  said_is i glyphs bare said t =
      let s = state_at x i in
      sym (says (list_refused (length glyphs)) (applies_in x.bank s.slots glyphs bare) said
      (ap (λ c. Some (answer_to x.bank c s.slots s.left)) (sym t.asked) ∙ ap (λ (o : Outcome). o.answer) (sym (r.each i t.here)) ∙ t.accepted))
      ∙ (whole i).applies glyphs bare

  left_is : (n : ℕ) → n ≤ length x.calls → left_at x n ≡ (state_at x n).left
  left_is zero le = refl
  left_is (suc i) le =
      let more : state_at x (suc i) ≡ effect x.bank (call x i) (state_at x i) = ap (state_at x) (sym (add-one i)) ∙ state_more x.bank (new_book x.began) x.calls i (omega arith) in
      ap (λ (o : Outcome). o.left) (r.each i (omega arith)) ∙ ap (λ (s : State). s.left) (sym more)

  promise : Promise x
  promise = record {
    complete = λ i run hits tries t. subst (Listed x.bank run) (hits_are i run hits tries t) (hits_are_listed x.bank run);
    by_rule = tries_are;
    exact = λ i glyphs bare said t. decides_some x.bank glyphs bare said (said_is i glyphs bare said t);
    adds_up = λ n le given earlier leads.
        adds x.bank given x.began earlier (take n x.calls) leads ∙ ap (λ l. l plus (tally x.bank given (earlier ++ take n x.calls)).drawn) (sym (left_is n le));
    at_end = left_is (length x.calls) (omega arith) ∙ sym r.rest_is;
  }

pub sheets_keep : SheetsKeep
sheets_keep = promise

-- ---- two sheets

pub sheets_agree : SheetsAgree
sheets_agree x y lent lent' law law' r r' same = record {
  same_hits = λ i j run hits hits' tries tries' t t'.
      sym (hits_are x lent law r i run hits tries t) ∙ ap (λ b. hits_of b run) same ∙ hits_are y lent' law' r' j run hits' tries' t';
  fewer_tries = λ i j run hits hits' tries tries' t t' holds.
      let one = tries_are x lent law r i run hits tries t in
      let other = tries_are y lent' law' r' j run hits' tries' t' ∙ ap (λ b. tries_by b (held_at y j) run) (sym same) in
      let few = fewer_tries x.bank (held_at x i) (held_at y j) holds run in
      omega (arith, one, other, few);
}

-- ---- one sheet after another

pub left_all : (x : Sheet) (lent : List Outcome) → Replied x lent → x.rest ≡ leaves x.bank x.began x.calls
left_all x lent r = r.rest_is ∙ ap (λ es. (after x.bank (new_book x.began) es).left) (take_all (length x.calls) x.calls (omega arith))

pub sheets_in_turn : SheetsInTurn
sheets_in_turn x y lent lent' r r' next =
    adds_in_turn y.bank x.bank x.began y.began y.rest x.calls y.calls (next ∙ left_all x lent r) (left_all y lent' r')
