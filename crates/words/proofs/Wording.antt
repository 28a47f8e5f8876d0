-- The words of a text are its first word and the words of what follows it.
use Rattle.std.proofs.Common.{◌≡◌, ℕ, suc, ◌<◌, ◌≤◌, true, false, not, eqb, List, [], ◌∷◌, length, take, drop, is_some, Option, None, Some, sym, refl, ap, ◌∙◌, ⊎_elim, arith, length-drop, length-take, one-add}
use Rattle.std.proofs.lemmas.Bool.{cases_Bool, ne_eqb}
use Rattle.std.proofs.lemmas.Option.{none-some}
use Rattle.std.specs.List.{filter, onto_first, slice_split}
use Rattle.std.proofs.lemmas.Iterator.{YieldsList}
use Rattle.std.proofs.lemmas.Iterator.Consumers.{YieldsList-from_shown}
use Rattle.words.specs.declared.line.Words.{Words}
use Rattle.words.specs.Bytes.{index_of, leading}
use Rattle.words.specs.Words.{from_word, unless_empty, word_in, after_word, words_in, words_left, TakesWord}

-- words that begin with this one, if it is there
abbrev headed : Option (List ℕ) → List (List ℕ) → List (List ℕ)
headed None ws = []
headed (Some w) ws = w ∷ ws

-- leading spaces end no word
words_in-from_word : (cs : List ℕ) → words_in cs ≡ words_in (from_word cs)
words_in-from_word [] = refl
words_in-from_word (c ∷ cs) =
    let rest = words_in-from_word cs in
    ⊎_elim (λ (e : eqb c 32 ≡ true). rw (e, one-add) rest) (λ (e : eqb c 32 ≡ false). rw (e, e) refl) (cases_Bool (eqb c 32))

stripped : (cs : List ℕ) → leading 32 (from_word cs) ≡ 0
stripped [] = refl
stripped (c ∷ cs) =
    let rest = stripped cs in
    ⊎_elim (λ (e : eqb c 32 ≡ true). rw (e, one-add) rest) (λ (e : eqb c 32 ≡ false). rw (e, e) refl) (cases_Bool (eqb c 32))

-- a text is cut at its first space
cut_first : (f : List ℕ) → (parts : List (List ℕ)) × (slice_split (λ c. eqb c 32) f ≡ take (index_of 32 f) f ∷ parts) × (filter (λ w. not (eqb (length w) 0)) parts ≡ words_in (drop (index_of 32 f) f))
cut_first [] = ([], refl, refl)
cut_first (c ∷ f) =
    let r = cut_first f in
    ⊎_elim
    (λ (e : eqb c 32 ≡ true). (slice_split (λ c. eqb c 32) f, rw e refl, rw (e, e) refl))
    (λ (e : eqb c 32 ≡ false). (r.0, rw (e, one-add) (ap (onto_first c) r.1), rw (e, one-add) r.2))
    (cases_Bool (eqb c 32))

headed_word : (f : List ℕ) → leading 32 f ≡ 0 → words_in f ≡ headed (unless_empty (take (index_of 32 f) f)) (words_in (drop (index_of 32 f) f))
headed_word [] h = refl
headed_word (c ∷ f) h =
    let r = cut_first f in
    let long : eqb (length (c ∷ take (index_of 32 f) f)) 0 ≡ false = ne_eqb _ 0 (λ z. omega arith) in
    ⊎_elim
    (λ (e : eqb c 32 ≡ true). let z = rw e at h in absurd (omega arith))
    (λ (e : eqb c 32 ≡ false). rw (e, one-add, r.1, long) (ap (λ ws. (c ∷ take (index_of 32 f) f) ∷ ws) r.2))
    (cases_Bool (eqb c 32))

words_step : (cs : List ℕ) → words_in cs ≡ headed (word_in cs) (words_in (after_word cs))
words_step cs = words_in-from_word cs ∙ headed_word (from_word cs) (stripped cs)

some_length : (t : List ℕ) → is_some (unless_empty t) ≡ true → 0 < length t
some_length [] e = let z : ◌≡◌ {A = ℕ} 0 1 = cc in absurd (omega arith)
some_length (c ∷ t) e = omega arith

-- a word leaves less text
after_less : (cs : List ℕ) → is_some (word_in cs) ≡ true → length (after_word cs) < length cs
after_less cs e =
    let long = some_length (take (index_of 32 (from_word cs)) (from_word cs)) e in
    let front = length-take (index_of 32 (from_word cs)) (from_word cs) in
    let back = length-drop (index_of 32 (from_word cs)) (from_word cs) in
    let from = length-drop (leading 32 cs) cs in
    omega arith

-- of the word that was read and of what it left: the first of the words, and the others
pub first_by : (cs w rest : List ℕ) → Some w ≡ word_in cs → rest ≡ after_word cs → words_in cs ≡ w ∷ words_in rest
first_by cs w rest is after = let step = words_step cs in rw (← is, ← after) at step

pub less_by : (cs w rest : List ℕ) → Some w ≡ word_in cs → rest ≡ after_word cs → length rest < length cs
less_by cs w rest is after = let less = after_less cs (ap is_some (sym is)) in omega (arith, ap length after)

-- where no word is first there is nothing
nothing_left : (f : List ℕ) → leading 32 f ≡ 0 → None ≡ unless_empty (take (index_of 32 f) f) → f ≡ []
nothing_left [] h is = refl
nothing_left (c ∷ f) h is =
    ⊎_elim
    (λ (e : eqb c 32 ≡ true). let z = rw e at h in absurd (omega arith))
    (λ (e : eqb c 32 ≡ false). let z = rw (e, one-add) at is in absurd (none-some _ z))
    (cases_Bool (eqb c 32))

pub none_by : (cs rest : List ℕ) → None ≡ word_in cs → rest ≡ after_word cs → (words_in cs ≡ []) × (words_in rest ≡ [])
none_by cs rest is after =
    let none = nothing_left (from_word cs) (stripped cs) is in
    let left : after_word cs ≡ [] = rw none refl in
    (words_step cs ∙ ap (λ o. headed o (words_in (after_word cs))) (sym is), ap words_in (after ∙ left))

onto_one : (c : ℕ) (ws : List (List ℕ)) → length (filter (λ w. not (eqb (length w) 0)) (onto_first c ws)) ≤ suc (length (filter (λ w. not (eqb (length w) 0)) ws))
onto_one c [] = omega arith
onto_one c (w ∷ ws) =
    ⊎_elim
    (λ (e : eqb (length w) 0 ≡ true). let some : eqb (length (c ∷ w)) 0 ≡ false = ne_eqb _ 0 (λ z. omega arith) in rw (e, some) (omega arith))
    (λ (e : eqb (length w) 0 ≡ false). let some : eqb (length (c ∷ w)) 0 ≡ false = ne_eqb _ 0 (λ z. omega arith) in rw (e, some) (omega arith))
    (cases_Bool (eqb (length w) 0))

-- each word has a byte of its own
pub words_le : (cs : List ℕ) → length (words_in cs) ≤ length cs
words_le [] = omega arith
words_le (c ∷ cs) =
    let rest = words_le cs in
    let onto = onto_one c (slice_split (λ x. eqb x 32) cs) in
    ⊎_elim (λ (e : eqb c 32 ≡ true). rw e (omega arith)) (λ (e : eqb c 32 ≡ false). rw e (omega arith)) (cases_Bool (eqb c 32))

-- the words that are left are those that come
pub words_come : (s : Words) → YieldsList TakesWord (λ w. w.now) s (words_left s)
words_come = YieldsList-from_shown TakesWord (λ w. w.now) words_left (λ s t taken. ap length taken.0.0) (λ s w t taken. taken.0)
