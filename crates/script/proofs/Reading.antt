-- What reading words one after the other says of what they mean.
use Rattle.std.proofs.Common.{◌≡◌, ℕ, ◌-◌, ◌^◌, List, [], ◌∷◌, ◌++◌, length, take, drop, Ok, Err, vec_items, Result, Vec, sym, refl, ap, ◌∙◌, append_assoc, append-nil, arith, length-append}
use Rattle.std.proofs.lemmas.List.{take_all, drop_at}
use Rattle.std.specs.declared.alloc.Global.{Global}
use Rattle.words.specs.Hex.{Appended}
use Rattle.arguments.specs.Counts.{and_then}
use Rattle.script.specs.Lines.{glyphs_of}
use Rattle.script.specs.Meant.{Read, Stored}
use Rattle.words.specs.Numbers.{decimal_in}
use Rattle.words.specs.declared.fault.Fault.{Fault}
use Rattle.words.specs.declared.fault.Unread.{Unread}
use Rattle.words.specs.declared.fault.Unread.TheVariants as unread
use Rattle.words.specs.declared.span.Span.{Span}

-- glyphs put in front of those that were read
abbrev after : List ℕ → Result (List ℕ) Fault → Result (List ℕ) Fault
after done read = and_then read (λ gs. Ok (done ++ gs))

-- the words up to `rest` gave what `items` has past `start`
pub record GlyphsSoFar (all rest : List (List ℕ)) (start items : List ℕ) : Type 0 where
  pub done : List ℕ
  pub grown : items ≡ start ++ done
  pub reads : glyphs_of all ≡ after done (glyphs_of rest)

after_none : (read : Result (List ℕ) Fault) → read ≡ after [] read
after_none (Ok gs) = refl
after_none (Err f) = refl

after_more : (done : List ℕ) (g : ℕ) (read : Result (List ℕ) Fault) → after done (and_then read (λ gs. Ok (g ∷ gs))) ≡ after (done ++ g ∷ []) read
after_more done g (Ok gs) = ap Ok (sym (append_assoc done (g ∷ []) gs))
after_more done g (Err f) = refl

pub glyphs_start : (all : List (List ℕ)) (start : List ℕ) → GlyphsSoFar all all start start
glyphs_start all start = record { done = []; grown = sym (append-nil start); reads = after_none (glyphs_of all) }

module _ (all rest : List (List ℕ)) (start items : List ℕ) (so : GlyphsSoFar all rest start items) where
  pub glyphs_more : (w : List ℕ) (ws : List (List ℕ)) (g : ℕ) (pushed : List ℕ) → rest ≡ w ∷ ws → Ok g ≡ decimal_in (2 ^ 32) w → pushed ≡ items ++ g ∷ [] → GlyphsSoFar all ws start pushed
  glyphs_more w ws g pushed is e p =
      let step : glyphs_of rest ≡ and_then (decimal_in (2 ^ 32) w) (λ x. and_then (glyphs_of ws) (λ gs. Ok (x ∷ gs))) = ap glyphs_of is in
      let read : glyphs_of rest ≡ and_then (glyphs_of ws) (λ gs. Ok (g ∷ gs)) = step ∙ ap (λ d. and_then d (λ x. and_then (glyphs_of ws) (λ gs. Ok (x ∷ gs)))) (sym e) in
      record {
        done = so.done ++ g ∷ [];
        grown = p ∙ ap (λ l. l ++ g ∷ []) so.grown ∙ append_assoc start so.done (g ∷ []);
        reads = so.reads ∙ ap (after so.done) read ∙ after_more so.done g (glyphs_of ws);
      }

  pub glyphs_fault : (w : List ℕ) (ws : List (List ℕ)) (f : Fault) → rest ≡ w ∷ ws → Err f ≡ decimal_in (2 ^ 32) w → glyphs_of all ≡ Err f
  glyphs_fault w ws f is e =
      let step : glyphs_of rest ≡ and_then (decimal_in (2 ^ 32) w) (λ x. and_then (glyphs_of ws) (λ gs. Ok (x ∷ gs))) = ap glyphs_of is in
      let read : glyphs_of rest ≡ Err f = step ∙ ap (λ d. and_then d (λ x. and_then (glyphs_of ws) (λ gs. Ok (x ∷ gs)))) (sym e) in
      so.reads ∙ ap (after so.done) read

  pub glyphs_all : rest ≡ [] → glyphs_of all ≡ Ok so.done
  glyphs_all is = so.reads ∙ ap (λ l. after so.done (glyphs_of l)) is ∙ ap Ok (append-nil so.done)

-- what was appended stands from the old length to the new one
pub stored : (xs before items : List ℕ) (s : Span) → items ≡ before ++ xs → s.start ≡ length before → s.end ≡ length items → Stored xs before items s
stored xs before items s grown first last =
    let long = ap length grown ∙ length-append before xs in
    record {
      grown = grown;
      at = ap (λ l. take (s.end - s.start) (drop s.start l)) grown
          ∙ ap (take (s.end - s.start)) (drop_at before xs s.start (sym first))
          ∙ take_all (s.end - s.start) xs (omega arith);
      inside = (omega arith, omega arith);
    }

-- what `hex` says of the bytes that a word writes
pub hex_read : (d : Result (List ℕ) Fault) (before items : Vec ℕ Global) (r : Result Span Unread) → Appended d before items r → Read d (vec_items before) (vec_items items) r
hex_read (Ok bs) before items (Ok s) h =
    (bs, refl, stored bs (vec_items before) (vec_items items) s h.0 (h.1 ∙ before.ok.0) (h.2 ∙ items.ok.0))
hex_read (Ok bs) before items (Err (unread.Fault f)) h = let z : ◌≡◌ {A = ℕ} 0 1 = cc in absurd (omega arith)
hex_read (Ok bs) before items (Err (unread.NoMemory e)) h = (h.0, tt)
hex_read (Err f) before items (Ok s) h = let z : ◌≡◌ {A = ℕ} 0 1 = cc in absurd (omega arith)
hex_read (Err f) before items (Err (unread.Fault g)) h = let same : f ≡ g = cc in (h.0, ap Err same)
hex_read (Err f) before items (Err (unread.NoMemory e)) h = (h.0, tt)
