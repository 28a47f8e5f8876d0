-- Commands mean the same over buffers that have grown; a line more says one thing more.
use Rattle.std.proofs.Common.{◌≡◌, ℕ, ◌-◌, true, false, eqb, List, [], ◌∷◌, ◌++◌, map, get_or, take, drop, Ok, Err, vec_items, Result, sym, refl, ap, ◌∙◌, subst, arith, length-append, length-drop}
use Rattle.std.proofs.ByRecursion.{All-push}
use Rattle.std.proofs.lemmas.List.{take-append-le, drop-append-le, map_push}
use Rattle.std.specs.List.{AllByRecursion}
use Rattle.words.specs.Words.{words_in}
use Rattle.words.specs.declared.fault.Fault.{Fault}
use Rattle.words.specs.declared.fault.Unread.{Unread}
use Rattle.words.specs.declared.fault.Unread.TheVariants as unread
use Rattle.words.specs.declared.span.Span.{Span}
use Rattle.script.specs.Lines.{Said, coverage, class, digest_of, opens, opens_wide, hit, applies, would_apply, scan, said_by, words_said, line_said}
use Rattle.script.specs.Meant.{cut, Inside, meant, meant_on_book, said, Stands, StandsOnBook, LineStands, CommandRead, LineOf, Sound, said_of}
use Rattle.script.specs.Verbs.{verb_in}
use Rattle.script.specs.declared.command.Command.{Command}
use Rattle.script.specs.declared.command.Command.TheVariants as command
use Rattle.script.specs.declared.command.BookCommand.{BookCommand}
use Rattle.script.specs.declared.command.BookCommand.TheVariants as on_book
use Rattle.script.specs.declared.reader.Script.{Script}

cut_grown : (s : Span) (xs more : List ℕ) → Inside s xs → cut s (xs ++ more) ≡ cut s xs
cut_grown s xs more h =
    ap (take (s.end - s.start)) (drop-append-le s.start xs more (omega arith))
    ∙ take-append-le (s.end - s.start) (drop s.start xs) more (simp length-drop (omega arith))

inside_grown : (s : Span) (xs more : List ℕ) → Inside s xs → Inside s (xs ++ more)
inside_grown s xs more h = (h.0, simp length-append (omega arith))

module _ (gs y : List ℕ) where
  book_meant_grown : (c : BookCommand) → StandsOnBook gs c → meant_on_book (gs ++ y) c ≡ meant_on_book gs c
  book_meant_grown (on_book.Filter subtable) h = refl
  book_meant_grown (on_book.Forget subtable) h = refl
  book_meant_grown (on_book.State subtable) h = refl
  book_meant_grown (on_book.MasksBeside subtable) h = refl
  book_meant_grown (on_book.WordsBeside subtable count) h = refl
  book_meant_grown (on_book.WouldApply zero_context at) h = ap (would_apply zero_context) (cut_grown at gs y h)
  book_meant_grown (on_book.Scan count at) h = ap (scan count) (cut_grown at gs y h)
  book_meant_grown on_book.Anew h = refl
  book_meant_grown on_book.End h = refl

  book_stands_grown : (c : BookCommand) → StandsOnBook gs c → StandsOnBook (gs ++ y) c
  book_stands_grown (on_book.Filter subtable) h = tt
  book_stands_grown (on_book.Forget subtable) h = tt
  book_stands_grown (on_book.State subtable) h = tt
  book_stands_grown (on_book.MasksBeside subtable) h = tt
  book_stands_grown (on_book.WordsBeside subtable count) h = tt
  book_stands_grown (on_book.WouldApply zero_context at) h = inside_grown at gs y h
  book_stands_grown (on_book.Scan count at) h = inside_grown at gs y h
  book_stands_grown on_book.Anew h = tt
  book_stands_grown on_book.End h = tt

module _ (bs gs x y : List ℕ) where
  meant_grown : (c : Command) → Stands bs gs c → meant (bs ++ x) (gs ++ y) c ≡ meant bs gs c
  meant_grown (command.Coverage table glyph) h = ap (λ t. coverage t glyph) (cut_grown table bs x h)
  meant_grown (command.Class table glyph) h = ap (λ t. class t glyph) (cut_grown table bs x h)
  meant_grown (command.DigestOf at) h = ap digest_of (cut_grown at gs y h)
  meant_grown (command.DigestSpan first last) h = refl
  meant_grown (command.Allowance work amount) h = refl
  meant_grown command.Left h = refl
  meant_grown (command.Open table chained) h = ap (λ t. opens t chained) (cut_grown table bs x h)
  meant_grown (command.OpenWide table parts) h = ap (λ t. opens_wide t parts) (cut_grown table bs x h)
  meant_grown (command.Hit subtable place at) h = ap (hit subtable place) (cut_grown at gs y h)
  meant_grown (command.Applies subtable zero_context at) h = ap (applies subtable zero_context) (cut_grown at gs y h)
  meant_grown command.Aside h = refl
  meant_grown (command.Masks subtable) h = refl
  meant_grown (command.Words subtable count) h = refl
  meant_grown command.Book h = refl
  meant_grown (command.OnBook c) h = book_meant_grown gs y c h

  stands_grown : (c : Command) → Stands bs gs c → Stands (bs ++ x) (gs ++ y) c
  stands_grown (command.Coverage table glyph) h = inside_grown table bs x h
  stands_grown (command.Class table glyph) h = inside_grown table bs x h
  stands_grown (command.DigestOf at) h = inside_grown at gs y h
  stands_grown (command.DigestSpan first last) h = tt
  stands_grown (command.Allowance work amount) h = tt
  stands_grown command.Left h = tt
  stands_grown (command.Open table chained) h = inside_grown table bs x h
  stands_grown (command.OpenWide table parts) h = inside_grown table bs x h
  stands_grown (command.Hit subtable place at) h = inside_grown at gs y h
  stands_grown (command.Applies subtable zero_context at) h = inside_grown at gs y h
  stands_grown command.Aside h = tt
  stands_grown (command.Masks subtable) h = tt
  stands_grown (command.Words subtable count) h = tt
  stands_grown command.Book h = tt
  stands_grown (command.OnBook c) h = book_stands_grown gs y c h

  lines_grown : (ls : List (Result Command Fault)) → AllByRecursion (LineStands bs gs) ls → map (said (bs ++ x) (gs ++ y)) ls ≡ map (said bs gs) ls
  lines_grown [] h = refl
  lines_grown (Ok c ∷ ls) h = let e = meant_grown c h.0 in let es = lines_grown ls h.1 in cc
  lines_grown (Err f ∷ ls) h = let es = lines_grown ls h.1 in cc

  all_grown : (ls : List (Result Command Fault)) → AllByRecursion (LineStands bs gs) ls → AllByRecursion (LineStands (bs ++ x) (gs ++ y)) ls
  all_grown [] h = tt
  all_grown (Ok c ∷ ls) h = (stands_grown c h.0, all_grown ls h.1)
  all_grown (Err f ∷ ls) h = (tt, all_grown ls h.1)

-- a command that was read, as a line: it stands and says what the definition says
module _ (read : Result Said Fault) (before after : Script) where
  line_stands : (r : Result Command Unread) (l : Result Command Fault) → CommandRead read before after r → LineOf r l → LineStands (vec_items after.bytes) (vec_items after.glyphs) l
  line_stands (Ok c) l h m = subst (LineStands (vec_items after.bytes) (vec_items after.glyphs)) (sym m) h.1.1
  line_stands (Err (unread.Fault f)) l h m = subst (LineStands (vec_items after.bytes) (vec_items after.glyphs)) (sym m) tt
  line_stands (Err (unread.NoMemory e)) l h m = absurd m

  line_says : (r : Result Command Unread) (l : Result Command Fault) → CommandRead read before after r → LineOf r l → said (vec_items after.bytes) (vec_items after.glyphs) l ≡ read
  line_says (Ok c) l h m = ap (said (vec_items after.bytes) (vec_items after.glyphs)) m ∙ sym h.1.0
  line_says (Err (unread.Fault f)) l h m = ap (said (vec_items after.bytes) (vec_items after.glyphs)) m ∙ sym h.1.2
  line_says (Err (unread.NoMemory e)) l h m = absurd m

  pub added : (r : Result Command Unread) (l : Result Command Fault) (end : Script) → CommandRead read before after r → LineOf r l → vec_items end.bytes ≡ vec_items after.bytes → vec_items end.glyphs ≡ vec_items after.glyphs → vec_items end.lines ≡ vec_items after.lines ++ l ∷ [] → Sound before → Sound end × (said_of end ≡ said_of before ++ read ∷ [])
  added r l end h m bytes glyphs lines sound =
      let b = bytes ∙ h.0.bytes.1 in
      let g = glyphs ∙ h.0.glyphs.1 in
      let e = lines ∙ ap (λ xs. xs ++ l ∷ []) h.0.lines in
      let bs = vec_items before.bytes in
      let gs = vec_items before.glyphs in
      let ls = vec_items before.lines in
      let x = h.0.bytes.0 in
      let y = h.0.glyphs.0 in
      let stands : LineStands (bs ++ x) (gs ++ y) l = subst (λ v. LineStands v (gs ++ y) l) h.0.bytes.1 (subst (λ v. LineStands (vec_items after.bytes) v l) h.0.glyphs.1 (line_stands r l h m)) in
      let says : said (bs ++ x) (gs ++ y) l ≡ read = subst (λ v. said v (gs ++ y) l ≡ read) h.0.bytes.1 (subst (λ v. said (vec_items after.bytes) v l ≡ read) h.0.glyphs.1 (line_says r l h m)) in
      let all : AllByRecursion (LineStands (bs ++ x) (gs ++ y)) (ls ++ l ∷ []) = All-push (LineStands (bs ++ x) (gs ++ y)) ls l (all_grown bs gs x y ls sound) stands in
      let eq : map (said (bs ++ x) (gs ++ y)) (ls ++ l ∷ []) ≡ map (said bs gs) ls ++ read ∷ [] = map_push (said (bs ++ x) (gs ++ y)) ls l ∙ ap (λ v. v ++ said (bs ++ x) (gs ++ y) l ∷ []) (lines_grown bs gs x y ls sound) ∙ ap (λ v. map (said bs gs) ls ++ v ∷ []) says in (
        subst (λ v. AllByRecursion (LineStands v (vec_items end.glyphs)) (vec_items end.lines)) (sym b)
            (subst (λ v. AllByRecursion (LineStands (bs ++ x) v) (vec_items end.lines)) (sym g) (subst (λ v. AllByRecursion (LineStands (bs ++ x) (gs ++ y)) v) (sym e) all)),
        subst (λ v. map (said v (vec_items end.glyphs)) (vec_items end.lines) ≡ map (said bs gs) ls ++ read ∷ []) (sym b)
            (subst (λ v. map (said (bs ++ x) v) (vec_items end.lines) ≡ map (said bs gs) ls ++ read ∷ []) (sym g) (subst (λ v. map (said (bs ++ x) (gs ++ y)) v ≡ map (said bs gs) ls ++ read ∷ []) (sym e) eq)),
      )

pub line_comment : (line : List ℕ) → true ≡ eqb (get_or line 0 0) 35 → line_said line ≡ []
line_comment line e = let t = sym e in rw t refl

pub line_words : (line w : List ℕ) (ws : List (List ℕ)) → false ≡ eqb (get_or line 0 0) 35 → words_in line ≡ w ∷ ws → line_said line ≡ said_by (verb_in w) ws ∷ []
line_words line w ws e is = let t = sym e in rw t (ap words_said is)
