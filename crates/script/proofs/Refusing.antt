-- What a command that cannot be read leaves, and what one that was read leaves.
use Rattle.std.proofs.Common.{◌≡◌, ℕ, List, [], Some, None, Option, Ok, Err, vec_items, Result, Vec, sym, refl, ap, ◌∙◌, append-nil, arith}
use Rattle.std.specs.Option.{ok_or}
use Rattle.std.specs.declared.alloc.Global.{Global}
use Rattle.words.specs.declared.fault.Fault.{Fault}
use Rattle.words.specs.declared.fault.Fault.TheVariants.{UnknownCommand}
use Rattle.words.specs.declared.fault.Unread.{Unread}
use Rattle.words.specs.declared.fault.Unread.TheVariants as unread
use Rattle.words.specs.declared.span.Span.{Span}
use Rattle.script.specs.declared.command.Verb.{Verb}
use Rattle.arguments.specs.Counts.{and_then}
use Rattle.script.specs.Lines.{Said}
use Rattle.script.specs.Meant.{CommandRead, Faulty, Inside, Read, Stands, cut, meant}
use Rattle.script.specs.declared.command.Command.{Command}
use Rattle.script.specs.declared.reader.Script.{Script}

-- what follows a fault is not read
faulty : (u : Unread) (d : Result (List ℕ) Fault) (k : List ℕ → Result Said Fault) {read : Result Said Fault} → read ≡ and_then d k → Faulty d u → Faulty read u
faulty (unread.Fault f) d k is h = is ∙ ap (λ x. and_then x k) h
faulty (unread.NoMemory e) d k is h = tt

module _ (before : Script) (read : Result Said Fault) (r : Result Command Unread) (u y : Unread) (result : r ≡ Err y) (same : y ≡ u) where
  -- its bytes
  pub bytes_fault : (bytes : Vec ℕ Global) (d : Result (List ℕ) Fault) (k : List ℕ → Result Said Fault) → read ≡ and_then d k → Read d (vec_items before.bytes) (vec_items bytes) (Err u) → CommandRead read before (record { bytes = bytes; glyphs = before.glyphs; lines = before.lines }) r
  bytes_fault bytes d k is h = (
    record { bytes = ([], h.0 ∙ sym (append-nil _)); glyphs = ([], sym (append-nil _)); lines = refl },
    rw (result, same) (h.0, refl, faulty u d k is h.1),
  )

-- the arguments before bytes and glyphs
pub arguments_fault : (before : Script) (read : Result Said Fault) (r : Result Command Unread) (f : Fault) (y : Unread) → r ≡ Err y → y ≡ unread.Fault f → read ≡ Err f → CommandRead read before before r
arguments_fault before read r f y result same is = (
  record { bytes = ([], sym (append-nil _)); glyphs = ([], sym (append-nil _)); lines = refl },
  rw (result, same) (refl, refl, is),
)

-- a command on glyphs that were appended
pub glyphs_stand : (before : Script) (read : Result Said Fault) (glyphs : Vec ℕ Global) (d : Result (List ℕ) Fault) (says : List ℕ → Said) (s : Span) (c : Command) → read ≡ and_then d (λ gs. Ok (says gs)) → Read d (vec_items before.glyphs) (vec_items glyphs) (Ok s) → meant (vec_items before.bytes) (vec_items glyphs) c ≡ says (cut s (vec_items glyphs)) → (Inside s (vec_items glyphs) → Stands (vec_items before.bytes) (vec_items glyphs) c) → CommandRead read before (record { bytes = before.bytes; glyphs = glyphs; lines = before.lines }) (Ok c)
glyphs_stand before read glyphs d says s c is h means stands = (
  record { bytes = ([], sym (append-nil _)); glyphs = (h.0, h.2.grown); lines = refl },
  (is ∙ ap (λ x. and_then x (λ gs. Ok (says gs))) h.1 ∙ ap (λ l. Ok (says l)) (sym h.2.at) ∙ ap Ok (sym means), stands h.2.inside),
)

-- the verb that a word named, where it named one
pub verb_was : (named o : Option Verb) (r : Result Verb Fault) (v : Verb) → named ≡ o → r ≡ ok_or named UnknownCommand → r ≡ Ok v → o ≡ Some v
verb_was (Some w) o r v is made got = let same : w ≡ v = cc in sym is ∙ ap Some same
verb_was None o r v is made got = let z : ◌≡◌ {A = ℕ} 0 1 = cc in absurd (omega arith)
