-- The first words of commands.
use Rattle.std.specs.Prelude.{ℕ, List, [], ◌∷◌, codes, Option}
use Rattle.std.specs.List.{find}
use Rattle.std.specs.Str.{bytes_eq}
use Rattle.script.specs.declared.command.Verb.{Verb}
use Rattle.script.specs.declared.command.Verb.TheVariants.{Coverage, Class, DigestOf, DigestSpan, Allowance, Left, Open, OpenWide, Hit, Applies, Aside, Masks, Words, Book, OnBook}
use Rattle.script.specs.declared.command.BookVerb.{BookVerb}
use Rattle.script.specs.declared.command.BookVerb.TheVariants.{Filter, Forget, State, WouldApply, Scan, MasksBeside, WordsBeside, Anew, End}

abbrev pub book_name_of : BookVerb → List ℕ
book_name_of Filter = codes "filter"
book_name_of Forget = codes "forget"
book_name_of State = codes "state"
book_name_of WouldApply = codes "would-apply"
book_name_of Scan = codes "scan"
book_name_of MasksBeside = codes "masks-beside"
book_name_of WordsBeside = codes "words-beside"
book_name_of Anew = codes "anew"
book_name_of End = codes "end"

abbrev pub name_of : Verb → List ℕ
name_of Coverage = codes "coverage"
name_of Class = codes "class"
name_of DigestOf = codes "digest-of"
name_of DigestSpan = codes "digest-span"
name_of Allowance = codes "allowance"
name_of Left = codes "left"
name_of Open = codes "open"
name_of OpenWide = codes "open-wide"
name_of Hit = codes "hit"
name_of Applies = codes "applies"
name_of Aside = codes "aside"
name_of Masks = codes "masks"
name_of Words = codes "words"
name_of Book = codes "book"
name_of (OnBook v) = book_name_of v

abbrev pub verbs : List Verb
verbs = Coverage ∷ Class ∷ DigestOf ∷ DigestSpan ∷ Allowance ∷ Left ∷ Open ∷ OpenWide ∷ Hit ∷ Applies ∷ Aside ∷ Masks ∷ Words ∷ Book ∷ OnBook Filter ∷ OnBook Forget ∷ OnBook State ∷ OnBook WouldApply ∷ OnBook Scan ∷ OnBook MasksBeside ∷ OnBook WordsBeside ∷ OnBook Anew ∷ OnBook End ∷ []

-- the first of the verbs that a word names
abbrev pub verb_in : List ℕ → Option Verb
verb_in w = find (λ v. bytes_eq w (name_of v)) verbs
