use Rattle.std.proofs.Common.{◌≡◌, eqb, map, List, Option, None, ap, ◌∙◌, rules, tests}
use Rattle.std.proofs.lemmas.Iterator.{YieldsList}
use Rattle.std.proofs.lemmas.Iterator.Consumers.{YieldsList-end}
use Rattle.std.proofs.lemmas.Iterator.Splits.{YieldsList-from_slice_split}
use Rattle.std.specs.Iterator.{Yields}
use Rattle.std.specs.List.{flat_map}
use Rattle.script.specs.Lines.{line_said}
use Rattle.script.proofs.reader.Script.read.Goals as goal

-- `YieldsList-end`, with what was yielded first, from which antt learns the steps that the list is of
all_yielded : {S A B : Type 0} {steps : S → Option A → S → Type 0} {v : A → B} {s : S} {all : List B} (xs : List A) (t : S) → Yields steps s xs t → (r : Option A) (u : S) → r ≡ None → steps t r u → YieldsList steps v s all → map v xs ≡ all
all_yielded xs t y r u none step e = (YieldsList-end e xs t y r u none step).0

pub returns-clause-value : goal.returns-clause-value
returns-clause-value c =
    c.loop-line.invariant.1
    ∙ ap (flat_map line_said)
    (all_yielded c.loop-line.yielded _ c.loop-line.yielded_by _ _ c.in-None.is c.next.ensures.steps
    (YieldsList-from_slice_split _ (λ b. eqb b 10) c.args.text.now (cc) (cc) c.split-line-items.ensures.closure
    (λ x b q k. search (rules, tests))))
