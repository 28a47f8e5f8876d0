use Rattle.std.specs.Prelude.{◌≡◌, ℕ, length, slice_index}
use Rattle.std.proofs.Common.{sym, subst}
use Rattle.digest.specs.Allowances.{allowance_of}
use Rattle.rule_words.specs.Fills.{entry_of, fill_stores}
use Rattle.context.specs.Classes.{class_firsts}
use Rattle.context.specs.declared.classes.ClassSets.{ClassSets}
use Rattle.context.proofs.classes.ChainContext2.fill_words.Goals as goal

pub returns-in-Narrow-clause-buffer : goal.returns-in-Narrow-clause-buffer
returns-in-Narrow-clause-buffer c =
    let Filled : ClassSets → Type 0 = λ sets. (k : ℕ) → slice_index c.fill_words.new.words k
    ≡ entry_of (class_firsts sets) (fill_stores (class_firsts sets) (length c.args.words.now) (allowance_of c.args.budget.now)) c.args.words.now k in
    subst Filled (sym c.in-Narrow.is) c.fill_words.ensures.buffer

pub returns-in-Wide-clause-buffer : goal.returns-in-Wide-clause-buffer
returns-in-Wide-clause-buffer c =
    let Filled : ClassSets → Type 0 = λ sets. (k : ℕ) → slice_index c.fill_words-in-Wide.new.words k
    ≡ entry_of (class_firsts sets) (fill_stores (class_firsts sets) (length c.args.words.now) (allowance_of c.args.budget.now)) c.args.words.now k in
    subst Filled (sym c.in-Wide.is) c.fill_words-in-Wide.ensures.buffer
