-- What is asked of the rules that are tried.
-- Assumes nothing.
use Rattle.std.proofs.Common.{◌≡◌, ℕ, Bool, false, Some, None, Option, sym, ◌∙◌}
use Rattle.std.specs.Option.{MatchOption}
use Rattle.opentype.specs.Bytes.{Array, empty}
use Rattle.opentype.specs.Rules.{Rule}
use Rattle.rules.specs.Views.{rules_of, tried_of}
use Rattle.rules.specs.declared.sets.Rules.{Rules}

-- no rule passes where there is no set
module _ {F : Type 0} (offset value : ℕ) (asks : Array (Option (Rule ℕ)) → Bool) (none : asks (empty None) ≡ false) where
  pub asked_of : (o : Option (Rules F)) (r : Bool) (Answers : Rules F → Type 0) → MatchOption o (r ≡ false) Answers
      → ((s : Rules F) → Answers s → r ≡ asks (rules_of offset value s)) → r ≡ asks (tried_of offset value o)
  asked_of None r Answers h f = h ∙ sym none
  asked_of (Some s) r Answers h f = f s h
