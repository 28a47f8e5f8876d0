use Rattle.std.proofs.Common.{refl}
use Rattle.std.specs.Option.{option_map}
use Rattle.opentype.specs.Rules.{first_input_in}
use Rattle.rules.specs.Left.{parts_left}
use Rattle.readers.proofs.Giving.{gives}
use Rattle.rule_words.proofs.Wording.{word_on, word_out, word_all}
use Rattle.rule_words.proofs.rules_word.Goals as goal

pub returns-in_err-rule : goal.returns-in_err-rule
returns-in_err-rule g c = record {
  word =
      rw c.from_residual.ensures
      (word_out (gives (option_map (λ x. x.now)) (parts_left g.F.Offset.Width.BYTES) c.into_iter-rule-iterator.ensures.into_iter_gives c.parts-rule-items.ensures)
      c.loop-rule.yielded _ c.loop-rule.yielded_by c.next.new.self c.next.ensures.steps (first_input_in c.args.chained 2)
      c.loop-rule.digest.word c.loop-rule.invariant c.in-Some.rule c.in-Some.is (rw c.in_err-rule.was refl));
}

pub returns-in_err-first_input : goal.returns-in_err-first_input
returns-in_err-first_input g c = record {
  word =
      rw c.from_residual-in_err-first_input.ensures
      (word_out (gives (option_map (λ x. x.now)) (parts_left g.F.Offset.Width.BYTES) c.into_iter-rule-iterator.ensures.into_iter_gives c.parts-rule-items.ensures)
      c.loop-rule.yielded _ c.loop-rule.yielded_by c.next.new.self c.next.ensures.steps (first_input_in c.args.chained 2)
      c.loop-rule.digest.word c.loop-rule.invariant c.in-Some.rule c.in-Some.is (rw c.in_ok-rule.was c.in_err-first_input.ensures.value));
}

pub loop-rule-preserved : goal.loop-rule-preserved
loop-rule-preserved g c =
    word_on (gives (option_map (λ x. x.now)) (parts_left g.F.Offset.Width.BYTES) c.into_iter-rule-iterator.ensures.into_iter_gives c.parts-rule-items.ensures)
    c.loop-rule.yielded _ c.loop-rule.yielded_by c.next.new.self c.next.ensures.steps (first_input_in c.args.chained 2)
    c.loop-rule.digest.word c.loop-rule.invariant c.in-Some.rule c.in-Some.is c.in_ok-first_input.field-0
    (rw c.in_ok-rule.was c.in_ok-first_input.ensures.value) c.add.ensures.value

pub returns : goal.returns
returns g c = record {
  word =
      word_all (gives (option_map (λ x. x.now)) (parts_left g.F.Offset.Width.BYTES) c.into_iter-rule-iterator.ensures.into_iter_gives c.parts-rule-items.ensures)
      c.loop-rule.yielded _ c.loop-rule.yielded_by c.next.new.self c.next.ensures.steps (first_input_in c.args.chained 2)
      c.loop-rule.digest.word c.loop-rule.invariant c.in-None.is;
}
