use Rattle.std.proofs.Common.{◌≡◌, Some, None, length, ap, arith, rules}
use Rattle.std.proofs.lemmas.Bool.{false≢true}
use Rattle.words.specs.Words.{after_word, word_in}
use Rattle.words.proofs.Wording.{first_by, less_by, none_by}
use Rattle.words.proofs.line.WordsIterator.next.Goals as goal

pub returns-then-is_empty-clause-steps : goal.returns-then-is_empty-clause-steps
returns-then-is_empty-clause-steps c =
    let is : None ≡ word_in c.args.self.now.rest.now = search rules in
    let left : c.split_at-2.result.1.now ≡ after_word c.args.self.now.rest.now = search rules in
    (none_by c.args.self.now.rest.now c.split_at-2.result.1.now is left, record { value = is; left = left; shorter = λ e. absurd (false≢true e) })

pub returns-else-is_empty-clause-steps : goal.returns-else-is_empty-clause-steps
returns-else-is_empty-clause-steps c =
    let is : Some c.split_at-2.result.0.now ≡ word_in c.args.self.now.rest.now = search rules in
    let left : c.split_at-2.result.1.now ≡ after_word c.args.self.now.rest.now = search rules in (
      first_by c.args.self.now.rest.now c.split_at-2.result.0.now c.split_at-2.result.1.now is left,
      record { value = is; left = left; shorter = λ _. less_by c.args.self.now.rest.now c.split_at-2.result.0.now c.split_at-2.result.1.now is left },
    )

pub returns-else-is_empty-clause-goes : goal.returns-else-is_empty-clause-goes
returns-else-is_empty-clause-goes c =
    let first = first_by c.args.self.now.rest.now c.split_at-2.result.0.now c.split_at-2.result.1.now (search rules) (search rules) in
    record {
      on = λ _. (tt, tt, omega (arith, ap length first));
      keeps = tt;
      rests = λ _. tt;
    }
