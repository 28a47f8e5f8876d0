use Rattle.std.proofs.Common.{◌^◌, arith}
use Rattle.std.proofs.lemmas.Result.{err_from_is_err_and}
use Rattle.words.proofs.Counting.{refused}
use Rattle.words.proofs.numbers.U64FromWord.from_word.Goals as goal

pub returns-in_err-value : goal.returns-in_err-value
returns-in_err-value c =
    let p = err_from_is_err_and c.from_residual.result c.from_residual.ensures.1 in
    let past =
    refused c.args.word.now c.loop-digit.digit-index c.loop-digit.value (2 ^ 64) c.if-is_empty.ensures
    c.if-not-all_digits.ensures (omega arith) c.loop-digit.invariant.0 _ c.in_err-value.ensures in
    rw (p.1, p.2) past
