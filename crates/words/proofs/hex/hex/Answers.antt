use Rattle.std.proofs.Common.{◌≡◌, ◌%◌, ◌++◌, length, sym, ap, ◌∙◌, arith, map, vec_items, eqb-true}
use Rattle.std.proofs.lemmas.Result.{err_from_is_err_and}
use Rattle.words.proofs.Pairing.{all_read, appended, byte, no_memory, pairs_by_chunks}
use Rattle.words.proofs.hex.hex.Goals as goal

pub returns-in_err-reserve : goal.returns-in_err-reserve
returns-in_err-reserve c =
    let w = c.args.word.now in
    let none = eqb-true (length c.as_chunks.result.1.now) 0 (sym c.if-not-is_empty.ensures) in
    let even : length w % 2 ≡ 0 = omega (arith, c.as_chunks.ensures.back_len) in
    let p = err_from_is_err_and c.from_residual.result c.from_residual.ensures.1 in
    no_memory w c.args.bytes.now c.reserve.new.self _ p.0 p.1 p.2 c.if-not-all_hex.ensures even c.in_err-reserve.ensures.items (let full = c.in_err-reserve.ensures.full in omega (arith, c.as_chunks.ensures.front_len))

pub returns : goal.returns
returns c =
    let w = c.args.word.now in
    let none = eqb-true (length c.as_chunks.result.1.now) 0 (sym c.if-not-is_empty.ensures) in
    let even : length w % 2 ≡ 0 = omega (arith, c.as_chunks.ensures.back_len) in
    let read = all_read c.as_chunks.result.0.now (vec_items c.loop-high.bytes) _ c.loop-high.high-index (omega arith) c.loop-high.invariant.0 in
    appended w c.args.bytes.now c.loop-high.bytes _ c.if-not-all_hex.ensures even
    (read ∙ ap (λ l. l ++ map byte c.as_chunks.result.0.now) c.in_ok-reserve.ensures.items ∙ ap (λ l. vec_items c.args.bytes.now ++ l) (ap (map byte) c.as_chunks.ensures.front ∙ pairs_by_chunks _ w (omega arith))) c.len-start.ensures c.len.ensures
