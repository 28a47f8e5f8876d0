use Rattle.std.proofs.Common.{◌≡◌, ℕ, ◌<◌, length, refl, ap, ◌∙◌, arith}
use Rattle.std.proofs.lemmas.Grind.{common_steps}
use Rattle.std.proofs.lemmas.List.{length_push}
use Rattle.std.proofs.lemmas.Result.{err_from_is_err_and}
use Rattle.readers.proofs.Giving.{gives_numbered, item_is, all_taken}
use Rattle.readers.specs.Left.{left_of}
use Rattle.rule_words.specs.Fills.{firsts_of}
use Rattle.rule_words.proofs.Filling.{work_refused, bytes_drawn, set_drawn, sets_drawn, one_stored, all_filled, none_filled, some_filled}
use Rattle.rule_words.proofs.fill.Goals as goal

pub returns-in_err-work : goal.returns-in_err-work
returns-in_err-work g c =
    let all = firsts_of g.F.Set.Width.BYTES g.F.Offset.Width.BYTES c.args.sets.now in
    let n : c.from-count.result ≡ all.count = omega arith in
    let p = err_from_is_err_and c.from_residual.result c.from_residual.ensures.1 in
    let d = none_filled all c.args.words.now (work_refused all c.from-count.result n c.in_err-work.ensures.drew) in
    record { drew = rw p.1 d.0; buffer = d.1 }

pub returns-in_err-bytes : goal.returns-in_err-bytes
returns-in_err-bytes g c =
    let all = firsts_of g.F.Set.Width.BYTES g.F.Offset.Width.BYTES c.args.sets.now in
    let n : c.from-count.result ≡ all.count = omega arith in
    let p = err_from_is_err_and c.from_residual-in_err-bytes.result c.from_residual-in_err-bytes.ensures.1 in
    let d = none_filled all c.args.words.now
    (bytes_drawn all c.from-count.result n c.in_ok-work.ensures.drew c.in_err-bytes.ensures.drew) in
    record { drew = rw p.1 d.0; buffer = d.1 }

pub returns-in_err-set_word : goal.returns-in_err-set_word
returns-in_err-set_word g c =
    let all = firsts_of g.F.Set.Width.BYTES g.F.Offset.Width.BYTES c.args.sets.now in
    let n : c.from-count.result ≡ all.count = omega arith in
    let y = gives_numbered (left_of g.F.Set.Width.BYTES) c.into_iter-i-iterator.ensures.into_iter_gives c.zip-i-items.ensures.first refl
    c.zip-i-items.ensures.second c.iter.ensures (omega arith) in
    let t = item_is y c.loop-i.yielded _ c.loop-i.yielded_by c.next.new.self c.next.ensures.steps (c.in-Some.i, c.in-Some.offset) c.in-Some.is in
    let p = err_from_is_err_and c.from_residual-in_err-set_word.result c.from_residual-in_err-set_word.ensures.1 in
    let head = bytes_drawn all c.from-count.result n c.in_ok-work.ensures.drew c.in_ok-bytes.ensures.drew in
    let d = some_filled all c.args.words.now (length c.loop-i.yielded) t.0 (sets_drawn all (length c.loop-i.yielded) head c.loop-i.invariant.0)
    (rw (ap (λ (p : ℕ × ℕ). p.1) t.1) at c.in_err-set_word.ensures.drew) in
    record { drew = rw p.1 d.0; buffer = λ k. c.loop-i.invariant.1 k ∙ d.1 k }

pub bounds-words-i : goal.bounds-words-i
bounds-words-i g c =
    let y = gives_numbered (left_of g.F.Set.Width.BYTES) c.into_iter-i-iterator.ensures.into_iter_gives c.zip-i-items.ensures.first refl
    c.zip-i-items.ensures.second c.iter.ensures (omega arith) in
    let t = item_is y c.loop-i.yielded _ c.loop-i.yielded_by c.next.new.self c.next.ensures.steps (c.in-Some.i, c.in-Some.offset) c.in-Some.is in
    let i : c.in-Some.i ≡ length c.loop-i.yielded = ap (λ (p : ℕ × ℕ). p.0) t.1 in
    omega arith

pub offset_bounds-words-i : goal.offset_bounds-words-i
offset_bounds-words-i g c =
    let y = gives_numbered (left_of g.F.Set.Width.BYTES) c.into_iter-i-iterator.ensures.into_iter_gives c.zip-i-items.ensures.first refl
    c.zip-i-items.ensures.second c.iter.ensures (omega arith) in
    let t = item_is y c.loop-i.yielded _ c.loop-i.yielded_by c.next.new.self c.next.ensures.steps (c.in-Some.i, c.in-Some.offset) c.in-Some.is in
    let i : c.in-Some.i ≡ length c.loop-i.yielded = ap (λ (p : ℕ × ℕ). p.0) t.1 in
    grind (arith, common_steps)

pub loop-i-preserved : goal.loop-i-preserved
loop-i-preserved g c =
    let all = firsts_of g.F.Set.Width.BYTES g.F.Offset.Width.BYTES c.args.sets.now in
    let y = gives_numbered (left_of g.F.Set.Width.BYTES) c.into_iter-i-iterator.ensures.into_iter_gives c.zip-i-items.ensures.first refl
    c.zip-i-items.ensures.second c.iter.ensures (omega arith) in
    let t = item_is y c.loop-i.yielded _ c.loop-i.yielded_by c.next.new.self c.next.ensures.steps (c.in-Some.i, c.in-Some.offset) c.in-Some.is in
    let i : c.in-Some.i ≡ length c.loop-i.yielded = ap (λ (p : ℕ × ℕ). p.0) t.1 in
    let offset = ap (λ (p : ℕ × ℕ). p.1) t.1 in
    let within : length c.loop-i.yielded < length c.loop-i.words = omega arith in (
      rw length_push (set_drawn all (length c.loop-i.yielded) c.loop-i.invariant.0 (rw offset at c.in_ok-set_word.ensures.drew)),
      rw (length_push, i)
          (one_stored all (length c.loop-i.yielded) c.loop-i.words c.args.words.now c.word.result within
          (c.word.ensures.value ∙ (rw offset at c.in_ok-set_word.ensures.word)) c.loop-i.invariant.1),
    )

pub returns : goal.returns
returns g c =
    let all = firsts_of g.F.Set.Width.BYTES g.F.Offset.Width.BYTES c.args.sets.now in
    let n : c.from-count.result ≡ all.count = omega arith in
    let y = gives_numbered (left_of g.F.Set.Width.BYTES) c.into_iter-i-iterator.ensures.into_iter_gives c.zip-i-items.ensures.first refl
    c.zip-i-items.ensures.second c.iter.ensures (omega arith) in
    let end : length c.loop-i.yielded ≡ all.count = all_taken y c.loop-i.yielded _ c.loop-i.yielded_by c.next.new.self c.next.ensures.steps c.in-None.is in
    let head = bytes_drawn all c.from-count.result n c.in_ok-work.ensures.drew c.in_ok-bytes.ensures.drew in
    let inv = rw end at c.loop-i.invariant in
    let d = sets_drawn all all.count head inv.0 in
    record { drew = d; buffer = λ k. inv.1 k ∙ all_filled all c.args.words.now d k }
