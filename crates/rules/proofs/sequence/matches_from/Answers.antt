use Rattle.std.proofs.Common.{◌≡◌, ◌+◌, ◌≤◌, ◌∙◌, true, ap, drop, length, nat_le, slice_index, rules, tests, arith}
use Rattle.std.proofs.lemmas.List.{get_or-drop, length-drop, take_rest}
use Rattle.std.proofs.lemmas.Iterator.{YieldsList-from_slice, YieldsList-from_zip}
use Rattle.std.proofs.lemmas.Iterator.Consumers.{YieldsList-at, YieldsList-from_first}
use Rattle.std.proofs.lemmas.Iterator.Search.{all_from_yields_List}
use Rattle.readers.specs.Left.{left_of}
use Rattle.readers.specs.Views.{entries, uints_of}
use Rattle.rules.proofs.Zipped.{all_beside}
use Rattle.rules.proofs.sequence.matches_from.Goals as goal

pub returns-then-glyphs-values : goal.returns-then-glyphs-values
returns-then-glyphs-values g c =
    let means = g.M.ValueMatch.means c.args.matcher.now in
    let values = uints_of g.W.Width.BYTES c.args.values.now in
    let place = c.args.place in
    let run = c.args.run.now in
    let some = length-drop place run in
    let room : values.count ≤ length (drop place run) = omega arith in
    let inside : nat_le (place + values.count) (length run) ≡ true = search rules in
    rw inside
    (all_from_yields_List (λ p. means p.0 p.1) c.all.new.self _ _ c.all.ensures.ran
    (YieldsList-from_zip (YieldsList-at c.zip.ensures.first (YieldsList-from_first (λ x. x) (left_of g.W.Width.BYTES) (entries values) c.iter.ensures))
    (YieldsList-from_slice (drop place run) (search (rules, take_rest))))
    (λ x b q k. search (rules, tests))
    ∙ all_beside means values (drop place run) (λ k. means (values.entry k) (slice_index run (place + k))) room (λ k l. ap (means (values.entry k)) (get_or-drop place run k 0)))
