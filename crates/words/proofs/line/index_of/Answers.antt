use Rattle.std.proofs.Common.{◌≡◌, eqb, length, unwrap_or, sym, ap, ◌∙◌, rules, tests}
use Rattle.std.proofs.lemmas.Iterator.{YieldsList-from_slice}
use Rattle.std.proofs.lemmas.Iterator.Search.{position_from_yields_List}
use Rattle.std.specs.List.{position}
use Rattle.words.proofs.Searching.{unwrap_position}
use Rattle.words.proofs.line.index_of.Goals as goal

pub returns-in-Some-clause-value : goal.returns-in-Some-clause-value
returns-in-Some-clause-value c =
    let first : c.position.result ≡ position (λ x. eqb x c.args.b) c.args.text.now =
    position_from_yields_List (λ x. eqb x c.args.b) _ _ c.position.result c.position.ensures.ran
    (YieldsList-from_slice c.args.text.now cc)
    (λ x b q k. search (rules, tests)) in
    ap (λ o. unwrap_or o (length c.args.text.now)) (sym c.in-Some.is ∙ first) ∙ unwrap_position _ c.args.text.now

pub returns-in-None-clause-value : goal.returns-in-None-clause-value
returns-in-None-clause-value c =
    let first : c.position.result ≡ position (λ x. eqb x c.args.b) c.args.text.now =
    position_from_yields_List (λ x. eqb x c.args.b) _ _ c.position.result c.position.ensures.ran
    (YieldsList-from_slice c.args.text.now cc)
    (λ x b q k. search (rules, tests)) in
    ap (λ o. unwrap_or o (length c.args.text.now)) (sym c.in-None.is ∙ first) ∙ unwrap_position _ c.args.text.now
