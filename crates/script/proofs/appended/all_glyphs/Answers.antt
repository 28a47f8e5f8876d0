use Rattle.std.proofs.Common.{take, sym, ap, ◌∙◌}
use Rattle.std.proofs.lemmas.List.{take_at}
use Rattle.script.proofs.Reading.{stored}
use Rattle.script.proofs.appended.all_glyphs.Goals as goal

pub returns-in-Err : goal.returns-in-Err
returns-in-Err c =
    let h = c.in-Err.ensures in (
      c.truncate.ensures.items ∙ ap (take c.len-start.result) h.0.1
          ∙ take_at _ _ _ (sym c.args.glyphs.now.ok.0 ∙ sym c.len-start.ensures),
      h.1,
    )

pub returns : goal.returns
returns c =
    let h = c.in_default.ensures in
    (h.0, h.1, stored _ _ _ _ h.2 (c.len-start.ensures ∙ c.args.glyphs.now.ok.0) (c.len.ensures ∙ c.push_glyphs.new.glyphs.ok.0))
