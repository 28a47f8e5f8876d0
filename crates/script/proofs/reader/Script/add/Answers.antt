use Rattle.std.proofs.Common.{◌++◌, sym, refl, ap, ◌∙◌}
use Rattle.words.specs.Words.{words_in}
use Rattle.script.specs.Lines.{said_by}
use Rattle.script.specs.Meant.{said_of}
use Rattle.script.specs.Verbs.{verb_in}
use Rattle.script.proofs.Growing.{added, line_words}
use Rattle.script.proofs.reader.Script.add.Goals as goal

pub returns : goal.returns
returns c =
    λ sound.
    let is = ap words_in (sym c.new-words.ensures) ∙ c.in-Some.ensures.steps.0 in
    let says = line_words c.args.line.now c.in-Some.word.now (words_in c.next.new.self.rest.now) c.if-is_comment.ensures is in
    let h = added (said_by (verb_in c.in-Some.word.now) (words_in c.next.new.self.rest.now)) c.args.self.now c.command.new.self c.command.result c.in_ok-said.said (record { bytes = c.command.new.self.bytes; glyphs = c.command.new.self.glyphs; lines = c.push.new.self }) c.command.ensures c.in_ok-said.ensures refl refl c.in_ok-push.ensures.items sound in
    (h.0, h.1 ∙ ap (λ l. said_of c.args.self.now ++ l) (sym says))
