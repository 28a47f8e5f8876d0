use Rattle.std.proofs.Common.{Some, Ok, refl, ap, ◌∙◌}
use Rattle.std.proofs.lemmas.Result.{err_from_is_err_and}
use Rattle.words.specs.Hex.{hex_in}
use Rattle.words.specs.Words.{words_in}
use Rattle.script.specs.Lines.{said_by, on_bytes, on_glyphs, coverage, class, opens, opens_wide, applies}
use Rattle.script.specs.declared.command.Command.TheVariants as command
use Rattle.script.proofs.Refusing.{arguments_fault, bytes_fault, glyphs_stand, verb_was}
use Rattle.script.proofs.reader.Script.command.Goals as goal

pub returns-in_err-table-in-Coverage : goal.returns-in_err-table-in-Coverage
returns-in_err-table-in-Coverage c =
    let p = err_from_is_err_and c.from_residual-in_err-table-in-Coverage.result c.from_residual-in_err-table-in-Coverage.ensures.1 in
    let is = ap (λ v. said_by v (words_in c.args.words.rest.now)) (verb_was _ _ _ _ c.named.ensures c.ok_or.ensures.value c.in_ok-ok_or.was ∙ ap Some c.in-Coverage.is) in
    bytes_fault c.args.self.now _ _ _ p.0 p.1 p.2 c.table.new.bytes (hex_in c.in_ok-word-in-Coverage.word.now) (λ bytes. Ok (coverage bytes c.in_ok-word-in-Coverage.glyph))
    (is ∙ ap (λ a. on_bytes a coverage) c.in_ok-word-in-Coverage.ensures) c.in_err-table-in-Coverage.ensures

pub returns-in_err-table-in-Class : goal.returns-in_err-table-in-Class
returns-in_err-table-in-Class c =
    let p = err_from_is_err_and c.from_residual-in_err-table-in-Class.result c.from_residual-in_err-table-in-Class.ensures.1 in
    let is = ap (λ v. said_by v (words_in c.args.words.rest.now)) (verb_was _ _ _ _ c.named.ensures c.ok_or.ensures.value c.in_ok-ok_or.was ∙ ap Some c.in-Class.is) in
    bytes_fault c.args.self.now _ _ _ p.0 p.1 p.2 c.table-in-Class.new.bytes (hex_in c.in_ok-word-in-Class.word.now) (λ bytes. Ok (class bytes c.in_ok-word-in-Class.glyph))
    (is ∙ ap (λ a. on_bytes a class) c.in_ok-word-in-Class.ensures) c.in_err-table-in-Class.ensures

pub returns-in_err-table-in-Open : goal.returns-in_err-table-in-Open
returns-in_err-table-in-Open c =
    let p = err_from_is_err_and c.from_residual-in_err-table-in-Open.result c.from_residual-in_err-table-in-Open.ensures.1 in
    let is = ap (λ v. said_by v (words_in c.args.words.rest.now)) (verb_was _ _ _ _ c.named.ensures c.ok_or.ensures.value c.in_ok-ok_or.was ∙ ap Some c.in-Open.is) in
    bytes_fault c.args.self.now _ _ _ p.0 p.1 p.2 c.table-in-Open.new.bytes (hex_in c.in_ok-word-in-Open.word.now) (λ bytes. Ok (opens bytes c.in_ok-word-in-Open.chained))
    (is ∙ ap (λ a. on_bytes a opens) c.in_ok-word-in-Open.ensures) c.in_err-table-in-Open.ensures

pub returns-in_err-table-in-OpenWide : goal.returns-in_err-table-in-OpenWide
returns-in_err-table-in-OpenWide c =
    let p = err_from_is_err_and c.from_residual-in_err-table-in-OpenWide.result c.from_residual-in_err-table-in-OpenWide.ensures.1 in
    let is = ap (λ v. said_by v (words_in c.args.words.rest.now)) (verb_was _ _ _ _ c.named.ensures c.ok_or.ensures.value c.in_ok-ok_or.was ∙ ap Some c.in-OpenWide.is) in
    bytes_fault c.args.self.now _ _ _ p.0 p.1 p.2 c.table-in-OpenWide.new.bytes (hex_in c.in_ok-word-in-OpenWide.word.now) (λ bytes. Ok (opens_wide bytes c.in_ok-word-in-OpenWide.parts))
    (is ∙ ap (λ a. on_bytes a opens_wide) c.in_ok-word-in-OpenWide.ensures) c.in_err-table-in-OpenWide.ensures

pub returns-in_err-word-in-OpenWide : goal.returns-in_err-word-in-OpenWide
returns-in_err-word-in-OpenWide c =
    let p = err_from_is_err_and c.from_residual-in_err-word-in-OpenWide.result c.from_residual-in_err-word-in-OpenWide.ensures.1 in
    let is = ap (λ v. said_by v (words_in c.args.words.rest.now)) (verb_was _ _ _ _ c.named.ensures c.ok_or.ensures.value c.in_ok-ok_or.was ∙ ap Some c.in-OpenWide.is) in
    arguments_fault c.args.self.now _ _ _ p.0 p.1 p.2 (is ∙ ap (λ a. on_bytes a opens_wide) c.in_err-word-in-OpenWide.ensures)

pub returns-in_ok-glyphs-in-Applies : goal.returns-in_ok-glyphs-in-Applies
returns-in_ok-glyphs-in-Applies c =
    let is = ap (λ v. said_by v (words_in c.args.words.rest.now)) (verb_was _ _ _ _ c.named.ensures c.ok_or.ensures.value c.in_ok-ok_or.was ∙ ap Some c.in-Applies.is) in
    glyphs_stand c.args.self.now _ _ _ (applies c.in_ok-subtable-in-Applies.subtable c.in_ok-subtable-in-Applies.zero_context) _
    (command.Applies c.in_ok-subtable-in-Applies.subtable c.in_ok-subtable-in-Applies.zero_context c.in_ok-glyphs-in-Applies.glyphs)
    (is ∙ ap (λ a. on_glyphs a (λ p. applies p.0 p.1)) c.in_ok-subtable-in-Applies.ensures) c.in_ok-glyphs-in-Applies.ensures refl (λ h. h)
