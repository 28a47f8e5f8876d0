use Rattle.std.proofs.Common.{vec_items}
use Rattle.script.proofs.Reading.{GlyphsSoFar}
use Rattle.words.specs.Words.{words_in}
use Rattle.script.proofs.appended.push_glyphs.Given as goal

abbrev pub invariant-loop-word : goal.invariant-loop-word
invariant-loop-word l =
    GlyphsSoFar (words_in l.initial.words.rest.now) (words_in l.word-iterator.rest.now) (vec_items l.initial.glyphs) (vec_items l.glyphs)
