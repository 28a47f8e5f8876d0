use Rattle.replay.proofs.Fills.{buffer_is}
use Rattle.replay.proofs.working.ask.Goals as goal

pub returns-in-Fill-clause-words : goal.returns-in-Fill-clause-words
returns-in-Fill-clause-words g c = rw c.in-Fill.is (buffer_is _ c.fill_words.new.words c.args.words.now c.fill_words.auto.words c.fill_words.ensures.buffer)
