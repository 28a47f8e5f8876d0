use Rattle.std.proofs.Common.{inl, arith}
use Rattle.std.proofs.lemmas.Iterator.Consumers.{count_from_yields_List}
use Rattle.words.proofs.Wording.{words_come, words_le}
use Rattle.arguments.proofs.counts.count.Goals as goal

pub count-requires-clause-fits : goal.count-requires-clause-fits
count-requires-clause-fits c = let less = words_le c.args.words.rest.now in inl (omega arith)

pub returns : goal.returns
returns c = count_from_yields_List c.args.words c.count.result c.count.ensures.ran (words_come c.args.words)
