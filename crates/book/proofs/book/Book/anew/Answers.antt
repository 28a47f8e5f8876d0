use Rattle.book.proofs.Keeping.{kept_new}
use Rattle.book.proofs.book.Book.anew.Goals as goal

pub returns-clause-kept : goal.returns-clause-kept
returns-clause-kept g c = kept_new _ _ c.new-self.ensures.table
