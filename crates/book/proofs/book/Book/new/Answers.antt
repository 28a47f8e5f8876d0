use Rattle.book.proofs.Keeping.{kept_new}
use Rattle.book.proofs.book.Book.new.Goals as goal

pub returns-clause-kept : goal.returns-clause-kept
returns-clause-kept g c = kept_new _ _ c.new.ensures.table
