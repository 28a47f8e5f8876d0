use Rattle.book.proofs.Hiding.{fewer_tries, filters_hide_nothing}
use Rattle.book.proofs.Listing.{hits_are_listed}
use Rattle.book.proofs.theorems.filters_keep.Goals as goal

pub returns : goal.returns
returns c = record { whole = filters_hide_nothing; listed = hits_are_listed; fewer = fewer_tries }
