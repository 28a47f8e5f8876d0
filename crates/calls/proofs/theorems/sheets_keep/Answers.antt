use Rattle.calls.proofs.Keeping.{sheets_agree, sheets_in_turn, sheets_keep}
use Rattle.calls.proofs.theorems.sheets_keep.Goals as goal

pub returns : goal.returns
returns c = record { promise = sheets_keep; agree = sheets_agree; in_turn = sheets_in_turn }
