use Rattle.fx_found.proofs.WholeRows.{own_row_printed, own_row_read}
use Rattle.fx_found.proofs.laws.rows_are_as_printed.Goals as goal

pub returns-clause-printed : goal.returns-clause-printed
returns-clause-printed c = own_row_printed

pub returns-clause-read : goal.returns-clause-read
returns-clause-read c = own_row_read
