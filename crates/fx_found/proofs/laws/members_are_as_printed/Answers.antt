use Rattle.fx_found.proofs.RowLaws.{member_printed, member_read_again}
use Rattle.fx_found.proofs.laws.members_are_as_printed.Goals as goal

pub returns-clause-printed : goal.returns-clause-printed
returns-clause-printed c = member_printed

pub returns-clause-read : goal.returns-clause-read
returns-clause-read c = member_read_again
