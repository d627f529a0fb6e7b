use Rattle.fx_found.proofs.RowLaws.{rule_printed, rule_read_back}
use Rattle.fx_found.proofs.laws.rules_are_as_printed.Goals as goal

pub returns-clause-printed : goal.returns-clause-printed
returns-clause-printed c = rule_printed

pub returns-clause-read : goal.returns-clause-read
returns-clause-read c = rule_read_back
