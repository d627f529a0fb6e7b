use Rattle.fx_scanner.proofs.Scanning.{nothing_scanned}
use Rattle.fx_scanner.proofs.scanner.RuleScanner.new.Goals as goal

pub returns-clause-scanned : goal.returns-clause-scanned
returns-clause-scanned c = nothing_scanned c.new.result.inputs c.new.ensures.inputs
