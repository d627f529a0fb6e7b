use Rattle.fx_services.specs.Lowering.{written_rules}
use Rattle.fx_services.proofs.RuleLists.{IsLowering}
use Rattle.fx_services.proofs.lowering.lowered_rules.Given as goal

abbrev pub invariant-loop-rule : goal.invariant-loop-rule
invariant-loop-rule l =
    IsLowering l.fn.direction (written_rules l.fn.rules l.fn.services) l.lowered.items l.rule-iterator.rest.items l.left
