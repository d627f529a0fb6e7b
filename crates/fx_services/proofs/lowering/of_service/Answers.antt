use Rattle.std.proofs.Common.{subst, sym, ◌∙◌}
use Rattle.fx_selector.specs.Tree.{IsString}
use Rattle.fx_services.proofs.ServiceTrees.{mark_key, service_string}
use Rattle.fx_services.proofs.lowering.of_service.Goals as goal

pub equal-requires-clause-key : goal.equal-requires-clause-key
equal-requires-clause-key c = mark_key

pub equal-requires-clause-value : goal.equal-requires-clause-value
equal-requires-clause-value c = subst IsString (sym (c.bytes.ensures ∙ c.in_ok-name.ensures)) (service_string c.args.service.now c.requires)
