use Rattle.fx_names.specs.Claims.{first_clash}
use Rattle.fx_store.proofs.Checked.{fault_on}
use Rattle.fx_store.proofs.checking.check_claims.Goals as goal

pub returns-in_err-check_each : goal.returns-in_err-check_each
returns-in_err-check_each c = λ others k.
    fault_on c.from_residual-in_err-check_each.result c.in_err-check_each.field-0.0 (first_clash others c.args.new.now) c.from_residual-in_err-check_each.ensures.1
    (c.in_err-check_each.ensures c.args.old.now others (c.in_ok-gone.ensures c.args.registry.now others k) k)

pub returns : goal.returns
returns c = λ others k. c.in_ok-check_each.ensures c.args.old.now others (c.in_ok-gone.ensures c.args.registry.now others k) k
