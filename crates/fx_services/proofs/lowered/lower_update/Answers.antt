use Rattle.std.proofs.Common.{◌≡◌, true, sym, subst}
use Rattle.std.specs.Prelude.{IfOk}
use Rattle.fx_model.specs.declared.resources.Update.{Update}
use Rattle.fx_services.specs.Lowerable.{is_lowerable_update}
use Rattle.fx_services.specs.Lowering.{lowered}
use Rattle.fx_services.proofs.lowered.lower_update.Goals as goal

pub lowered_put-requires : goal.lowered_put-requires
lowered_put-requires c = subst (λ (u : Update). is_lowerable_update c.args.services.now u ≡ true) c.in-Put.is c.requires

pub returns-in-Put : goal.returns-in-Put
returns-in-Put c =
    subst (λ (u : Update). IfOk c.lowered_put.result (λ made. made ≡ lowered c.args.services.now u)) (sym c.in-Put.is) c.lowered_put.ensures
