use Rattle.std.proofs.Common.{◌≡◌, true, sym, subst}
use Rattle.std.specs.Prelude.{IfOk}
use Rattle.fx_model.specs.declared.resources.Item.{Item}
use Rattle.fx_model.specs.declared.resources.Update.TheVariants as update
use Rattle.fx_services.specs.Lowerable.{is_lowerable_item}
use Rattle.fx_services.specs.Lowering.{lowered}
use Rattle.fx_services.proofs.lowered.lowered_put.Goals as goal

pub lowered_policy-requires : goal.lowered_policy-requires
lowered_policy-requires c = subst (λ (x : Item). is_lowerable_item c.args.services.now x ≡ true) c.in-Policy.is c.requires

pub lowered_profile-requires : goal.lowered_profile-requires
lowered_profile-requires c = subst (λ (x : Item). is_lowerable_item c.args.services.now x ≡ true) c.in-Profile.is c.requires

pub returns-in-Policy : goal.returns-in-Policy
returns-in-Policy c =
    subst (λ (x : Item). IfOk c.lowered_policy.result (λ made. made ≡ lowered c.args.services.now (update.Put c.args.key x))) (sym c.in-Policy.is) c.lowered_policy.ensures

pub returns-in-Profile : goal.returns-in-Profile
returns-in-Profile c =
    subst (λ (x : Item). IfOk c.lowered_profile.result (λ made. made ≡ lowered c.args.services.now (update.Put c.args.key x))) (sym c.in-Profile.is) c.lowered_profile.ensures
