use Rattle.std.proofs.Common.{◌≡◌, sym, subst}
use Rattle.std.specs.Prelude.{IfOk}
use Rattle.fx_model.specs.declared.chain.Reason.{Reason}
use Rattle.fx_services.specs.Places.{reason_as_written, flushed_places}
use Rattle.fx_services.proofs.places.Places.reason.Goals as goal

pub returns-in-Policy : goal.returns-in-Policy
returns-in-Policy c =
    let was = c.args.self.now in
    subst (λ (why : Reason). IfOk c.policy_reason.result (λ written. written ≡ reason_as_written (flushed_places was.lists was.before) c.args.direction why)) (sym c.in-Policy.is) c.policy_reason.ensures

pub returns-in-Profile : goal.returns-in-Profile
returns-in-Profile c =
    let was = c.args.self.now in
    subst (λ (why : Reason). IfOk c.profile_reason.result (λ written. written ≡ reason_as_written (flushed_places was.lists was.before) c.args.direction why)) (sym c.in-Profile.is) c.profile_reason.ensures
