use Rattle.std.proofs.Common.{None, ap, ◌∙◌}
use Rattle.std.specs.FinMap as map
use Rattle.fx_model.specs.SameIds.{copies_policy_id}
use Rattle.fx_model.proofs.Orders.{policy_total}
use Rattle.fx_logs.proofs.ActiveChanges.{policy_changed, policy_kept}
use Rattle.fx_logs.proofs.active_log.ActiveLogActiveSink.policy_off.Goals as goal

pub invariant_of-self-in_err-policy_off : goal.invariant_of-self-in_err-policy_off
invariant_of-self-in_err-policy_off g c = policy_kept _ c.self.inside.logged _ c.self.invariant _ _ c.in_ok-insert.ensures.ok c.in_err-policy_off.ensures.err

pub invariant_of-self-2 : goal.invariant_of-self-2
invariant_of-self-2 g c = policy_changed _ c.self.inside.logged _ c.self.invariant _ c.args.id.now _ None (copies_policy_id _ _ c.in_ok-clone.ensures.cases) c.in_ok-insert.ensures.ok
    (λ q. ap (λ t. map.get t.policies q) c.in_ok-policy_off.ensures.ok ∙ map.get-remove policy_total c.self.inside.logged.told.policies c.args.id.now q)
    (ap (λ t. t.profiles) c.in_ok-policy_off.ensures.ok) (ap (λ t. t.pairs) c.in_ok-policy_off.ensures.ok)
