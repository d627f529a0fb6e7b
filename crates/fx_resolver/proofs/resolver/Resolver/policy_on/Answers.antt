use Rattle.std.proofs.Common.{◌≡◌, Some, ap, sym, ◌∙◌}
use Rattle.std.specs.FinMap as map
use Rattle.fx_base.proofs.AtKey.{insert_same}
use Rattle.fx_model.proofs.Orders.{policy_total, exact_policy}
use Rattle.fx_resolver.specs.declared.inputs.Inputs.{Inputs}
use Rattle.fx_resolver.specs.Known.{known_policy}
use Rattle.fx_resolver.proofs.Resolving.{sink_is_told, sink_is_resolved}
use Rattle.fx_resolver.proofs.resolver.Resolver.policy_on.Goals as goal

pub returns-then-is_known-clause-inputs : goal.returns-then-is_known-clause-inputs
returns-then-is_known-clause-inputs g c =
    let n = c.args.self.now in
    let known = known_policy c.args.key c.args.policy.now in
    let there : map.get n.policies c.args.id.now ≡ Some known =
    ap (λ (m : Inputs). map.get m.policies c.args.id.now) (sym c.self.view_is) ∙ sym c.get.ensures ∙ c.is_known.ensures.0 c.if-is_known.true ∙ ap Some c.in_ok-known.ensures in
    λ j. record n { policies = sym (insert_same policy_total exact_policy n.policies c.args.id.now known there) j }

pub put_policy-requires-clause-sink : goal.put_policy-requires-clause-sink
put_policy-requires-clause-sink g c = sink_is_told c.self.view_is c.self.invariant c.requires c.replace-state.ensures.value

pub returns-clause-resolved : goal.returns-clause-resolved
returns-clause-resolved g c = sink_is_resolved c.put_policy.new.self c.in_ok-put_policy.ensures.kept c.in_ok-put_policy.ensures.endpoints
