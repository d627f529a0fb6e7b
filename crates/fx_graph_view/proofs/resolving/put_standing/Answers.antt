use Rattle.std.proofs.Common.{Some, refl, sym, ap, ◌∙◌, subst}
use Rattle.std.specs.Option.{option_copied}
use Rattle.std.specs.FinMap as map
use Rattle.fx_model.proofs.Orders.{policy_total, exact_policy}
use Rattle.fx_resolver.specs.Known.{known_policy}
use Rattle.fx_graph_view.specs.Knowing.{standing_at}
use Rattle.fx_graph_view.proofs.Brought.{IsBrought, begun, put, pass, ended}
use Rattle.fx_graph_view.proofs.Standing.{stands, was, untouched}
use Rattle.fx_graph_view.proofs.resolving.put_standing.Goals as goal

pub loop-id-init : goal.loop-id-init
loop-id-init g c =
    let policies = c.args.policies.now in
    let before = c.args.resolver.now.policies in
    let dg = g.R.DigestRule.digest_of in
    record {
      brought = subst (IsBrought policy_total exact_policy c.args.touched.now (map.get before) (standing_at dg policies before) before)
          (sym (c.into_iter-id-iterator.ensures.into_iter_gives ∙ c.iter-id-items.ensures))
          (begun policy_total exact_policy c.args.touched.now _ _ before (λ k. refl) (λ k out. untouched dg policies before k (c.requires.behind k out)));
      tiers = refl;
      endpoints = refl;
      pairs = refl;
      resolved = c.requires.resolved;
      policies = refl;
      profiles = refl;
    }

pub loop-id-preserved-in-Continue-branch-2 : goal.loop-id-preserved-in-Continue-branch-2
loop-id-preserved-in-Continue-branch-2 g c =
    let policies = c.args.policies.now in
    let before = c.args.resolver.now.policies in
    let dg = g.R.DigestRule.digest_of in
    let here = subst (IsBrought policy_total exact_policy c.args.touched.now (map.get before) (standing_at dg policies before) c.loop-id.resolver.policies) c.in-Some.ensures.steps c.loop-id.invariant.brought in
    let found = sym c.get.ensures ∙ ap option_copied c.in-Some-get.is in
    record {
      brought = put policy_total exact_policy c.args.touched.now _ _ c.loop-id.resolver.policies _ _ here c.policy_on.new.self.policies _ (ap (λ n. n.policies) c.in_ok-policy_on.ensures.inputs)
          (stands dg policies before c.in-Some.id.now c.in-Some-get.policy.now found ∙ ap (λ key. Some (known_policy key c.in-Some-get.policy.now)) (sym c.in_ok-key.ensures));
      tiers = ap (λ n. n.tiers) c.in_ok-policy_on.ensures.inputs ∙ c.loop-id.invariant.tiers;
      endpoints = ap (λ n. n.endpoints) c.in_ok-policy_on.ensures.inputs ∙ c.loop-id.invariant.endpoints;
      pairs = ap (λ n. n.pairs) c.in_ok-policy_on.ensures.inputs ∙ c.loop-id.invariant.pairs;
      resolved = c.in_ok-policy_on.ensures.resolved;
      policies = c.in_ok-policy_on.ensures.policies ∙ c.loop-id.invariant.policies;
      profiles = c.in_ok-policy_on.ensures.profiles ∙ c.loop-id.invariant.profiles;
    }

pub loop-id-preserved : goal.loop-id-preserved
loop-id-preserved g c =
    let policies = c.args.policies.now in
    let before = c.args.resolver.now.policies in
    let dg = g.R.DigestRule.digest_of in
    let here = subst (IsBrought policy_total exact_policy c.args.touched.now (map.get before) (standing_at dg policies before) c.loop-id.resolver.policies) c.in-Some.ensures.steps c.loop-id.invariant.brought in
    record {
      brought = pass policy_total exact_policy c.args.touched.now _ _ c.loop-id.resolver.policies _ _ here (was dg policies before c.in-Some.id.now (sym c.get.ensures ∙ ap option_copied c.in_default.is));
      tiers = c.loop-id.invariant.tiers;
      endpoints = c.loop-id.invariant.endpoints;
      pairs = c.loop-id.invariant.pairs;
      resolved = c.loop-id.invariant.resolved;
      policies = c.loop-id.invariant.policies;
      profiles = c.loop-id.invariant.profiles;
    }

pub returns-clause-standing : goal.returns-clause-standing
returns-clause-standing g c =
    ended policy_total exact_policy c.args.touched.now _ _ c.loop-id.resolver.policies
    (subst (IsBrought policy_total exact_policy c.args.touched.now (map.get c.args.resolver.now.policies) (standing_at g.R.DigestRule.digest_of c.args.policies.now c.args.resolver.now.policies) c.loop-id.resolver.policies) c.in-None.ensures.steps.0 c.loop-id.invariant.brought)
