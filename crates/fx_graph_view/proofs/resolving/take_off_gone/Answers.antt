use Rattle.std.proofs.Common.{is_some, refl, sym, ap, ◌∙◌, subst}
use Rattle.std.specs.Option.{option_copied}
use Rattle.std.specs.FinMap as map
use Rattle.fx_model.proofs.Orders.{policy_total, exact_policy}
use Rattle.fx_graph_view.specs.Knowing.{unless_gone_at}
use Rattle.fx_graph_view.proofs.Brought.{IsBrought, begun, head_touched, off, pass, ended}
use Rattle.fx_graph_view.proofs.Standing.{lent_some, left, stays, gone}
use Rattle.fx_graph_view.proofs.resolving.take_off_gone.Goals as goal

pub loop-id-init : goal.loop-id-init
loop-id-init g c =
    let touched = c.args.touched.now in
    let before = c.args.resolver.now.policies in
    record {
      brought = subst (IsBrought policy_total exact_policy touched (map.get before) (unless_gone_at touched c.args.policies.now before) before)
          (sym (c.into_iter-id-iterator.ensures.into_iter_gives ∙ c.iter-id-items.ensures))
          (begun policy_total exact_policy touched _ _ before (λ k. refl) (λ k out. left touched c.args.policies.now before k out));
      tiers = refl;
      endpoints = refl;
      pairs = refl;
      resolved = c.requires.resolved;
      policies = refl;
      profiles = refl;
    }

pub loop-id-preserved-in-Continue-1 : goal.loop-id-preserved-in-Continue-1
loop-id-preserved-in-Continue-1 g c =
    let touched = c.args.touched.now in
    let policies = c.args.policies.now in
    let before = c.args.resolver.now.policies in
    let here = subst (IsBrought policy_total exact_policy touched (map.get before) (unless_gone_at touched policies before) c.loop-id.resolver.policies) c.in-Some.ensures.steps c.loop-id.invariant.brought in
    record {
      brought = off policy_total exact_policy touched _ _ c.loop-id.resolver.policies _ _ here c.policy_off.new.self.policies (ap (λ n. n.policies) c.in_ok-policy_off.ensures.inputs)
          (gone touched policies before _ _ (head_touched policy_total exact_policy touched _ _ c.loop-id.resolver.policies _ _ here) (ap is_some (sym c.get.ensures) ∙ lent_some c.get.result ∙ c.if-is_none.ensures));
      tiers = ap (λ n. n.tiers) c.in_ok-policy_off.ensures.inputs ∙ c.loop-id.invariant.tiers;
      endpoints = ap (λ n. n.endpoints) c.in_ok-policy_off.ensures.inputs ∙ c.loop-id.invariant.endpoints;
      pairs = ap (λ n. n.pairs) c.in_ok-policy_off.ensures.inputs ∙ c.loop-id.invariant.pairs;
      resolved = c.in_ok-policy_off.ensures.resolved;
      policies = c.in_ok-policy_off.ensures.policies ∙ c.loop-id.invariant.policies;
      profiles = c.in_ok-policy_off.ensures.profiles ∙ c.loop-id.invariant.profiles;
    }

pub loop-id-preserved : goal.loop-id-preserved
loop-id-preserved g c =
    let touched = c.args.touched.now in
    let policies = c.args.policies.now in
    let before = c.args.resolver.now.policies in
    let here = subst (IsBrought policy_total exact_policy touched (map.get before) (unless_gone_at touched policies before) c.loop-id.resolver.policies) c.in-Some.ensures.steps c.loop-id.invariant.brought in
    record {
      brought = pass policy_total exact_policy touched _ _ c.loop-id.resolver.policies _ _ here
          (stays touched policies before _ (ap is_some (sym c.get.ensures) ∙ lent_some c.get.result ∙ c.if-is_none.ensures));
      tiers = c.loop-id.invariant.tiers;
      endpoints = c.loop-id.invariant.endpoints;
      pairs = c.loop-id.invariant.pairs;
      resolved = c.loop-id.invariant.resolved;
      policies = c.loop-id.invariant.policies;
      profiles = c.loop-id.invariant.profiles;
    }

pub returns-clause-gone : goal.returns-clause-gone
returns-clause-gone g c =
    let touched = c.args.touched.now in
    let before = c.args.resolver.now.policies in
    ended policy_total exact_policy touched _ _ c.loop-id.resolver.policies
    (subst (IsBrought policy_total exact_policy touched (map.get before) (unless_gone_at touched c.args.policies.now before) c.loop-id.resolver.policies) c.in-None.ensures.steps.0 c.loop-id.invariant.brought)
