use Rattle.std.proofs.Common.{refl, sym, ap, ◌∙◌, subst}
use Rattle.std.specs.Option.{option_copied}
use Rattle.std.specs.FinMap as map
use Rattle.fx_model.proofs.Orders.{policy_total, exact_policy}
use Rattle.fx_scanner.proofs.ApartUses.{fewer}
use Rattle.fx_graph_view.proofs.Brought.{IsBrought, begun, head_touched, put, pass, ended, on_the_way}
use Rattle.fx_graph_view.proofs.Withouts.{without, untouched_in, touched_out, part_without}
use Rattle.fx_graph_view.proofs.scanning.policies_on.Goals as goal

pub loop-id-init : goal.loop-id-init
loop-id-init g c = record {
  brought = subst (IsBrought policy_total exact_policy c.args.touched.now (without c.args.touched.now c.args.policies.now) (map.get c.args.policies.now) c.args.scanner.now.policies)
      (sym (c.into_iter-id-iterator.ensures.into_iter_gives ∙ c.iter-id-items.ensures))
      (begun policy_total exact_policy c.args.touched.now _ _ c.args.scanner.now.policies (λ k. sym (c.requires.without.at k)) (untouched_in c.args.touched.now c.args.policies.now));
  profiles = refl;
  scanned = c.requires.scanned;
  endpoints = refl;
}

pub policy_on-requires-clause-apart : goal.policy_on-requires-clause-apart
policy_on-requires-clause-apart g c =
    let here = subst (IsBrought policy_total exact_policy c.args.touched.now (without c.args.touched.now c.args.policies.now) (map.get c.args.policies.now) c.loop-id.scanner.policies) c.in-Some.ensures.steps c.loop-id.invariant.brought in
    let found = sym c.get.ensures ∙ ap option_copied c.in-Some-get.is in
    let next = put policy_total exact_policy c.args.touched.now _ _ c.loop-id.scanner.policies _ _ here _ _ refl found in
    fewer g.R.DigestRule.digest_of _ (record c.args.scanner.now { policies = c.args.policies.now }) (record {
      policies_in = on_the_way policy_total exact_policy c.args.touched.now _ _ (map.get c.args.policies.now) _ _ (part_without c.args.touched.now c.args.policies.now) (λ k x e. e) next;
      profiles_in = λ n o e. ap (λ m. map.get m n) (sym c.loop-id.invariant.profiles) ∙ e;
    }) c.requires.apart

pub loop-id-preserved-in-Continue-1 : goal.loop-id-preserved-in-Continue-1
loop-id-preserved-in-Continue-1 g c =
    let here = subst (IsBrought policy_total exact_policy c.args.touched.now (without c.args.touched.now c.args.policies.now) (map.get c.args.policies.now) c.loop-id.scanner.policies) c.in-Some.ensures.steps c.loop-id.invariant.brought in
    let found = sym c.get.ensures ∙ ap option_copied c.in-Some-get.is in
    record {
      brought = put policy_total exact_policy c.args.touched.now _ _ c.loop-id.scanner.policies _ _ here c.policy_on.new.self.policies _ (ap (λ n. n.policies) c.in_ok-policy_on.ensures.inputs) found;
      profiles = ap (λ n. n.profiles) c.in_ok-policy_on.ensures.inputs ∙ c.loop-id.invariant.profiles;
      scanned = c.in_ok-policy_on.ensures.scanned;
      endpoints = c.in_ok-policy_on.ensures.endpoints ∙ c.loop-id.invariant.endpoints;
    }

pub loop-id-preserved : goal.loop-id-preserved
loop-id-preserved g c =
    let here = subst (IsBrought policy_total exact_policy c.args.touched.now (without c.args.touched.now c.args.policies.now) (map.get c.args.policies.now) c.loop-id.scanner.policies) c.in-Some.ensures.steps c.loop-id.invariant.brought in
    record {
      brought = pass policy_total exact_policy c.args.touched.now _ _ c.loop-id.scanner.policies _ _ here
          (touched_out c.args.touched.now c.args.policies.now _ _ (head_touched policy_total exact_policy c.args.touched.now _ _ c.loop-id.scanner.policies _ _ here) ∙ sym (sym c.get.ensures ∙ ap option_copied c.in_default.is));
      profiles = c.loop-id.invariant.profiles;
      scanned = c.loop-id.invariant.scanned;
      endpoints = c.loop-id.invariant.endpoints;
    }

pub returns-clause-inputs : goal.returns-clause-inputs
returns-clause-inputs g c =
    let all = ended policy_total exact_policy c.args.touched.now _ _ c.loop-id.scanner.policies (subst (IsBrought policy_total exact_policy c.args.touched.now (without c.args.touched.now c.args.policies.now) (map.get c.args.policies.now) c.loop-id.scanner.policies) c.in-None.ensures.steps.0 c.loop-id.invariant.brought) in
    λ j. record { policies = map.same_map policy_total exact_policy c.loop-id.scanner.policies c.args.policies.now all j; profiles = c.loop-id.invariant.profiles j }
