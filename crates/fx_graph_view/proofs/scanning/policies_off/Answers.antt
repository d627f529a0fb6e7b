use Rattle.std.proofs.Common.{refl, sym, ap, ◌∙◌, subst}
use Rattle.std.specs.FinMap as map
use Rattle.fx_model.proofs.Orders.{policy_total, exact_policy}
use Rattle.fx_graph_view.proofs.Brought.{IsBrought, begun, head_touched, off, ended}
use Rattle.fx_graph_view.proofs.Withouts.{without, untouched_out, touched_out}
use Rattle.fx_graph_view.proofs.scanning.policies_off.Goals as goal

pub loop-id-init : goal.loop-id-init
loop-id-init g c = record {
  brought = subst (IsBrought policy_total exact_policy c.args.touched.now (map.get c.args.scanner.now.policies) (without c.args.touched.now c.args.scanner.now.policies) c.args.scanner.now.policies)
      (sym (c.into_iter-id-iterator.ensures.into_iter_gives ∙ c.iter-id-items.ensures))
      (begun policy_total exact_policy c.args.touched.now _ _ c.args.scanner.now.policies (λ k. refl) (untouched_out c.args.touched.now c.args.scanner.now.policies));
  profiles = refl;
  scanned = c.requires;
  endpoints = refl;
}

pub loop-id-preserved : goal.loop-id-preserved
loop-id-preserved g c =
    let here = subst (IsBrought policy_total exact_policy c.args.touched.now (map.get c.args.scanner.now.policies) (without c.args.touched.now c.args.scanner.now.policies) c.loop-id.scanner.policies) c.in-Some.ensures.steps c.loop-id.invariant.brought in
    record {
      brought = off policy_total exact_policy c.args.touched.now _ _ c.loop-id.scanner.policies _ _ here c.policy_off.new.self.policies (ap (λ n. n.policies) c.in_ok-policy_off.ensures.inputs)
          (touched_out c.args.touched.now c.args.scanner.now.policies _ _ (head_touched policy_total exact_policy c.args.touched.now _ _ c.loop-id.scanner.policies _ _ here));
      profiles = ap (λ n. n.profiles) c.in_ok-policy_off.ensures.inputs ∙ c.loop-id.invariant.profiles;
      scanned = c.in_ok-policy_off.ensures.scanned;
      endpoints = c.in_ok-policy_off.ensures.endpoints ∙ c.loop-id.invariant.endpoints;
    }

pub returns-clause-policies : goal.returns-clause-policies
returns-clause-policies g c = record {
  at = ended policy_total exact_policy c.args.touched.now _ _ c.loop-id.scanner.policies (subst (IsBrought policy_total exact_policy c.args.touched.now (map.get c.args.scanner.now.policies) (without c.args.touched.now c.args.scanner.now.policies) c.loop-id.scanner.policies) c.in-None.ensures.steps.0 c.loop-id.invariant.brought);
}
