use Rattle.std.proofs.Common.{refl, sym, ap, ◌∙◌, subst}
use Rattle.std.specs.FinMap as map
use Rattle.std.specs.Cmp.Lexicographic.{nat_list_cmp_total}
use Rattle.fx_base.proofs.KeyCases.{bytes_exact}
use Rattle.fx_graph_view.proofs.Brought.{IsBrought, begun, head_touched, off, ended}
use Rattle.fx_graph_view.proofs.Withouts.{without, untouched_out, touched_out}
use Rattle.fx_graph_view.proofs.scanning.profiles_off.Goals as goal

pub loop-name-init : goal.loop-name-init
loop-name-init g c = record {
  brought = subst (IsBrought nat_list_cmp_total bytes_exact c.args.touched.now (map.get c.args.scanner.now.profiles) (without c.args.touched.now c.args.scanner.now.profiles) c.args.scanner.now.profiles)
      (sym (c.into_iter-name-iterator.ensures.into_iter_gives ∙ c.iter-name-items.ensures))
      (begun nat_list_cmp_total bytes_exact c.args.touched.now _ _ c.args.scanner.now.profiles (λ k. refl) (untouched_out c.args.touched.now c.args.scanner.now.profiles));
  policies = refl;
  scanned = c.requires;
  endpoints = refl;
}

pub loop-name-preserved : goal.loop-name-preserved
loop-name-preserved g c =
    let here = subst (IsBrought nat_list_cmp_total bytes_exact c.args.touched.now (map.get c.args.scanner.now.profiles) (without c.args.touched.now c.args.scanner.now.profiles) c.loop-name.scanner.profiles) c.in-Some.ensures.steps c.loop-name.invariant.brought in
    record {
      brought = off nat_list_cmp_total bytes_exact c.args.touched.now _ _ c.loop-name.scanner.profiles _ _ here c.profile_off.new.self.profiles (ap (λ n. n.profiles) c.in_ok-profile_off.ensures.inputs)
          (touched_out c.args.touched.now c.args.scanner.now.profiles _ _ (head_touched nat_list_cmp_total bytes_exact c.args.touched.now _ _ c.loop-name.scanner.profiles _ _ here));
      policies = ap (λ n. n.policies) c.in_ok-profile_off.ensures.inputs ∙ c.loop-name.invariant.policies;
      scanned = c.in_ok-profile_off.ensures.scanned;
      endpoints = c.in_ok-profile_off.ensures.endpoints ∙ c.loop-name.invariant.endpoints;
    }

pub returns-clause-profiles : goal.returns-clause-profiles
returns-clause-profiles g c = record {
  at = ended nat_list_cmp_total bytes_exact c.args.touched.now _ _ c.loop-name.scanner.profiles (subst (IsBrought nat_list_cmp_total bytes_exact c.args.touched.now (map.get c.args.scanner.now.profiles) (without c.args.touched.now c.args.scanner.now.profiles) c.loop-name.scanner.profiles) c.in-None.ensures.steps.0 c.loop-name.invariant.brought);
}
