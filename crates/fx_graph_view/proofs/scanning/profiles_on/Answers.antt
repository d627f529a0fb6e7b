use Rattle.std.proofs.Common.{Some, refl, sym, ap, ◌∙◌, subst}
use Rattle.std.specs.Option.{option_copied}
use Rattle.std.specs.FinMap as map
use Rattle.std.specs.Cmp.Lexicographic.{nat_list_cmp_total}
use Rattle.fx_base.proofs.KeyCases.{bytes_exact}
use Rattle.fx_scanner.proofs.ApartUses.{fewer}
use Rattle.fx_graph_view.proofs.Brought.{IsBrought, begun, head_touched, put, pass, ended, on_the_way}
use Rattle.fx_graph_view.proofs.Withouts.{without, untouched_in, touched_out, part_without}
use Rattle.fx_graph_view.proofs.scanning.profiles_on.Goals as goal

pub loop-name-init : goal.loop-name-init
loop-name-init g c = record {
  brought = subst (IsBrought nat_list_cmp_total bytes_exact c.args.touched.now (without c.args.touched.now c.args.profiles.now) (map.get c.args.profiles.now) c.args.scanner.now.profiles)
      (sym (c.into_iter-name-iterator.ensures.into_iter_gives ∙ c.iter-name-items.ensures))
      (begun nat_list_cmp_total bytes_exact c.args.touched.now _ _ c.args.scanner.now.profiles (λ k. sym (c.requires.without.at k)) (untouched_in c.args.touched.now c.args.profiles.now));
  policies = refl;
  scanned = c.requires.scanned;
  endpoints = refl;
}

pub profile_on-requires-clause-apart : goal.profile_on-requires-clause-apart
profile_on-requires-clause-apart g c =
    let here = subst (IsBrought nat_list_cmp_total bytes_exact c.args.touched.now (without c.args.touched.now c.args.profiles.now) (map.get c.args.profiles.now) c.loop-name.scanner.profiles) c.in-Some.ensures.steps c.loop-name.invariant.brought in
    let found = sym c.get.ensures ∙ ap option_copied c.in-Some-get.is ∙ ap Some (sym c.as_ref.ensures.value) in
    let next = put nat_list_cmp_total bytes_exact c.args.touched.now _ _ c.loop-name.scanner.profiles _ _ here _ _ refl found in
    fewer g.R.DigestRule.digest_of _ (record c.args.scanner.now { profiles = c.args.profiles.now }) (record {
      profiles_in = on_the_way nat_list_cmp_total bytes_exact c.args.touched.now _ _ (map.get c.args.profiles.now) _ _ (part_without c.args.touched.now c.args.profiles.now) (λ k x e. e) next;
      policies_in = λ n o e. ap (λ m. map.get m n) (sym c.loop-name.invariant.policies) ∙ e;
    }) c.requires.apart

pub loop-name-preserved-in-Continue-1 : goal.loop-name-preserved-in-Continue-1
loop-name-preserved-in-Continue-1 g c =
    let here = subst (IsBrought nat_list_cmp_total bytes_exact c.args.touched.now (without c.args.touched.now c.args.profiles.now) (map.get c.args.profiles.now) c.loop-name.scanner.profiles) c.in-Some.ensures.steps c.loop-name.invariant.brought in
    let found = sym c.get.ensures ∙ ap option_copied c.in-Some-get.is ∙ ap Some (sym c.as_ref.ensures.value) in
    record {
      brought = put nat_list_cmp_total bytes_exact c.args.touched.now _ _ c.loop-name.scanner.profiles _ _ here c.profile_on.new.self.profiles _ (ap (λ n. n.profiles) c.in_ok-profile_on.ensures.inputs) found;
      policies = ap (λ n. n.policies) c.in_ok-profile_on.ensures.inputs ∙ c.loop-name.invariant.policies;
      scanned = c.in_ok-profile_on.ensures.scanned;
      endpoints = c.in_ok-profile_on.ensures.endpoints ∙ c.loop-name.invariant.endpoints;
    }

pub loop-name-preserved : goal.loop-name-preserved
loop-name-preserved g c =
    let here = subst (IsBrought nat_list_cmp_total bytes_exact c.args.touched.now (without c.args.touched.now c.args.profiles.now) (map.get c.args.profiles.now) c.loop-name.scanner.profiles) c.in-Some.ensures.steps c.loop-name.invariant.brought in
    record {
      brought = pass nat_list_cmp_total bytes_exact c.args.touched.now _ _ c.loop-name.scanner.profiles _ _ here
          (touched_out c.args.touched.now c.args.profiles.now _ _ (head_touched nat_list_cmp_total bytes_exact c.args.touched.now _ _ c.loop-name.scanner.profiles _ _ here) ∙ sym (sym c.get.ensures ∙ ap option_copied c.in_default.is));
      policies = c.loop-name.invariant.policies;
      scanned = c.loop-name.invariant.scanned;
      endpoints = c.loop-name.invariant.endpoints;
    }

pub returns-clause-inputs : goal.returns-clause-inputs
returns-clause-inputs g c =
    let all = ended nat_list_cmp_total bytes_exact c.args.touched.now _ _ c.loop-name.scanner.profiles (subst (IsBrought nat_list_cmp_total bytes_exact c.args.touched.now (without c.args.touched.now c.args.profiles.now) (map.get c.args.profiles.now) c.loop-name.scanner.profiles) c.in-None.ensures.steps.0 c.loop-name.invariant.brought) in
    λ j. record { profiles = map.same_map nat_list_cmp_total bytes_exact c.loop-name.scanner.profiles c.args.profiles.now all j; policies = c.loop-name.invariant.policies j }
