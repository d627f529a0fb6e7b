use Rattle.std.proofs.Common.{sym, ◌∙◌, subst}
use Rattle.fx_scanner.proofs.ApartUses.{fewer}
use Rattle.fx_logs.specs.Touched.{IsTouched}
use Rattle.fx_graph_view.proofs.Withouts.{part_without, without_now}
use Rattle.fx_graph_view.proofs.scanning.scan_through.Goals as goal

pub policies_on-requires-clause-apart : goal.policies_on-requires-clause-apart
policies_on-requires-clause-apart g c =
    let logged = c.args.logged.now in
    let touched = subst (λ m. IsTouched logged.profiles m logged.told.profiles) (sym c.in_ok-policies_off.ensures.profiles) c.requires.profiles in
    let left = without_now logged.profiles c.policies_off.new.scanner.profiles logged.told.profiles c.profiles_off.new.scanner.profiles touched c.in_ok-profiles_off.ensures.profiles in
    fewer g.R.DigestRule.digest_of _ (record { policies = logged.told.policies; profiles = logged.told.profiles }) (record {
      policies_in = λ k x e. e;
      profiles_in = λ n o e. part_without logged.profiles logged.told.profiles n o (sym (left.at n) ∙ e);
    }) c.requires.apart
