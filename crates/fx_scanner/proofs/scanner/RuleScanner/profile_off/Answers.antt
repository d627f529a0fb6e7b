use Rattle.std.proofs.Common.{◌≡◌, ap, sym, ◌∙◌, subst}
use Rattle.fx_scanner.specs.declared.inputs.Inputs.{Inputs}
use Rattle.fx_scanner.specs.declared.state.State.{State}
use Rattle.fx_scanner.specs.Scanned.{IsScanned}
use Rattle.fx_scanner.proofs.scanner.RuleScanner.profile_off.Goals as goal

pub remove_profile-requires-clause-scanned : goal.remove_profile-requires-clause-scanned
remove_profile-requires-clause-scanned g c =
    let same : c.replace-state.result.inputs ≡ c.args.self.now = ap (λ (s : State). s.inputs) c.replace-state.ensures.value ∙ c.self.view_is in
    subst (λ (n : Inputs). IsScanned g.R.DigestRule.digest_of n (g.S.ViewSink.policies c.args.sink.now) (g.S.ViewSink.profiles c.args.sink.now) (g.S.UseSink.uses c.args.sink.now)) (sym same) c.requires
