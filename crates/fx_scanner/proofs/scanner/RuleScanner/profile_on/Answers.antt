use Rattle.std.proofs.Common.{◌≡◌, ap, sym, ◌∙◌, subst}
use Rattle.std.specs.Option.{option_copied}
use Rattle.std.specs.FinMap as map
use Rattle.fx_scanner.specs.declared.inputs.Inputs.{Inputs}
use Rattle.fx_scanner.specs.declared.state.State.{State}
use Rattle.fx_scanner.specs.Apart.{IsApart}
use Rattle.fx_scanner.specs.Scanned.{IsScanned}
use Rattle.fx_scanner.proofs.scanner.RuleScanner.profile_on.Goals as goal

pub put_profile-requires-clause-apart : goal.put_profile-requires-clause-apart
put_profile-requires-clause-apart g c =
    let same : c.replace-state.result.inputs ≡ c.args.self.now = ap (λ (s : State). s.inputs) c.replace-state.ensures.value ∙ c.self.view_is in
    subst (λ (n : Inputs). IsApart g.R.DigestRule.digest_of (record n { profiles = map.insert n.profiles c.args.name.now (option_copied c.args.profile) })) (sym same) c.requires.apart

pub put_profile-requires-clause-scanned : goal.put_profile-requires-clause-scanned
put_profile-requires-clause-scanned g c =
    let same : c.replace-state.result.inputs ≡ c.args.self.now = ap (λ (s : State). s.inputs) c.replace-state.ensures.value ∙ c.self.view_is in
    subst (λ (n : Inputs). IsScanned g.R.DigestRule.digest_of n (g.S.ViewSink.policies c.args.sink.now) (g.S.ViewSink.profiles c.args.sink.now) (g.S.UseSink.uses c.args.sink.now)) (sym same) c.requires.scanned
