use Rattle.std.proofs.Common.{◌≡◌, ap, sym, ◌∙◌, subst}
use Rattle.std.specs.FinMap as map
use Rattle.fx_scanner.specs.declared.inputs.Inputs.{Inputs}
use Rattle.fx_scanner.specs.declared.state.State.{State}
use Rattle.fx_scanner.specs.Apart.{IsApart}
use Rattle.fx_scanner.specs.Scanned.{IsScanned}
use Rattle.fx_scanner.proofs.scanner.RuleScanner.policy_on.Goals as goal

pub put_policy-requires-clause-apart : goal.put_policy-requires-clause-apart
put_policy-requires-clause-apart g c =
    let same : c.replace-state.result.inputs ≡ c.args.self.now = ap (λ (s : State). s.inputs) c.replace-state.ensures.value ∙ c.self.view_is in
    subst (λ (n : Inputs). IsApart g.R.DigestRule.digest_of (record n { policies = map.insert n.policies c.args.id.now c.args.policy.now })) (sym same) c.requires.apart

pub put_policy-requires-clause-scanned : goal.put_policy-requires-clause-scanned
put_policy-requires-clause-scanned g c =
    let same : c.replace-state.result.inputs ≡ c.args.self.now = ap (λ (s : State). s.inputs) c.replace-state.ensures.value ∙ c.self.view_is in
    subst (λ (n : Inputs). IsScanned g.R.DigestRule.digest_of n (g.S.ViewSink.policies c.args.sink.now) (g.S.ViewSink.profiles c.args.sink.now) (g.S.UseSink.uses c.args.sink.now)) (sym same) c.requires.scanned
