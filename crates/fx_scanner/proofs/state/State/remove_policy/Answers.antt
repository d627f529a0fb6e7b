use Rattle.std.proofs.Common.{◌≡◌, ◌++◌, IsSome, sym, ap, ◌∙◌, subst}
use Rattle.std.specs.FinMap as map
use Rattle.fx_scanner.specs.declared.inputs.Inputs.{Inputs}
use Rattle.fx_scanner.specs.Scanned.{all_uses, uses_of_policy, IsScanned}
use Rattle.fx_scanner.specs.Told.{AreCounts, AreHeld}
use Rattle.fx_scanner.proofs.InputBags.{without_policy}
use Rattle.fx_scanner.proofs.Scanning.{policy_held, policy_there, policy_gone, no_policy}
use Rattle.fx_scanner.proofs.state.State.remove_policy.Goals as goal

pub give_up-requires : goal.give_up-requires
give_up-requires g c =
    let dg = g.R.DigestRule.digest_of in
    let n = c.args.self.now.inputs in
    let id = c.args.id.now in
    let P = g.S.ViewSink.policies c.args.sink.now in
    let Q = g.S.ViewSink.profiles c.args.sink.now in
    let U = g.S.UseSink.uses c.args.sink.now in
    let rest = all_uses (without_policy n id) in (
      rest,
      subst (λ us. AreHeld dg c.args.self.now.counts U (us ++ rest)) (ap uses_of_policy (sym c.remove.ensures.before ∙ c.in-Some.is) ∙ sym (c.deref.ensures.value ∙ c.in_ok-before.ensures.uses))
          (policy_held dg n P Q U c.requires.scanned id c.args.self.now.counts c.requires.kept),
    )

pub policy_gone-requires : goal.policy_gone-requires
policy_gone-requires g c =
    let dg = g.R.DigestRule.digest_of in
    let n = c.args.self.now.inputs in
    let id = c.args.id.now in
    let P = g.S.ViewSink.policies c.args.sink.now in
    subst (λ m. IsSome (map.get m c.in_ok-policy_key.field-0)) (sym c.in_ok-give_up.ensures.policies)
    (subst (λ k. IsSome (map.get P k)) (sym c.in_ok-policy_key.ensures)
    (policy_there dg n P (g.S.ViewSink.profiles c.args.sink.now) (g.S.UseSink.uses c.args.sink.now) c.requires.scanned id c.in-Some.policy (sym c.remove.ensures.before ∙ c.in-Some.is)))

pub returns-in_default-clause-scanned : goal.returns-in_default-clause-scanned
returns-in_default-clause-scanned g c =
    let n = c.args.self.now.inputs in
    let id = c.args.id.now in
    let now : c.remove.new.self ≡ map.remove n.policies id = c.remove.ensures.removed in
    subst (λ m. IsScanned g.R.DigestRule.digest_of (record n { policies = m }) (g.S.ViewSink.policies c.args.sink.now) (g.S.ViewSink.profiles c.args.sink.now) (g.S.UseSink.uses c.args.sink.now)) (sym now)
    (subst (λ (m : Inputs). IsScanned g.R.DigestRule.digest_of m (g.S.ViewSink.policies c.args.sink.now) (g.S.ViewSink.profiles c.args.sink.now) (g.S.UseSink.uses c.args.sink.now)) (no_policy n id (sym c.remove.ensures.before ∙ c.in_default.is)) c.requires.scanned)

pub returns-clause-kept : goal.returns-clause-kept
returns-clause-kept g c =
    let dg = g.R.DigestRule.digest_of in
    let n = c.args.self.now.inputs in
    let id = c.args.id.now in
    let P = g.S.ViewSink.policies c.args.sink.now in
    let Q = g.S.ViewSink.profiles c.args.sink.now in
    let U = g.S.UseSink.uses c.args.sink.now in
    let rest = all_uses (without_policy n id) in
    let held = c.in_ok-give_up.ensures.held rest
    (subst (λ us. AreHeld dg c.args.self.now.counts U (us ++ rest)) (ap uses_of_policy (sym c.remove.ensures.before ∙ c.in-Some.is) ∙ sym (c.deref.ensures.value ∙ c.in_ok-before.ensures.uses))
    (policy_held dg n P Q U c.requires.scanned id c.args.self.now.counts c.requires.kept)) in
    let now : c.remove.new.self ≡ map.remove n.policies id = c.remove.ensures.removed in
    subst (λ m. AreCounts c.give_up.new.counts (all_uses (record n { policies = m }))) (sym now) held.counts_are

pub returns-clause-scanned : goal.returns-clause-scanned
returns-clause-scanned g c =
    let dg = g.R.DigestRule.digest_of in
    let n = c.args.self.now.inputs in
    let id = c.args.id.now in
    let P = g.S.ViewSink.policies c.args.sink.now in
    let Q = g.S.ViewSink.profiles c.args.sink.now in
    let U = g.S.UseSink.uses c.args.sink.now in
    let rest = all_uses (without_policy n id) in
    let held = c.in_ok-give_up.ensures.held rest
    (subst (λ us. AreHeld dg c.args.self.now.counts U (us ++ rest)) (ap uses_of_policy (sym c.remove.ensures.before ∙ c.in-Some.is) ∙ sym (c.deref.ensures.value ∙ c.in_ok-before.ensures.uses))
    (policy_held dg n P Q U c.requires.scanned id c.args.self.now.counts c.requires.kept)) in
    let uses : g.S.UseSink.uses c.policy_gone.new.self ≡ g.S.UseSink.uses c.give_up.new.sink = g.met.S.UseSink.kept _ _ c.in_ok-policy_gone.ensures.others in
    let now : c.remove.new.self ≡ map.remove n.policies id = c.remove.ensures.removed in
    subst (λ m. IsScanned dg (record n { policies = m }) (g.S.ViewSink.policies c.policy_gone.new.self) (g.S.ViewSink.profiles c.policy_gone.new.self) (g.S.UseSink.uses c.policy_gone.new.self)) (sym now)
    (policy_gone dg n P Q U c.requires.scanned id c.in-Some.policy (sym c.remove.ensures.before ∙ c.in-Some.is) c.give_up.new.counts (g.S.UseSink.uses c.policy_gone.new.self)
    (subst (λ u. AreHeld dg c.give_up.new.counts u rest) (sym uses) held) (g.S.ViewSink.policies c.policy_gone.new.self) (g.S.ViewSink.profiles c.policy_gone.new.self)
    (c.in_ok-policy_gone.ensures.policies ∙ (λ j. map.remove (c.in_ok-give_up.ensures.policies j) (c.in_ok-policy_key.ensures j)))
    (c.in_ok-policy_gone.ensures.profiles ∙ c.in_ok-give_up.ensures.profiles))

pub returns-in_default-clause-kept : goal.returns-in_default-clause-kept
returns-in_default-clause-kept g c =
    let n = c.args.self.now.inputs in
    let id = c.args.id.now in
    let now : c.remove.new.self ≡ map.remove n.policies id = c.remove.ensures.removed in
    subst (λ m. AreCounts c.args.self.now.counts (all_uses (record n { policies = m }))) (sym now)
    (subst (λ (m : Inputs). AreCounts c.args.self.now.counts (all_uses m)) (no_policy n id (sym c.remove.ensures.before ∙ c.in_default.is)) c.requires.kept)
