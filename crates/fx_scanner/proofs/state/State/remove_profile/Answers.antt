use Rattle.std.proofs.Common.{◌≡◌, ◌++◌, IsSome, sym, ap, ◌∙◌, subst}
use Rattle.std.specs.FinMap as map
use Rattle.fx_model.specs.Views.{uses_if_there}
use Rattle.fx_scanner.specs.declared.inputs.Inputs.{Inputs}
use Rattle.fx_scanner.specs.Scanned.{all_uses, profile_of, IsScanned}
use Rattle.fx_scanner.specs.Told.{AreCounts, AreHeld}
use Rattle.fx_scanner.proofs.InputBags.{without_profile}
use Rattle.fx_scanner.proofs.Scanning.{profile_held, profile_there, profile_gone, no_profile}
use Rattle.fx_scanner.proofs.state.State.remove_profile.Goals as goal

pub give_up-requires : goal.give_up-requires
give_up-requires g c =
    let dg = g.R.DigestRule.digest_of in
    let n = c.args.self.now.inputs in
    let name = c.args.name.now in
    let P = g.S.ViewSink.policies c.args.sink.now in
    let Q = g.S.ViewSink.profiles c.args.sink.now in
    let U = g.S.UseSink.uses c.args.sink.now in
    let rest = all_uses (without_profile n name) in (
      rest,
      subst (λ us. AreHeld dg c.args.self.now.counts U (us ++ rest)) (ap (λ o. uses_if_there (profile_of o)) (sym c.remove.ensures.before ∙ c.in-Some.is) ∙ sym (c.deref.ensures.value ∙ c.in_ok-before.ensures.uses ∙ ap uses_if_there c.as_ref.ensures.value))
          (profile_held dg n P Q U c.requires.scanned name c.args.self.now.counts c.requires.kept),
    )

pub profile_gone-requires : goal.profile_gone-requires
profile_gone-requires g c =
    let dg = g.R.DigestRule.digest_of in
    let n = c.args.self.now.inputs in
    let name = c.args.name.now in
    let Q = g.S.ViewSink.profiles c.args.sink.now in
    subst (λ m. IsSome (map.get m c.profile_key.result)) (sym c.in_ok-give_up.ensures.profiles)
    (subst (λ k. IsSome (map.get Q k)) (sym c.profile_key.ensures)
    (profile_there dg n (g.S.ViewSink.policies c.args.sink.now) Q (g.S.UseSink.uses c.args.sink.now) c.requires.scanned name c.in-Some.profile (sym c.remove.ensures.before ∙ c.in-Some.is)))

pub returns-in_default-clause-scanned : goal.returns-in_default-clause-scanned
returns-in_default-clause-scanned g c =
    let n = c.args.self.now.inputs in
    let name = c.args.name.now in
    let now : c.remove.new.self ≡ map.remove n.profiles name = c.remove.ensures.removed in
    subst (λ m. IsScanned g.R.DigestRule.digest_of (record n { profiles = m }) (g.S.ViewSink.policies c.args.sink.now) (g.S.ViewSink.profiles c.args.sink.now) (g.S.UseSink.uses c.args.sink.now)) (sym now)
    (subst (λ (m : Inputs). IsScanned g.R.DigestRule.digest_of m (g.S.ViewSink.policies c.args.sink.now) (g.S.ViewSink.profiles c.args.sink.now) (g.S.UseSink.uses c.args.sink.now)) (no_profile n name (sym c.remove.ensures.before ∙ c.in_default.is)) c.requires.scanned)

pub returns-clause-kept : goal.returns-clause-kept
returns-clause-kept g c =
    let dg = g.R.DigestRule.digest_of in
    let n = c.args.self.now.inputs in
    let name = c.args.name.now in
    let P = g.S.ViewSink.policies c.args.sink.now in
    let Q = g.S.ViewSink.profiles c.args.sink.now in
    let U = g.S.UseSink.uses c.args.sink.now in
    let rest = all_uses (without_profile n name) in
    let held = c.in_ok-give_up.ensures.held rest
    (subst (λ us. AreHeld dg c.args.self.now.counts U (us ++ rest)) (ap (λ o. uses_if_there (profile_of o)) (sym c.remove.ensures.before ∙ c.in-Some.is) ∙ sym (c.deref.ensures.value ∙ c.in_ok-before.ensures.uses ∙ ap uses_if_there c.as_ref.ensures.value))
    (profile_held dg n P Q U c.requires.scanned name c.args.self.now.counts c.requires.kept)) in
    let now : c.remove.new.self ≡ map.remove n.profiles name = c.remove.ensures.removed in
    subst (λ m. AreCounts c.give_up.new.counts (all_uses (record n { profiles = m }))) (sym now) held.counts_are

pub returns-clause-scanned : goal.returns-clause-scanned
returns-clause-scanned g c =
    let dg = g.R.DigestRule.digest_of in
    let n = c.args.self.now.inputs in
    let name = c.args.name.now in
    let P = g.S.ViewSink.policies c.args.sink.now in
    let Q = g.S.ViewSink.profiles c.args.sink.now in
    let U = g.S.UseSink.uses c.args.sink.now in
    let rest = all_uses (without_profile n name) in
    let held = c.in_ok-give_up.ensures.held rest
    (subst (λ us. AreHeld dg c.args.self.now.counts U (us ++ rest)) (ap (λ o. uses_if_there (profile_of o)) (sym c.remove.ensures.before ∙ c.in-Some.is) ∙ sym (c.deref.ensures.value ∙ c.in_ok-before.ensures.uses ∙ ap uses_if_there c.as_ref.ensures.value))
    (profile_held dg n P Q U c.requires.scanned name c.args.self.now.counts c.requires.kept)) in
    let uses : g.S.UseSink.uses c.profile_gone.new.self ≡ g.S.UseSink.uses c.give_up.new.sink = g.met.S.UseSink.kept _ _ c.in_ok-profile_gone.ensures.others in
    let now : c.remove.new.self ≡ map.remove n.profiles name = c.remove.ensures.removed in
    subst (λ m. IsScanned dg (record n { profiles = m }) (g.S.ViewSink.policies c.profile_gone.new.self) (g.S.ViewSink.profiles c.profile_gone.new.self) (g.S.UseSink.uses c.profile_gone.new.self)) (sym now)
    (profile_gone dg n P Q U c.requires.scanned name c.in-Some.profile (sym c.remove.ensures.before ∙ c.in-Some.is) c.give_up.new.counts (g.S.UseSink.uses c.profile_gone.new.self)
    (subst (λ u. AreHeld dg c.give_up.new.counts u rest) (sym uses) held) (g.S.ViewSink.policies c.profile_gone.new.self) (g.S.ViewSink.profiles c.profile_gone.new.self)
    (c.in_ok-profile_gone.ensures.policies ∙ c.in_ok-give_up.ensures.policies)
    (c.in_ok-profile_gone.ensures.profiles ∙ (λ j. map.remove (c.in_ok-give_up.ensures.profiles j) (c.profile_key.ensures j))))

pub returns-in_default-clause-kept : goal.returns-in_default-clause-kept
returns-in_default-clause-kept g c =
    let n = c.args.self.now.inputs in
    let name = c.args.name.now in
    let now : c.remove.new.self ≡ map.remove n.profiles name = c.remove.ensures.removed in
    subst (λ m. AreCounts c.args.self.now.counts (all_uses (record n { profiles = m }))) (sym now)
    (subst (λ (m : Inputs). AreCounts c.args.self.now.counts (all_uses m)) (no_profile n name (sym c.remove.ensures.before ∙ c.in_default.is)) c.requires.kept)
