use Rattle.std.proofs.Common.{◌≡◌, List, ◌++◌, sym, ap, ◌∙◌, subst}
use Rattle.std.specs.List.{AllByRecursion}
use Rattle.std.specs.FinMap as map
use Rattle.std.specs.Option.{option_copied}
use Rattle.fx_model.specs.Sets.{AreSelectors, IsUse}
use Rattle.fx_model.specs.Views.{uses_if_there}
use Rattle.fx_model.specs.declared.set_use.SetUse.{SetUse}
use Rattle.fx_scanner.specs.Scanned.{all_uses, profile_of, IsScanned}
use Rattle.fx_scanner.specs.Told.{AreCounts, AreHeld, AreApartFrom}
use Rattle.fx_scanner.proofs.Entering.{profile_formed}
use Rattle.fx_scanner.proofs.InputBags.{without_profile}
use Rattle.fx_scanner.proofs.Scanning.{profile_held, profile_counted, profile_put, profile_apart_from}
use Rattle.fx_scanner.proofs.state.State.put_profile.Goals as goal

pub replace-requires-clause-formed : goal.replace-requires-clause-formed
replace-requires-clause-formed g c = subst (AllByRecursion IsUse) (sym (c.deref.ensures.value ∙ c.in_ok-after.ensures.uses)) (profile_formed (option_copied c.args.profile))

pub replace-requires-clause-selectors : goal.replace-requires-clause-selectors
replace-requires-clause-selectors g c = subst AreSelectors (sym c.deref.ensures.value) c.in_ok-after.ensures.selectors

pub replace-requires-clause-held : goal.replace-requires-clause-held
replace-requires-clause-held g c =
    let dg = g.R.DigestRule.digest_of in
    let n = c.args.self.now.inputs in
    let name = c.args.name.now in
    let counts = c.args.self.now.counts in
    let U = g.S.UseSink.uses c.args.sink.now in
    let rest = all_uses (without_profile n name) in
    let before = c.in_ok-before.ensures.uses ∙ ap uses_if_there (c.profile_of.ensures ∙ ap profile_of c.get-active.ensures) in
    let after = c.deref.ensures.value ∙ c.in_ok-after.ensures.uses in (
      rest,
      (
        subst (λ us. AreHeld dg counts U (us ++ rest)) (sym before)
            (profile_held dg n (g.S.ViewSink.policies c.args.sink.now) (g.S.ViewSink.profiles c.args.sink.now) U c.requires.scanned name counts c.requires.kept),
        subst (λ us. AreApartFrom dg us rest) (sym after) (profile_apart_from dg n name (option_copied c.args.profile) c.requires.apart),
      ),
    )

pub returns-clause-kept : goal.returns-clause-kept
returns-clause-kept g c =
    let dg = g.R.DigestRule.digest_of in
    let n = c.args.self.now.inputs in
    let name = c.args.name.now in
    let p = option_copied c.args.profile in
    let P = g.S.ViewSink.policies c.args.sink.now in
    let Q = g.S.ViewSink.profiles c.args.sink.now in
    let U = g.S.UseSink.uses c.args.sink.now in
    let rest = all_uses (without_profile n name) in
    let before = c.in_ok-before.ensures.uses ∙ ap uses_if_there (c.profile_of.ensures ∙ ap profile_of c.get-active.ensures) in
    let after = c.deref.ensures.value ∙ c.in_ok-after.ensures.uses in
    let held = c.in_ok-replace.ensures.held rest
    (subst (λ us. AreHeld dg c.args.self.now.counts U (us ++ rest)) (sym before) (profile_held dg n P Q U c.requires.scanned name c.args.self.now.counts c.requires.kept))
    (subst (λ us. AreApartFrom dg us rest) (sym after) (profile_apart_from dg n name p c.requires.apart)) in
    let now : c.insert.new.self ≡ map.insert n.profiles name p = c.in_ok-insert.ensures.ok ∙ (λ j. map.insert n.profiles (c.in_ok-clone.ensures.cases j) (c.in_ok-own.ensures j)) in
    subst (λ m. AreCounts c.replace.new.counts (all_uses (record n { profiles = m }))) (sym now)
    (profile_counted dg n P Q U c.requires.scanned name p c.replace.new.counts (g.S.UseSink.uses c.replace.new.sink) (subst (λ us. AreHeld dg c.replace.new.counts (g.S.UseSink.uses c.replace.new.sink) (us ++ rest)) after held))

pub returns-clause-scanned : goal.returns-clause-scanned
returns-clause-scanned g c =
    let dg = g.R.DigestRule.digest_of in
    let n = c.args.self.now.inputs in
    let name = c.args.name.now in
    let p = option_copied c.args.profile in
    let P = g.S.ViewSink.policies c.args.sink.now in
    let Q = g.S.ViewSink.profiles c.args.sink.now in
    let U = g.S.UseSink.uses c.args.sink.now in
    let rest = all_uses (without_profile n name) in
    let before = c.in_ok-before.ensures.uses ∙ ap uses_if_there (c.profile_of.ensures ∙ ap profile_of c.get-active.ensures) in
    let after = c.deref.ensures.value ∙ c.in_ok-after.ensures.uses in
    let held = c.in_ok-replace.ensures.held rest
    (subst (λ us. AreHeld dg c.args.self.now.counts U (us ++ rest)) (sym before) (profile_held dg n P Q U c.requires.scanned name c.args.self.now.counts c.requires.kept))
    (subst (λ us. AreApartFrom dg us rest) (sym after) (profile_apart_from dg n name p c.requires.apart)) in
    let told = subst (λ (us : List SetUse). AreHeld dg c.replace.new.counts (g.S.UseSink.uses c.tell_profile.new.sink) (us ++ rest)) after
    (subst (λ u. AreHeld dg c.replace.new.counts u (c.deref.result.now ++ rest)) (sym c.in_ok-tell_profile.ensures.uses) held) in
    let now : c.insert.new.self ≡ map.insert n.profiles name p = c.in_ok-insert.ensures.ok ∙ (λ j. map.insert n.profiles (c.in_ok-clone.ensures.cases j) (c.in_ok-own.ensures j)) in
    subst (λ m. IsScanned dg (record n { profiles = m }) (g.S.ViewSink.policies c.tell_profile.new.sink) (g.S.ViewSink.profiles c.tell_profile.new.sink) (g.S.UseSink.uses c.tell_profile.new.sink)) (sym now)
    (profile_put dg n P Q U c.requires.scanned name p c.replace.new.counts (g.S.UseSink.uses c.tell_profile.new.sink) told c.requires.apart
    (g.S.ViewSink.policies c.tell_profile.new.sink) (g.S.ViewSink.profiles c.tell_profile.new.sink)
    (c.in_ok-tell_profile.ensures.policies ∙ c.in_ok-replace.ensures.policies)
    (c.in_ok-tell_profile.ensures.profiles
    ∙ (λ j. map.insert (c.in_ok-replace.ensures.profiles j) (c.profile_key-key.ensures j) (c.in_ok-view_profile.ensures j))))
