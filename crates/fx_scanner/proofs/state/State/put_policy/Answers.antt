use Rattle.std.proofs.Common.{◌≡◌, List, ◌++◌, Some, sym, ap, ◌∙◌, subst}
use Rattle.std.specs.List.{AllByRecursion}
use Rattle.std.specs.FinMap as map
use Rattle.fx_model.specs.SameIds.{copies_policy_id}
use Rattle.fx_model.specs.Sets.{AreSelectors, IsUse}
use Rattle.fx_model.specs.declared.set_use.SetUse.{SetUse}
use Rattle.fx_scanner.specs.Scanned.{all_uses, uses_of_policy, IsScanned}
use Rattle.fx_scanner.specs.Told.{AreCounts, AreHeld, AreApartFrom}
use Rattle.fx_scanner.proofs.Entering.{policy_formed}
use Rattle.fx_scanner.proofs.InputBags.{without_policy}
use Rattle.fx_scanner.proofs.Scanning.{policy_held, policy_counted, policy_put, policy_apart_from}
use Rattle.fx_scanner.proofs.state.State.put_policy.Goals as goal

pub replace-requires-clause-formed : goal.replace-requires-clause-formed
replace-requires-clause-formed g c = subst (AllByRecursion IsUse) (sym (c.deref.ensures.value ∙ c.in_ok-after.ensures.uses)) (policy_formed (Some c.args.policy.now))

pub replace-requires-clause-selectors : goal.replace-requires-clause-selectors
replace-requires-clause-selectors g c = subst AreSelectors (sym c.deref.ensures.value) c.in_ok-after.ensures.selectors

pub replace-requires-clause-held : goal.replace-requires-clause-held
replace-requires-clause-held g c =
    let dg = g.R.DigestRule.digest_of in
    let n = c.args.self.now.inputs in
    let id = c.args.id.now in
    let counts = c.args.self.now.counts in
    let U = g.S.UseSink.uses c.args.sink.now in
    let rest = all_uses (without_policy n id) in
    let before = c.in_ok-before.ensures.uses ∙ ap uses_of_policy c.get.ensures in
    let after = c.deref.ensures.value ∙ c.in_ok-after.ensures.uses in (
      rest,
      (
        subst (λ us. AreHeld dg counts U (us ++ rest)) (sym before)
            (policy_held dg n (g.S.ViewSink.policies c.args.sink.now) (g.S.ViewSink.profiles c.args.sink.now) U c.requires.scanned id counts c.requires.kept),
        subst (λ us. AreApartFrom dg us rest) (sym after) (policy_apart_from dg n id c.args.policy.now c.requires.apart),
      ),
    )

pub returns-clause-kept : goal.returns-clause-kept
returns-clause-kept g c =
    let dg = g.R.DigestRule.digest_of in
    let n = c.args.self.now.inputs in
    let id = c.args.id.now in
    let p = c.args.policy.now in
    let P = g.S.ViewSink.policies c.args.sink.now in
    let Q = g.S.ViewSink.profiles c.args.sink.now in
    let U = g.S.UseSink.uses c.args.sink.now in
    let rest = all_uses (without_policy n id) in
    let before = c.in_ok-before.ensures.uses ∙ ap uses_of_policy c.get.ensures in
    let after = c.deref.ensures.value ∙ c.in_ok-after.ensures.uses in
    let held = c.in_ok-replace.ensures.held rest
    (subst (λ us. AreHeld dg c.args.self.now.counts U (us ++ rest)) (sym before) (policy_held dg n P Q U c.requires.scanned id c.args.self.now.counts c.requires.kept))
    (subst (λ us. AreApartFrom dg us rest) (sym after) (policy_apart_from dg n id p c.requires.apart)) in
    let now : c.insert.new.self ≡ map.insert n.policies id p = c.in_ok-insert.ensures.ok ∙ (λ j. map.insert n.policies (copies_policy_id _ _ c.in_ok-clone.ensures.cases j) (c.in_ok-clone-2.ensures.cases j)) in
    subst (λ m. AreCounts c.replace.new.counts (all_uses (record n { policies = m }))) (sym now)
    (policy_counted dg n P Q U c.requires.scanned id p c.replace.new.counts (g.S.UseSink.uses c.replace.new.sink) (subst (λ us. AreHeld dg c.replace.new.counts (g.S.UseSink.uses c.replace.new.sink) (us ++ rest)) after held))

pub returns-clause-scanned : goal.returns-clause-scanned
returns-clause-scanned g c =
    let dg = g.R.DigestRule.digest_of in
    let n = c.args.self.now.inputs in
    let id = c.args.id.now in
    let p = c.args.policy.now in
    let P = g.S.ViewSink.policies c.args.sink.now in
    let Q = g.S.ViewSink.profiles c.args.sink.now in
    let U = g.S.UseSink.uses c.args.sink.now in
    let rest = all_uses (without_policy n id) in
    let before = c.in_ok-before.ensures.uses ∙ ap uses_of_policy c.get.ensures in
    let after = c.deref.ensures.value ∙ c.in_ok-after.ensures.uses in
    let held = c.in_ok-replace.ensures.held rest
    (subst (λ us. AreHeld dg c.args.self.now.counts U (us ++ rest)) (sym before) (policy_held dg n P Q U c.requires.scanned id c.args.self.now.counts c.requires.kept))
    (subst (λ us. AreApartFrom dg us rest) (sym after) (policy_apart_from dg n id p c.requires.apart)) in
    let told = subst (λ (us : List SetUse). AreHeld dg c.replace.new.counts (g.S.UseSink.uses c.tell_policy.new.sink) (us ++ rest)) after
    (subst (λ u. AreHeld dg c.replace.new.counts u (c.deref.result.now ++ rest)) (sym c.in_ok-tell_policy.ensures.uses) held) in
    let now : c.insert.new.self ≡ map.insert n.policies id p = c.in_ok-insert.ensures.ok ∙ (λ j. map.insert n.policies (copies_policy_id _ _ c.in_ok-clone.ensures.cases j) (c.in_ok-clone-2.ensures.cases j)) in
    subst (λ m. IsScanned dg (record n { policies = m }) (g.S.ViewSink.policies c.tell_policy.new.sink) (g.S.ViewSink.profiles c.tell_policy.new.sink) (g.S.UseSink.uses c.tell_policy.new.sink)) (sym now)
    (policy_put dg n P Q U c.requires.scanned id p c.replace.new.counts (g.S.UseSink.uses c.tell_policy.new.sink) told c.requires.apart
    (g.S.ViewSink.policies c.tell_policy.new.sink) (g.S.ViewSink.profiles c.tell_policy.new.sink)
    (c.in_ok-tell_policy.ensures.policies
    ∙ (λ j. map.insert (c.in_ok-replace.ensures.policies j) (c.in_ok-key.ensures j) (c.in_ok-view_policy.ensures j)))
    (c.in_ok-tell_policy.ensures.profiles ∙ c.in_ok-replace.ensures.profiles))

pub returns-clause-inputs : goal.returns-clause-inputs
returns-clause-inputs g c =
    let n = c.args.self.now.inputs in
    let now : c.insert.new.self ≡ map.insert n.policies c.args.id.now c.args.policy.now = c.in_ok-insert.ensures.ok ∙ (λ j. map.insert n.policies (copies_policy_id _ _ c.in_ok-clone.ensures.cases j) (c.in_ok-clone-2.ensures.cases j)) in
    ap (λ m. record n { policies = m }) now
