use Rattle.std.proofs.Common.{◌+◌, ◌++◌, take, refl, ◌∙◌, subst}
use Rattle.std.proofs.lemmas.List.{take_all}
use Rattle.fx_selector.specs.Tree.{IsSelector}
use Rattle.fx_model.specs.Sets.{IsUse}
use Rattle.fx_scanner.specs.Told.{AreHeld}
use Rattle.fx_scanner.proofs.Bags.{one_more}
use Rattle.fx_scanner.proofs.TellSteps.{held_same}
use Rattle.fx_scanner.proofs.Walking.{at_place, apart_at}
use Rattle.fx_scanner.proofs.changes.take.Goals as goal

pub loop-set-init : goal.loop-set-init
loop-set-init g c = record { held = λ others h apart. h; policies = refl; profiles = refl; endpoints = refl }

pub take_one-requires-clause-formed : goal.take_one-requires-clause-formed
take_one-requires-clause-formed g c = at_place IsUse c.args.sets.now c.loop-set.set-index c.set-item.result c.loop-set-test.true c.set-item.is c.requires.formed

pub take_one-requires-clause-selector : goal.take_one-requires-clause-selector
take_one-requires-clause-selector g c = at_place (λ u. IsSelector u.selector) c.args.sets.now c.loop-set.set-index c.set-item.result c.loop-set-test.true c.set-item.is c.requires.selectors

pub take_one-requires-clause-held : goal.take_one-requires-clause-held
take_one-requires-clause-held g c =
    let has = c.requires.held in (
      take c.loop-set.set-index c.args.sets.now ++ has.0,
      (
        c.loop-set.invariant.held has.0 has.1.0 has.1.1,
        apart_at g.R.DigestRule.digest_of c.args.sets.now has.0 c.loop-set.set-index c.set-item.result c.loop-set-test.true c.set-item.is has.1.1,
      ),
    )

pub loop-set-preserved : goal.loop-set-preserved
loop-set-preserved g c =
    let dg = g.R.DigestRule.digest_of in
    let us = c.args.sets.now in
    let i = c.loop-set.set-index in
    let u = c.set-item.result in
    let was = c.loop-set.invariant in
    let is = c.in_ok-take_one.ensures in
    record {
      held = λ others h apart.
          held_same dg c.take_one.new.counts (g.S.UseSink.uses c.take_one.new.sink) _ (take (i + 1) us ++ others) (one_more us others i u c.loop-set-test.true c.set-item.is)
          (is.held (take i us ++ others) (was.held others h apart) (apart_at dg us others i u c.loop-set-test.true c.set-item.is apart));
      policies = is.policies ∙ was.policies;
      profiles = is.profiles ∙ was.profiles;
      endpoints = is.endpoints ∙ was.endpoints;
    }

pub returns-clause-held : goal.returns-clause-held
returns-clause-held g c = λ others h apart.
    subst (λ vs. AreHeld g.R.DigestRule.digest_of c.loop-set.counts (g.S.UseSink.uses c.loop-set.sink) (vs ++ others)) (take_all c.loop-set.set-index c.args.sets.now c.loop-set-test.false) (c.loop-set.invariant.held others h apart)
