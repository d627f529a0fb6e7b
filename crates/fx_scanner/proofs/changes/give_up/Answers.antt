use Rattle.std.proofs.Common.{◌+◌, ◌++◌, drop, refl, ◌∙◌, subst}
use Rattle.std.proofs.lemmas.List.{drop_all}
use Rattle.fx_scanner.specs.Told.{AreHeld}
use Rattle.fx_scanner.proofs.Walking.{rest_at}
use Rattle.fx_scanner.proofs.changes.give_up.Goals as goal

pub loop-set-init : goal.loop-set-init
loop-set-init g c = record { held = λ others h. h; policies = refl; profiles = refl; endpoints = refl }

pub give_up_one-requires : goal.give_up_one-requires
give_up_one-requires g c =
    let dg = g.R.DigestRule.digest_of in
    let us = c.args.sets.now in
    let i = c.loop-set.set-index in
    let has = c.requires in (
      drop (i + 1) us ++ has.0,
      subst (λ vs. AreHeld dg c.loop-set.counts (g.S.UseSink.uses c.loop-set.sink) (vs ++ has.0)) (rest_at us i c.set-item.result c.loop-set-test.true c.set-item.is) (c.loop-set.invariant.held has.0 has.1),
    )

pub loop-set-preserved : goal.loop-set-preserved
loop-set-preserved g c =
    let dg = g.R.DigestRule.digest_of in
    let us = c.args.sets.now in
    let i = c.loop-set.set-index in
    let was = c.loop-set.invariant in
    let is = c.in_ok-give_up_one.ensures in
    record {
      held = λ others h.
          is.held (drop (i + 1) us ++ others)
          (subst (λ vs. AreHeld dg c.loop-set.counts (g.S.UseSink.uses c.loop-set.sink) (vs ++ others)) (rest_at us i c.set-item.result c.loop-set-test.true c.set-item.is) (was.held others h));
      policies = is.policies ∙ was.policies;
      profiles = is.profiles ∙ was.profiles;
      endpoints = is.endpoints ∙ was.endpoints;
    }

pub returns-clause-held : goal.returns-clause-held
returns-clause-held g c = λ others h.
    subst (λ vs. AreHeld g.R.DigestRule.digest_of c.loop-set.counts (g.S.UseSink.uses c.loop-set.sink) (vs ++ others)) (drop_all c.loop-set.set-index c.args.sets.now c.loop-set-test.false) (c.loop-set.invariant.held others h)
