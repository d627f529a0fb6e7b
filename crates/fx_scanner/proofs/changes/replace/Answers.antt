use Rattle.std.proofs.Common.{◌++◌, sym, ◌∙◌, subst}
use Rattle.fx_scanner.specs.Told.{AreHeld}
use Rattle.fx_scanner.proofs.Replacing.{kept, held_parted, held_turned, kept_apart}
use Rattle.fx_scanner.proofs.changes.replace.Goals as goal

pub give_up-requires : goal.give_up-requires
give_up-requires g c =
    let dg = g.R.DigestRule.digest_of in
    let has = c.requires.held in
    let before = c.args.before.items in
    let after = c.args.after.now in (
      kept dg before after has.0 ++ has.0,
      subst (λ vs. AreHeld dg c.args.counts.now (g.S.UseSink.uses c.args.sink.now) (vs ++ (kept dg before after has.0 ++ has.0))) (sym (c.deref.ensures.value ∙ c.in_ok-parts.ensures.gone))
          (held_parted dg before after has.0 c.args.counts.now (g.S.UseSink.uses c.args.sink.now) has.1.0),
    )

pub take-requires-clause-held : goal.take-requires-clause-held
take-requires-clause-held g c =
    let dg = g.R.DigestRule.digest_of in
    let has = c.requires.held in
    let before = c.args.before.items in
    let after = c.args.after.now in
    let U = g.S.UseSink.uses c.args.sink.now in
    let rest = kept dg before after has.0 ++ has.0 in (
      rest,
      (
        c.in_ok-give_up.ensures.held rest
            (subst (λ vs. AreHeld dg c.args.counts.now U (vs ++ rest)) (sym (c.deref.ensures.value ∙ c.in_ok-parts.ensures.gone)) (held_parted dg before after has.0 c.args.counts.now U has.1.0)),
        kept_apart dg before after has.0 has.1.1,
      ),
    )

pub give_up-requires-2 : goal.give_up-requires-2
give_up-requires-2 g c =
    let dg = g.R.DigestRule.digest_of in
    let has = c.requires.held in
    let before = c.args.before.items in
    let after = c.args.after.now in
    let U = g.S.UseSink.uses c.args.sink.now in
    let rest = kept dg before after has.0 ++ has.0 in
    let taken = c.in_ok-take.ensures.held rest
    (c.in_ok-give_up.ensures.held rest
    (subst (λ vs. AreHeld dg c.args.counts.now U (vs ++ rest)) (sym (c.deref.ensures.value ∙ c.in_ok-parts.ensures.gone)) (held_parted dg before after has.0 c.args.counts.now U has.1.0)))
    (kept_apart dg before after has.0 has.1.1) in (
      after ++ has.0,
      subst (λ vs. AreHeld dg c.take.new.counts (g.S.UseSink.uses c.take.new.sink) (vs ++ (after ++ has.0))) (sym (c.deref-2.ensures.value ∙ c.in_ok-parts.ensures.kept))
          (held_turned dg before after has.0 c.take.new.counts (g.S.UseSink.uses c.take.new.sink) taken),
    )

pub returns-clause-held : goal.returns-clause-held
returns-clause-held g c = λ others h apart.
    let dg = g.R.DigestRule.digest_of in
    let before = c.args.before.items in
    let after = c.args.after.now in
    let U = g.S.UseSink.uses c.args.sink.now in
    let rest = kept dg before after others ++ others in
    let taken = c.in_ok-take.ensures.held rest
    (c.in_ok-give_up.ensures.held rest
    (subst (λ vs. AreHeld dg c.args.counts.now U (vs ++ rest)) (sym (c.deref.ensures.value ∙ c.in_ok-parts.ensures.gone)) (held_parted dg before after others c.args.counts.now U h)))
    (kept_apart dg before after others apart) in
    c.in_ok-give_up-2.ensures.held (after ++ others)
    (subst (λ vs. AreHeld dg c.take.new.counts (g.S.UseSink.uses c.take.new.sink) (vs ++ (after ++ others))) (sym (c.deref-2.ensures.value ∙ c.in_ok-parts.ensures.kept))
    (held_turned dg before after others c.take.new.counts (g.S.UseSink.uses c.take.new.sink) taken))
