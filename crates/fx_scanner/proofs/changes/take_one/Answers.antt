use Rattle.std.proofs.Common.{◌≡◌, ◌+◌, ◌==◌, ◌∷◌, ap, sym, ◌∙◌, subst}
use Rattle.std.specs.FinMap as maps
use Rattle.fx_base.specs.SetName.{kind_of}
use Rattle.fx_scanner.specs.Told.{AreHeld}
use Rattle.fx_scanner.specs.Uses.{Counts, count_at, use_key}
use Rattle.fx_scanner.proofs.SameUses.{kind_is}
use Rattle.fx_scanner.proofs.TellSteps.{first_is_absent, held_first, held_again}
use Rattle.fx_scanner.proofs.changes.take_one.Goals as goal
use Rattle.fx_scanner.proofs.changes.take_one.Goals.{then-branch+in_ok-use_on, else-branch}

pub use_on-requires-clause-absent : goal.use_on-requires-clause-absent
use_on-requires-clause-absent g c =
    let dg = g.R.DigestRule.digest_of in
    let U = g.S.UseSink.uses c.args.sink.now in
    let counts = c.args.counts.now in
    let u = c.args.set.now in
    let has = c.requires.held in
    ap (maps.contains_key U) c.name.ensures
    ∙ first_is_absent dg counts U has.0 u has.1.0 has.1.1 (ap (λ k. count_at counts k == 0) (sym c.in_ok-key.ensures) ∙ sym c.in_ok-raise.ensures.first ∙ c.if-branch.true)

pub use_on-requires-clause-kind : goal.use_on-requires-clause-kind
use_on-requires-clause-kind g c = ap kind_of c.name.ensures ∙ kind_is g.R.DigestRule.digest_of c.args.set.now

pub returns-clause-held : goal.returns-clause-held
returns-clause-held g c = λ others h apart.
    let dg = g.R.DigestRule.digest_of in
    let U = g.S.UseSink.uses c.args.sink.now in
    let counts = c.args.counts.now in
    let u = c.args.set.now in
    let now : c.raise.new.self ≡ maps.insert counts (use_key u) (count_at counts (use_key u) + 1) = c.in_ok-raise.ensures.counts ∙ ap (λ k. maps.insert counts k (count_at counts k + 1)) c.in_ok-key.ensures in
    subst (λ (n : Counts). AreHeld dg n (g.S.UseSink.uses c.if-branch.sink) (u ∷ others)) (sym now)
    (elim c.if-branch.branch [
      | then-branch+in_ok-use_on w ↦
          subst (λ m. AreHeld dg (maps.insert counts (use_key u) (count_at counts (use_key u) + 1)) m (u ∷ others))
          (sym (ap g.S.UseSink.uses w.sink-is ∙ w.in_ok-use_on.ensures.uses ∙ ap (λ k. maps.insert U k u) w.name.ensures))
          (held_first dg counts U others u h apart (ap (λ k. count_at counts k == 0) (sym c.in_ok-key.ensures) ∙ sym c.in_ok-raise.ensures.first ∙ w.if-branch.true))
      | else-branch w ↦
          subst (λ m. AreHeld dg (maps.insert counts (use_key u) (count_at counts (use_key u) + 1)) m (u ∷ others)) (sym (ap g.S.UseSink.uses w.sink-is))
          (held_again dg counts U others u h apart (ap (λ k. count_at counts k == 0) (sym c.in_ok-key.ensures) ∙ sym c.in_ok-raise.ensures.first ∙ w.if-branch.false))
    ])
