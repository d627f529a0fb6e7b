use Rattle.std.proofs.Common.{◌≡◌, ◌-◌, ◌==◌, ap, sym, ◌∙◌, subst, IsSome}
use Rattle.std.specs.FinMap as maps
use Rattle.fx_scanner.specs.Told.{AreHeld}
use Rattle.fx_scanner.specs.Uses.{Counts, count_at, use_key, with_count}
use Rattle.fx_scanner.proofs.TellSteps.{last_is_there, held_last, held_still}
use Rattle.fx_scanner.proofs.changes.give_up_one.Goals as goal
use Rattle.fx_scanner.proofs.changes.give_up_one.Goals.{then-branch+in_ok-use_off, else-branch}

pub use_off-requires : goal.use_off-requires
use_off-requires g c =
    let dg = g.R.DigestRule.digest_of in
    let U = g.S.UseSink.uses c.args.sink.now in
    let has = c.requires in
    subst (λ k. IsSome (maps.get U k)) (sym c.name.ensures) (last_is_there dg c.args.counts.now U has.0 c.args.set.now has.1)

pub returns-clause-held : goal.returns-clause-held
returns-clause-held g c = λ others h.
    let dg = g.R.DigestRule.digest_of in
    let U = g.S.UseSink.uses c.args.sink.now in
    let counts = c.args.counts.now in
    let u = c.args.set.now in
    let now : c.lower.new.self ≡ with_count counts (use_key u) (count_at counts (use_key u) - 1) = c.in_ok-lower.ensures.counts ∙ ap (λ k. with_count counts k (count_at counts k - 1)) c.in_ok-key.ensures in
    subst (λ (n : Counts). AreHeld dg n (g.S.UseSink.uses c.if-branch.sink) others) (sym now)
    (elim c.if-branch.branch [
      | then-branch+in_ok-use_off w ↦
          subst (λ m. AreHeld dg (with_count counts (use_key u) (count_at counts (use_key u) - 1)) m others)
          (sym (ap g.S.UseSink.uses w.sink-is ∙ w.in_ok-use_off.ensures.uses ∙ ap (maps.remove U) w.name.ensures))
          (held_last dg counts U others u h (ap (λ k. (count_at counts k - 1) == 0) (sym c.in_ok-key.ensures) ∙ sym c.in_ok-lower.ensures.last ∙ w.if-branch.true))
      | else-branch w ↦
          subst (λ m. AreHeld dg (with_count counts (use_key u) (count_at counts (use_key u) - 1)) m others) (sym (ap g.S.UseSink.uses w.sink-is))
          (held_still dg counts U others u h (ap (λ k. (count_at counts k - 1) == 0) (sym c.in_ok-key.ensures) ∙ sym c.in_ok-lower.ensures.last ∙ w.if-branch.false))
    ])
