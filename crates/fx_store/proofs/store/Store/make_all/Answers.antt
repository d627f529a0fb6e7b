use Rattle.std.proofs.Common.{◌+◌, drop, sym, ap, ◌∙◌}
use Rattle.std.proofs.lemmas.List.{drop_all}
use Rattle.fx_model.specs.Batches.{after_all}
use Rattle.fx_model.specs.Resources.{after}
use Rattle.fx_store.proofs.Touching.{next_left}
use Rattle.fx_store.proofs.store.Store.make_all.Goals as goal

pub loop-update-preserved : goal.loop-update-preserved
loop-update-preserved c =
    let us = c.args.updates.now in
    let i = c.loop-update.update-index in
    let was = c.loop-update.self.resources in
    record {
      made =
          ap (λ R. after_all R (drop (i + 1) us)) (c.in_ok-apply.ensures.ok ∙ ap (after was) c.in_ok-clone.ensures.cases)
          ∙ sym (ap (after_all was) (next_left us i c.update-item.result c.loop-update-test.true c.update-item.is))
          ∙ c.loop-update.invariant.made;
      claims = c.loop-update.invariant.claims;
    }

pub returns-clause-made : goal.returns-clause-made
returns-clause-made c =
    sym (ap (after_all c.loop-update.self.resources) (drop_all c.loop-update.update-index c.args.updates.now c.loop-update-test.false)) ∙ c.loop-update.invariant.made
