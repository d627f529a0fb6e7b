use Rattle.std.proofs.Common.{◌∙◌}
use Rattle.fx_store.proofs.Touching.{steps_made}
use Rattle.fx_store.proofs.store.Store.steps.Goals as goal

pub returns : goal.returns
returns c =
    steps_made c.args.self.now.resources c.args.updates.now c.new-steps.result.items c.push_deletes.new.steps.items c.push_puts.new.steps.items c.deref.result.now c.deref-2.result.now c.in_ok-records.records
    c.new-steps.ensures.items (c.deref.ensures.value ∙ c.in_ok-keys.ensures) (c.deref-2.ensures.value ∙ c.in_ok-keys.ensures) c.in_ok-records.ensures
    c.in_ok-push_deletes.ensures c.in_ok-push_puts.ensures
