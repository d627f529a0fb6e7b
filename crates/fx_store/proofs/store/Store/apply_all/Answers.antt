use Rattle.std.proofs.Common.{◌∙◌}
use Rattle.fx_store.proofs.StoredAll.{kept_at_end}
use Rattle.fx_store.proofs.store.Store.apply_all.Goals as goal

pub returns-clause-claims : goal.returns-clause-claims
returns-clause-claims g c =
    let was = c.args.self.now in
    let made = c.make_all.new.self in
    kept_at_end g.R.DigestRule.digest_of was.resources made.resources c.args.updates.now c.requires.formed c.in_ok-make_all.ensures.made
    was.registry made.registry c.swap.new.self c.in_ok-make_all.ensures.claims
    c.deref-3.result.now c.deref-4.result.now c.deref.result.now c.deref-2.result.now
    (c.deref.ensures.value ∙ c.in_ok-keys.ensures) (c.deref-2.ensures.value ∙ c.in_ok-keys.ensures)
    (c.deref-3.ensures.value ∙ c.in_ok-old.ensures) (c.deref-4.ensures.value ∙ c.in_ok-new.ensures)
    c.requires.claims c.requires.free c.in_ok-swap.ensures
