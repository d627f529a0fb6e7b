use Rattle.std.proofs.Common.{sym, ◌∙◌, subst}
use Rattle.fx_names.specs.Holding.{HoldsClaims}
use Rattle.fx_model.specs.declared.resources.Resources.{Resources}
use Rattle.fx_model.specs.Claims.{all_claims}
use Rattle.fx_store.proofs.Stored.{kept_after_change}
use Rattle.fx_store.proofs.store.Store.apply_with.Goals as goal

pub returns-clause-claims : goal.returns-clause-claims
returns-clause-claims g c =
    let dg = g.R.DigestRule.digest_of in
    let was = c.args.self.now in
    subst (λ (R : Resources). HoldsClaims c.swap.new.self (all_claims dg R)) (sym c.in_ok-apply.ensures.ok)
    (kept_after_change dg was.resources was.registry c.deref.result.now c.deref-2.result.now c.swap.new.self c.in_ok-swap.ensures c.requires.claims
    c.args.update (c.deref.ensures.value ∙ c.requires.before) (c.deref-2.ensures.value ∙ c.requires.after) c.requires.formed c.requires.free)
