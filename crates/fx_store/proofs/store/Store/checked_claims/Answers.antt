use Rattle.std.proofs.Common.{◌≡◌, None, ◌∙◌}
use Rattle.fx_store.specs.Checking.{IsCheckFault}
use Rattle.fx_store.proofs.Checked.{fault_on}
use Rattle.fx_store.proofs.Stored.{clash_of_change}
use Rattle.fx_store.proofs.store.Store.checked_claims.Goals as goal

pub returns-in_err-check_claims-clause-tells : goal.returns-in_err-check_claims-clause-tells
returns-in_err-check_claims-clause-tells g c =
    fault_on c.from_residual-in_err-check_claims.result c.in_err-check_claims.field-0.0 _ c.from_residual-in_err-check_claims.ensures.1
    (clash_of_change g.R.DigestRule.digest_of c.args.self.now.resources c.args.self.now.registry c.deref.result.now c.deref-2.result.now
    (IsCheckFault c.in_err-check_claims.field-0.0) c.args.update.now (c.deref.ensures.value ∙ c.in_ok-change.ensures.before) (c.deref-2.ensures.value ∙ c.in_ok-change.ensures.after)
    c.requires.formed c.requires.claims c.in_err-check_claims.ensures)

pub returns-clause-tells : goal.returns-clause-tells
returns-clause-tells g c =
    clash_of_change g.R.DigestRule.digest_of c.args.self.now.resources c.args.self.now.registry c.deref.result.now c.deref-2.result.now
    (λ o. o ≡ None) c.args.update.now (c.deref.ensures.value ∙ c.in_ok-change.ensures.before) (c.deref-2.ensures.value ∙ c.in_ok-change.ensures.after)
    c.requires.formed c.requires.claims c.in_ok-check_claims.ensures
