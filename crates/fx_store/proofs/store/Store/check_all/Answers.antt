use Rattle.std.proofs.Common.{◌≡◌, None, ap, ◌∙◌}
use Rattle.std.specs.List.{flat_map}
use Rattle.fx_model.specs.Claims.{claims_at}
use Rattle.fx_store.specs.Checking.{IsCheckFault}
use Rattle.fx_store.proofs.Checked.{fault_on}
use Rattle.fx_store.proofs.StoredAll.{clash_of_all, claims_of_records}
use Rattle.fx_store.proofs.store.Store.check_all.Goals as goal

pub returns-in_err-check_claims : goal.returns-in_err-check_claims
returns-in_err-check_claims g c =
    let dg = g.R.DigestRule.digest_of in
    let R = c.args.self.now.resources in
    let us = c.args.updates.now in
    fault_on c.from_residual-in_err-check_claims.result c.in_err-check_claims.field-0.0 _ c.from_residual-in_err-check_claims.ensures.1
    (clash_of_all dg R us c.requires.formed c.args.self.now.registry c.deref-3.result.now c.deref-4.result.now (IsCheckFault c.in_err-check_claims.field-0.0)
    (c.deref-3.ensures.value ∙ c.in_ok-old.ensures ∙ ap (flat_map (claims_at dg R)) (c.deref.ensures.value ∙ c.in_ok-keys.ensures))
    (claims_of_records dg R us c.requires.formed c.in_ok-records.records c.deref-2.result.now c.deref-4.result.now c.in_ok-records.ensures (c.deref-2.ensures.value ∙ c.in_ok-keys.ensures) (c.deref-4.ensures.value ∙ c.in_ok-new.ensures))
    c.requires.claims c.in_err-check_claims.ensures)

pub returns : goal.returns
returns g c =
    let dg = g.R.DigestRule.digest_of in
    let R = c.args.self.now.resources in
    let us = c.args.updates.now in
    clash_of_all dg R us c.requires.formed c.args.self.now.registry c.deref-3.result.now c.deref-4.result.now (λ o. o ≡ None)
    (c.deref-3.ensures.value ∙ c.in_ok-old.ensures ∙ ap (flat_map (claims_at dg R)) (c.deref.ensures.value ∙ c.in_ok-keys.ensures))
    (claims_of_records dg R us c.requires.formed c.in_ok-records.records c.deref-2.result.now c.deref-4.result.now c.in_ok-records.ensures (c.deref-2.ensures.value ∙ c.in_ok-keys.ensures) (c.deref-4.ensures.value ∙ c.in_ok-new.ensures))
    c.requires.claims c.in_ok-check_claims.ensures
