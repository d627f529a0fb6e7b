use Rattle.fx_store.proofs.Pushed.{both_pushed, local_claims}
use Rattle.fx_store.proofs.claims.push_endpoint.Goals as goal

pub returns-in_ok-push_listed : goal.returns-in_ok-push_listed
returns-in_ok-push_listed g c =
    both_pushed c.args.claims.now.items _ _ _ _ _ c.in_ok-push_interface.ensures c.in_ok-push_listed.ensures
    (local_claims g.R.DigestRule.digest_of c.args.node.now c.args.key.now c.args.endpoint.now c.if-eq.ensures)
