use Rattle.std.proofs.Common.{◌++◌}
use Rattle.std.specs.Prelude.{codes}
use Rattle.fx_names.specs.declared.prefix.Prefix.TheVariants.{ToEndpoint, FromEndpoint}
use Rattle.fx_model.specs.Claims.{item_text}
use Rattle.fx_store.proofs.Pushed.{two_chains}
use Rattle.fx_store.proofs.claims.push_interface.Goals as goal

pub returns : goal.returns
returns g c =
    two_chains g.R.DigestRule.digest_of ToEndpoint FromEndpoint c.args.endpoint.now.iface _ _ _ (codes "endpoint " ++ item_text c.args.key.now) _ _ _
    c.in_ok-push_claim.ensures c.in_ok-push_claim-2.ensures c.bytes-suffix.ensures c.in_ok-clone.ensures.cases c.in_ok-holder.ensures
