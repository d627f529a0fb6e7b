use Rattle.std.proofs.Common.{◌++◌}
use Rattle.std.specs.Prelude.{codes}
use Rattle.fx_names.specs.declared.prefix.Prefix.TheVariants.{ProfileIn, ProfileOut}
use Rattle.fx_store.proofs.Pushed.{two_chains}
use Rattle.fx_store.proofs.claims.push_profile_chains.Goals as goal

pub returns : goal.returns
returns g c =
    two_chains g.R.DigestRule.digest_of ProfileIn ProfileOut c.args.name.now _ _ _ (codes "profile " ++ c.args.name.now) _ _ _
    c.in_ok-push_claim.ensures c.in_ok-push_claim-2.ensures c.bytes-suffix.ensures c.in_ok-clone.ensures.cases c.in_ok-holder.ensures
