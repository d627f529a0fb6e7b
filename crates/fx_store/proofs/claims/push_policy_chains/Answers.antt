use Rattle.std.proofs.Common.{◌++◌, ◌∙◌, List, ℕ, ap}
use Rattle.std.specs.Prelude.{codes}
use Rattle.fx_names.specs.declared.prefix.Prefix.TheVariants.{PolicyIn, PolicyOut}
use Rattle.fx_model.specs.PolicyIdTexts.{policy_id_text}
use Rattle.fx_store.proofs.Pushed.{two_chains}
use Rattle.fx_store.proofs.claims.push_policy_chains.Goals as goal

pub returns : goal.returns
returns g c =
    two_chains g.R.DigestRule.digest_of PolicyIn PolicyOut (policy_id_text c.args.id.now) _ _ _ (codes "policy " ++ policy_id_text c.args.id.now) _ _ _
    c.in_ok-push_claim.ensures c.in_ok-push_claim-2.ensures (c.bytes-suffix.ensures ∙ c.in_ok-text.ensures) c.in_ok-clone.ensures.cases
    (c.in_ok-holder.ensures ∙ ap (λ (t : List ℕ). codes "policy " ++ t) c.in_ok-text.ensures)
