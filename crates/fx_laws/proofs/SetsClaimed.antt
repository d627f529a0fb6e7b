-- The sets that the rules of a policy or a profile use are claimed where it is there.
use Rattle.std.proofs.Common.{◌≡◌, ℕ, ◌<◌, List, [], ◌∷◌, map, Some, ap, arith}
use Rattle.std.specs.List.{AllByRecursion}
use Rattle.std.specs.FinMap as maps
use Rattle.fx_names.specs.Digests.{Digest}
use Rattle.fx_names.specs.Claims.{times}
use Rattle.fx_names.specs.declared.claim.Claim.{Claim}
use Rattle.fx_names.proofs.ClaimLists.{times-append, times-itself}
use Rattle.fx_model.specs.declared.ids.Key.TheVariants as key
use Rattle.fx_model.specs.declared.ids.PolicyId.{PolicyId}
use Rattle.fx_model.specs.declared.policy.Policy.{Policy}
use Rattle.fx_model.specs.declared.resources.Profile.{Profile}
use Rattle.fx_model.specs.declared.resources.Resources.{Resources}
use Rattle.fx_model.specs.declared.set_use.SetUse.{SetUse}
use Rattle.fx_model.specs.Claims.{profile_chains, policy_chains, profile_claims, policy_claims, named_claims, given_policy_claims, set_claim, claims_at, all_claims}
use Rattle.fx_model.specs.Sets.{policy_uses, profile_uses}
use Rattle.fx_laws.proofs.ClaimsCounted.{times-at}

module _ (dg : Digest) (R : Resources) where
  -- some resource claims the set
  abbrev pub IsClaimed : SetUse → Type 0
  IsClaimed u = 0 < times (set_claim dg u) (all_claims dg R)

  each_claimed : (us : List SetUse) → ((c : Claim) → 0 < times c (map (set_claim dg) us) → 0 < times c (all_claims dg R)) → AllByRecursion IsClaimed us
  each_claimed [] counted = tt
  each_claimed (u ∷ us) counted = (
    counted (set_claim dg u) (omega (arith, times-itself (set_claim dg u) (map (set_claim dg) us))),
    each_claimed us (λ c h. counted c (omega (arith, h))),
  )

  pub policy_sets_claimed : (id : PolicyId) (p : Policy) → maps.get R.policies id ≡ Some p → AllByRecursion IsClaimed (policy_uses p)
  policy_sets_claimed id p at = each_claimed (policy_uses p) (λ c h.
      let there : claims_at dg R (key.Policy id) ≡ policy_claims dg id p = ap (given_policy_claims dg id) at in
      omega (arith, h, times-at c dg R (key.Policy id), ap (times c) there, times-append c (policy_chains dg id) (map (set_claim dg) (policy_uses p))))

  pub profile_sets_claimed : (name : List ℕ) (p : Profile) → maps.get R.profiles name ≡ Some p → AllByRecursion IsClaimed (profile_uses p)
  profile_sets_claimed name p at = each_claimed (profile_uses p) (λ c h.
      let there : claims_at dg R (key.Profile name) ≡ profile_claims dg name p = ap (named_claims dg name) at in
      omega (arith, h, times-at c dg R (key.Profile name), ap (times c) there, times-append c (profile_chains dg name) (map (set_claim dg) (profile_uses p))))
