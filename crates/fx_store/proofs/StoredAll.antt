-- A registry keeps what all resources claim, also as updates are made together.
use Rattle.std.proofs.Common.{◌≡◌, true, List, [], ◌∷◌, ◌++◌, Option, None, refl, sym, ap, ◌∙◌, subst, arith}
use Rattle.std.specs.List.{list_all, flat_map}
use Rattle.std.specs.FinMap as map
use Rattle.fx_names.specs.Digests.{Digest}
use Rattle.fx_names.specs.declared.claim.Claim.{Claim}
use Rattle.fx_names.specs.declared.registry.Registry.{Registry}
use Rattle.fx_names.specs.Claims.{Clash, times, first_clash}
use Rattle.fx_names.specs.Holding.{HoldsClaims}
use Rattle.fx_names.proofs.ClaimLists.{times-append}
use Rattle.fx_names.proofs.Holdings.{HoldsClaims-same}
use Rattle.fx_model.specs.declared.ids.Key.{Key}
use Rattle.fx_model.specs.declared.resources.Resources.{Resources}
use Rattle.fx_model.specs.declared.resources.Update.{Update}
use Rattle.fx_model.specs.Batches.{after_all, touched_keys, clash_all}
use Rattle.fx_model.specs.Claims.{claims_at, all_claims, without}
use Rattle.fx_model.specs.Formed.{is_formed}
use Rattle.fx_model.specs.Steps.{last_record, record_claims}
use Rattle.fx_laws.proofs.BatchClaims.{times-start, times-end, claims_end}
use Rattle.fx_store.specs.Touched.{Records, recorded_all}
use Rattle.fx_store.proofs.Touching.{recorded-record}

module _ (dg : Digest) (R : Resources) (us : List Update) (formed : list_all is_formed us ≡ true) where
  -- what other keys claim
  abbrev rest : List Claim
  rest = all_claims dg (without R (touched_keys us))

  without_all : (r : Registry) (old : List Claim) → old ≡ flat_map (claims_at dg R) (touched_keys us) → HoldsClaims r (all_claims dg R) → HoldsClaims r (old ++ rest)
  without_all r old own h =
      HoldsClaims-same r (all_claims dg R) (old ++ rest) h
      (λ c. omega (arith, times-start dg R us formed c, times-append c old rest, ap (times c) own))

  -- what is found of the new claims is found of the updates'
  pub clash_of_all : (r : Registry) (old new : List Claim) (P : Option Clash → Type 0) → old ≡ flat_map (claims_at dg R) (touched_keys us) → new ≡ flat_map (claims_at dg (after_all R us)) (touched_keys us) → HoldsClaims r (all_claims dg R) → ((kept : List Claim) → HoldsClaims r (old ++ kept) → P (first_clash kept new)) → P (clash_all dg R us)
  clash_of_all r old new P own wanted h found = subst P (ap (first_clash rest) wanted) (found rest (without_all r old own h))

  -- once the claims are exchanged, those of the end are kept
  pub kept_after_all : (r s : Registry) (old new : List Claim) → old ≡ flat_map (claims_at dg R) (touched_keys us) → new ≡ flat_map (claims_at dg (after_all R us)) (touched_keys us) → HoldsClaims r (all_claims dg R) → clash_all dg R us ≡ None
      → ((kept : List Claim) → HoldsClaims r (old ++ kept) → first_clash kept new ≡ None → HoldsClaims s (kept ++ new)) → HoldsClaims s (all_claims dg (after_all R us))
  kept_after_all r s old new own wanted h free swapped =
      HoldsClaims-same s (rest ++ new) (all_claims dg (after_all R us))
      (swapped rest (without_all r old own h) (ap (first_clash rest) wanted ∙ free))
      (λ c. omega (arith, times-append c rest new, times-end dg R us formed c, ap (times c) wanted))

  -- the claims of the last records are those of the end
  pub claims_of_records : (m : Records) (ls : List Key) (new : List Claim) → m ≡ recorded_all map.empty us → ls ≡ touched_keys us → new ≡ flat_map (λ k. record_claims dg R.node k (map.get m k)) ls → new ≡ flat_map (claims_at dg (after_all R us)) (touched_keys us)
  claims_of_records m ls new records keys made =
      made
      ∙ each_same ls
      ∙ ap (flat_map (λ k. record_claims dg R.node k (last_record us k))) keys
      ∙ sym (claims_end dg R us formed)
    where
      each_same : (qs : List Key) → flat_map (λ k. record_claims dg R.node k (map.get m k)) qs ≡ flat_map (λ k. record_claims dg R.node k (last_record us k)) qs
      each_same [] = refl
      each_same (k ∷ qs) = λ i. record_claims dg R.node k (recorded-record m us records k i) ++ each_same qs i

-- the same of the store whose claims are exchanged once its resources are those of the end
pub kept_at_end : (dg : Digest) (R S : Resources) (us : List Update) → list_all is_formed us ≡ true → S ≡ after_all R us → (r q s : Registry) → q ≡ r → (old new : List Claim) (ks ls : List Key) → ks ≡ touched_keys us → ls ≡ touched_keys us → old ≡ flat_map (claims_at dg R) ks → new ≡ flat_map (claims_at dg S) ls → HoldsClaims r (all_claims dg R) → clash_all dg R us ≡ None
    → ((kept : List Claim) → HoldsClaims q (old ++ kept) → first_clash kept new ≡ None → HoldsClaims s (kept ++ new)) → HoldsClaims s (all_claims dg S)
kept_at_end dg R S us formed made r q s same old new ks ls first second own wanted h free swapped =
    subst (λ (T : Resources). HoldsClaims s (all_claims dg T)) (sym made)
    (kept_after_all dg R us formed q s old new
    (own ∙ ap (flat_map (claims_at dg R)) first)
    (wanted ∙ (λ i. flat_map (claims_at dg (made i)) (second i)))
    (subst (λ p. HoldsClaims p (all_claims dg R)) (sym same) h) free swapped)
