-- A registry keeps what all resources claim, also as what a key claims is taken out and other claims are put in.
use Rattle.std.proofs.Common.{◌≡◌, true, List, [], ◌++◌, Option, None, refl, sym, ap, ◌∙◌, subst, arith}
use Rattle.std.proofs.lemmas.List.{append-nil}
use Rattle.std.specs.FinMap as maps
use Rattle.fx_names.specs.Digests.{Digest}
use Rattle.fx_names.specs.declared.claim.Claim.{Claim}
use Rattle.fx_names.specs.declared.registry.Registry.{Registry}
use Rattle.fx_names.specs.Claims.{Clash, first_clash}
use Rattle.fx_names.specs.Holding.{HoldsClaims}
use Rattle.fx_names.proofs.ClaimLists.{times-append}
use Rattle.fx_names.proofs.Holdings.{HoldsClaims-same}
use Rattle.fx_model.specs.declared.ids.Key.{Key}
use Rattle.fx_model.specs.declared.resources.Item.{Item}
use Rattle.fx_model.specs.declared.resources.Resources.{Resources}
use Rattle.fx_model.specs.declared.resources.Update.{Update}
use Rattle.fx_model.specs.declared.resources.Update.TheVariants.{InSync, Put, Delete}
use Rattle.fx_model.specs.Resources.{after, after_put, after_delete}
use Rattle.fx_model.specs.Formed.{is_formed}
use Rattle.fx_model.specs.Claims.{claims_of, claims_at, all_claims, clash}
use Rattle.fx_laws.proofs.ClaimsCounted.{times-at, times-put}
use Rattle.fx_laws.proofs.Clashing.{clash-put, clash-delete}
use Rattle.fx_laws.proofs.ClaimsApart.{none_claimed}
use Rattle.fx_store.specs.Changing.{claims_before, claims_after}

module _ (dg : Digest) (R : Resources) (k : Key) (r : Registry) where
  -- what other keys claim
  abbrev rest : List Claim
  rest = all_claims dg (after_delete R k)

  keeps_parts : HoldsClaims r (all_claims dg R) → HoldsClaims r (claims_at dg R k ++ rest)
  keeps_parts h = HoldsClaims-same r (all_claims dg R) (claims_at dg R k ++ rest) h (λ c. times-at c dg R k ∙ sym (times-append c (claims_at dg R k) rest))

  module _ (old new : List Claim) (own : old ≡ claims_at dg R k) where
    without : HoldsClaims r (all_claims dg R) → HoldsClaims r (old ++ rest)
    without h = subst (λ l. HoldsClaims r (l ++ rest)) (sym own) (keeps_parts h)

    -- the first clash of what is put, among what other keys claim
    clash_among : (x : Item) → new ≡ claims_of dg R.node k x → is_formed (Put k x) ≡ true → first_clash rest new ≡ clash dg R (Put k x)
    clash_among x wanted formed = ap (first_clash rest) wanted ∙ sym (clash-put dg R k x formed)

    -- what is found of it is found of the update's
    pub clash_of_put : (P : Option Clash → Type 0) (x : Item) → new ≡ claims_of dg R.node k x → is_formed (Put k x) ≡ true → HoldsClaims r (all_claims dg R) → ((kept : List Claim) → HoldsClaims r (old ++ kept) → P (first_clash kept new)) → P (clash dg R (Put k x))
    clash_of_put P x wanted formed h found = subst P (clash_among x wanted formed) (found rest (without h))

    module _ (s : Registry) (swapped : (kept : List Claim) → HoldsClaims r (old ++ kept) → first_clash kept new ≡ None → HoldsClaims s (kept ++ new)) (h : HoldsClaims r (all_claims dg R)) (u : Update) where
      pub kept_after_put : (x : Item) → u ≡ Put k x → new ≡ claims_of dg R.node k x → is_formed u ≡ true → clash dg R u ≡ None → HoldsClaims s (all_claims dg (after R u))
      kept_after_put x is wanted formed free =
          subst (λ v. HoldsClaims s (all_claims dg (after R v))) (sym is)
          (put_in x is_put
          (subst (λ l. HoldsClaims s (rest ++ l)) wanted (swapped rest (without h) (clash_among x wanted is_put ∙ ap (clash dg R) (sym is) ∙ free))))
        where
          is_put : is_formed (Put k x) ≡ true
          is_put = ap is_formed (sym is) ∙ formed

          put_in : (x : Item) → is_formed (Put k x) ≡ true → HoldsClaims s (rest ++ claims_of dg R.node k x) → HoldsClaims s (all_claims dg (after_put R k x))
          put_in x formed g =
              HoldsClaims-same s (rest ++ claims_of dg R.node k x) (all_claims dg (after_put R k x)) g
              (λ c. omega (arith, times-append c rest (claims_of dg R.node k x), times-put c dg R k x formed))

      pub kept_after_delete : u ≡ Delete k → new ≡ [] → HoldsClaims s (all_claims dg (after R u))
      kept_after_delete is none =
          subst (λ v. HoldsClaims s (all_claims dg (after R v))) (sym is)
          (subst (HoldsClaims s) (ap (λ l. rest ++ l) none ∙ append-nil rest) (swapped rest (without h) (ap (first_clash rest) none)))

-- ---- the same of any update, by what it changes of the claims

module _ (dg : Digest) (R : Resources) (r : Registry) (old new : List Claim) where
  pub clash_of_change : (P : Option Clash → Type 0) (u : Update) → old ≡ claims_before dg R u → new ≡ claims_after dg R u → is_formed u ≡ true → HoldsClaims r (all_claims dg R)
      → ((kept : List Claim) → HoldsClaims r (old ++ kept) → P (first_clash kept new)) → P (clash dg R u)
  clash_of_change P InSync own wanted formed h found =
      let all = all_claims dg R in
      subst P (ap (first_clash all) wanted) (found all (subst (λ l. HoldsClaims r (l ++ all)) (sym own) h))
  clash_of_change P (Put k x) own wanted formed h found = clash_of_put dg R k r old new own P x wanted formed h found
  clash_of_change P (Delete k) own wanted formed h found =
      subst P (ap (first_clash (rest dg R k r)) wanted ∙ sym (clash-delete dg R k)) (found (rest dg R k r) (without dg R k r old new own h))

  pub kept_after_change : (s : Registry) → ((kept : List Claim) → HoldsClaims r (old ++ kept) → first_clash kept new ≡ None → HoldsClaims s (kept ++ new)) → HoldsClaims r (all_claims dg R)
      → (u : Update) → old ≡ claims_before dg R u → new ≡ claims_after dg R u → is_formed u ≡ true → clash dg R u ≡ None → HoldsClaims s (all_claims dg (after R u))
  kept_after_change s swapped h InSync own wanted formed free =
      let all = all_claims dg R in
      subst (HoldsClaims s) (ap (λ l. all ++ l) wanted ∙ append-nil all)
      (swapped all (subst (λ l. HoldsClaims r (l ++ all)) (sym own) h) (ap (first_clash all) wanted))
  kept_after_change s swapped h (Put k x) own wanted formed free = kept_after_put dg R k r old new own s swapped h (Put k x) x refl wanted formed free
  kept_after_change s swapped h (Delete k) own wanted formed free = kept_after_delete dg R k r old new own s swapped h (Delete k) refl wanted

-- no resources claim nothing
pub keeps_none : (dg : Digest) (R : Resources) (r : Registry) → R.endpoints ≡ maps.empty → R.profiles ≡ maps.empty → R.policies ≡ maps.empty → HoldsClaims r [] → HoldsClaims r (all_claims dg R)
keeps_none dg R r endpoints profiles policies h = HoldsClaims-same r [] (all_claims dg R) h (λ c. sym (none_claimed dg R endpoints profiles policies c))
