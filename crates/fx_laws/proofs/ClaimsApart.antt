-- An update that is let through keeps the claims apart.
use Rattle.std.proofs.Common.{◌≡◌, ℕ, ◌<◌, Bool, true, false, ◌&&◌, not, List, [], ◌∷◌, ◌++◌, None, refl, sym, ap, ◌∙◌, subst, append_assoc, arith}
use Rattle.std.proofs.lemmas.List.{append-nil}
use Rattle.std.specs.List.{flat_map}
use Rattle.std.specs.Ordering.{nat_cmp}
use Rattle.std.specs.Cmp.Lexicographic.{slice_cmp}
use Rattle.std.specs.FinMap as maps
use Rattle.fx_base.proofs.Entries.{entries-empty}
use Rattle.fx_names.specs.Digests.{Digest}
use Rattle.fx_names.specs.declared.claim.Claim.{Claim}
use Rattle.fx_names.specs.Claims.{is_same, clashes, times, other_holder, first_clash}
use Rattle.fx_names.proofs.ClaimLists.{same_claim, same_name-refl, bytes_eq-refl, clashes-swap, times-append, times-other, times-none, first_clash-head, first_clash-tail}
use Rattle.fx_model.specs.contracts.ids.ItemKeyOrd.TheImpl.{cmp-value}
use Rattle.fx_model.specs.contracts.ids.PolicyIdOrd.TheImpl as policy_cmp
use Rattle.fx_model.specs.declared.ids.ItemKey.{ItemKey}
use Rattle.fx_model.specs.declared.ids.Key.{Key}
use Rattle.fx_model.specs.declared.ids.PolicyId.{PolicyId}
use Rattle.fx_model.specs.declared.policy.Policy.{Policy}
use Rattle.fx_model.specs.declared.resources.Endpoint.{Endpoint}
use Rattle.fx_model.specs.declared.resources.Profile.{Profile}
use Rattle.fx_model.specs.declared.resources.Item.{Item}
use Rattle.fx_model.specs.declared.resources.Resources.{Resources}
use Rattle.fx_model.specs.declared.resources.Update.{Update}
use Rattle.fx_model.specs.declared.resources.Update.TheVariants as update
use Rattle.fx_model.specs.Resources.{after, after_put, after_delete}
use Rattle.fx_model.specs.Formed.{is_formed}
use Rattle.fx_model.specs.Claims.{profile_claims, policy_claims, endpoint_claims, claims_of, all_claims, clash, AreApart, IsClashFree}
use Rattle.fx_laws.proofs.ClaimsCounted.{times-at, times-put}
use Rattle.fx_laws.proofs.Clashing.{clash-put}

-- fewer claims are apart too
pub fewer_apart : (xs ys : List Claim) → ((c : Claim) → 0 < times c ys → 0 < times c xs) → AreApart xs → AreApart ys
fewer_apart xs ys h apart = λ c d p q. apart c d (h c p) (h d q)

itself_apart : (c : Claim) → clashes c c ≡ false
itself_apart c = λ i. same_name-refl c.name i && not (bytes_eq-refl c.holder i)

-- a claim whose name nobody else holds is apart from those that are held
free_apart : (held : List Claim) (c d : Claim) → other_holder held c ≡ None → 0 < times d held → clashes c d ≡ false
free_apart held c d free there = by_test (clashes c d) refl
  where
    by_test : (b : Bool) → clashes c d ≡ b → b ≡ false
    by_test true e = absurd (omega (arith, times-none held c d free e))
    by_test false e = refl

-- a claim among others and one more is that one or among the others
module _ (held : List Claim) (c : Claim) where
  one_more : (d : Claim) → 0 < times d (held ++ c ∷ []) → (P : Claim → Type 0) → P c → (0 < times d held → P d) → P d
  one_more d there P here others = by_test (is_same d c) refl
    where
      by_test : (b : Bool) → is_same d c ≡ b → P d
      by_test true e = subst P (sym (same_claim d c e)) here
      by_test false e = others (omega (arith, times-append d held (c ∷ []), times-other d c [] e))

  pub more_apart : AreApart held → other_holder held c ≡ None → AreApart (held ++ c ∷ [])
  more_apart apart free = λ d e p q.
      one_more d p (λ x. clashes x e ≡ false)
      (one_more e q (λ y. clashes c y ≡ false) (itself_apart c) (λ there. free_apart held c e free there))
      (λ left. one_more e q (λ y. clashes d y ≡ false) (clashes-swap d c ∙ free_apart held c d free left) (λ right. apart d e left right))

-- claims of which none clashes are apart
pub all_apart : (held new : List Claim) → AreApart held → first_clash held new ≡ None → AreApart (held ++ new)
all_apart held [] apart free = subst AreApart (sym (append-nil held)) apart
all_apart held (c ∷ cs) apart free =
    subst AreApart (append_assoc held (c ∷ []) cs)
    (all_apart (held ++ c ∷ []) cs (more_apart held c apart (first_clash-head held c cs free)) (first_clash-tail held c cs free))

module _ (dg : Digest) (R : Resources) where
  deleted_apart : (k : Key) → IsClashFree dg R → IsClashFree dg (after_delete R k)
  deleted_apart k apart = fewer_apart (all_claims dg R) (all_claims dg (after_delete R k)) (λ c p. omega (arith, times-at c dg R k)) apart

  put_apart : (k : Key) (x : Item) → is_formed (update.Put k x) ≡ true → IsClashFree dg R → clash dg R (update.Put k x) ≡ None → IsClashFree dg (after_put R k x)
  put_apart k x formed apart free =
      let kept = all_claims dg (after_delete R k) in
      let new = claims_of dg R.node k x in
      fewer_apart (kept ++ new) (all_claims dg (after_put R k x))
      (λ c p. omega (arith, times-put c dg R k x formed, times-append c kept new))
      (all_apart kept new (deleted_apart k apart) (sym (clash-put dg R k x formed) ∙ free))

  -- an update that doesn't clash leaves resources that don't
  pub clash_free_after : (u : Update) → is_formed u ≡ true → IsClashFree dg R → clash dg R u ≡ None → IsClashFree dg (after R u)
  clash_free_after update.InSync formed apart free = apart
  clash_free_after (update.Put k x) formed apart free = put_apart k x formed apart free
  clash_free_after (update.Delete k) formed apart free = deleted_apart k apart

-- no resources claim nothing
pub none_claimed : (dg : Digest) (R : Resources) → R.endpoints ≡ maps.empty → R.profiles ≡ maps.empty → R.policies ≡ maps.empty → (c : Claim) → times c (all_claims dg R) ≡ 0
none_claimed dg R endpoints profiles policies c =
    let of_profiles = λ (xs : List (List ℕ × Profile)). flat_map (λ (x : List ℕ × Profile). profile_claims dg x.0 x.1) xs in
    let of_policies = λ (xs : List (PolicyId × Policy)). flat_map (λ (x : PolicyId × Policy). policy_claims dg x.0 x.1) xs in
    ap (λ xs. times c (flat_map (λ (x : ItemKey × Endpoint). endpoint_claims dg R.node x.0 x.1) xs ++ (of_profiles (maps.entries R.profiles) ++ of_policies (maps.entries R.policies)))) (ap maps.entries endpoints ∙ entries-empty cmp-value.it)
    ∙ ap (λ xs. times c (of_profiles xs ++ of_policies (maps.entries R.policies))) (ap maps.entries profiles ∙ entries-empty (slice_cmp nat_cmp))
    ∙ ap (λ xs. times c (of_policies xs)) (ap maps.entries policies ∙ entries-empty policy_cmp.cmp-value.it)

pub clash_free_none : (dg : Digest) (R : Resources) → R.endpoints ≡ maps.empty → R.profiles ≡ maps.empty → R.policies ≡ maps.empty → IsClashFree dg R
clash_free_none dg R endpoints profiles policies = λ c d p q. absurd (omega (arith, none_claimed dg R endpoints profiles policies c))
