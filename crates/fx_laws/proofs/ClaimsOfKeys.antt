-- Active profiles with one key are one, where no claims clash.
use Rattle.std.proofs.Common.{◌≡◌, ℕ, ◌<◌, Bool, true, false, cond, ◌&&◌, ◌||◌, not, List, [], ◌∷◌, ◌++◌, map, Some, refl, sym, ap, ◌∙◌, subst, arith}
use Rattle.std.specs.Prelude.{filter, codes, if◌then◌else◌}
use Rattle.std.proofs.lemmas.Bool.{not-false}
use Rattle.std.proofs.lemmas.List.{append_cancel_left}
use Rattle.std.proofs.lemmas.List.Folds.{list_any-append}
use Rattle.std.specs.List.{flat_map, list_any}
use Rattle.std.specs.Str.{bytes_eq}
use Rattle.std.specs.Ordering.{nat_cmp, eq_by_cmp, is_eq}
use Rattle.std.specs.Cmp.Lexicographic.{slice_cmp}
use Rattle.std.specs.declared.cmp.Ordering.TheVariants.{Less, Equal, Greater}
use Rattle.std.specs.FinMap as maps
use Rattle.fx_base.specs.Same.{same_bytes, both_pass}
use Rattle.fx_base.specs.declared.kernel_name.KernelName.TheVariants.{Chain}
use Rattle.fx_base.proofs.KeyCases.{bytes_exact}
use Rattle.fx_names.specs.Digests.{Digest}
use Rattle.fx_names.specs.Names.{prefix_text, chain_name_of}
use Rattle.fx_names.specs.declared.claim.Claim.{Claim}
use Rattle.fx_names.specs.declared.prefix.Prefix.TheVariants.{PolicyIn, PolicyOut, ProfileIn, ProfileOut}
use Rattle.fx_names.specs.Claims.{same_name, clashes, times}
use Rattle.fx_names.proofs.ClaimLists.{same_name-refl, times-append, times-itself}
use Rattle.fx_model.specs.declared.ids.ItemKey.{ItemKey}
use Rattle.fx_model.specs.declared.ids.PolicyId.{PolicyId}
use Rattle.fx_model.specs.declared.ids.Key.TheVariants as key
use Rattle.fx_model.specs.declared.policy.Policy.{Policy}
use Rattle.fx_model.specs.declared.resources.Endpoint.{Endpoint}
use Rattle.fx_model.specs.declared.resources.Profile.{Profile}
use Rattle.fx_model.specs.declared.resources.Resources.{Resources}
use Rattle.fx_model.specs.Resources.{is_served, is_local}
use Rattle.fx_model.specs.Views.{profile_key, is_active_profile}
use Rattle.fx_model.specs.Claims.{profile_chains, profile_claims, policy_claims, given_policy_claims, interface_claims, endpoint_claims, set_claim, claims_at, all_claims, IsClashFree}
use Rattle.fx_model.specs.Sets.{policy_uses}
use Rattle.fx_model.specs.PolicyIdTexts.{policy_id_text}
use Rattle.fx_laws.proofs.ClaimsCounted.{times-at}

-- a name that is among these
abbrev among : List ℕ → List (List ℕ) → Bool
among name names = list_any (eq_by_cmp (slice_cmp nat_cmp) name) names

either : (a b : Bool) (P : Type 0) → (a || b) ≡ true → (a ≡ true → P) → (b ≡ true → P) → P
either true b P h f g = f refl
either false b P h f g = g h

same_key : (a b : List ℕ) → eq_by_cmp (slice_cmp nat_cmp) a b ≡ true → a ≡ b
same_key a b h =
    elim (slice_cmp nat_cmp a b) as (λ r. slice_cmp nat_cmp a b ≡ r → is_eq r ≡ true → a ≡ b) [
      | Less ↦ λ e g. cc
      | Equal ↦ λ e g. bytes_exact a b e
      | Greater ↦ λ e g. cc
    ] refl h

module _ (dg : Digest) where
  -- a profile's claim on the chain of its ingress rules
  abbrev pub ingress_claim : List ℕ → Claim
  ingress_claim name = record { name = Chain (chain_name_of dg ProfileIn name); holder = codes "profile " ++ name }

  abbrev pub egress_claim : List ℕ → Claim
  egress_claim name = record { name = Chain (chain_name_of dg ProfileOut name); holder = codes "profile " ++ name }

  own_ingress : (a : List ℕ) (rest : List Claim) → 0 < times (ingress_claim a) (profile_chains dg a ++ rest)
  own_ingress a rest = omega (arith, times-itself (ingress_claim a) (egress_claim a ∷ rest))

  own_egress : (a : List ℕ) (rest : List Claim) → 0 < times (egress_claim a) (profile_chains dg a ++ rest)
  own_egress a rest = omega (arith, times-itself (egress_claim a) rest)

  module _ (a : List ℕ) (c : Claim) (own : (rest : List Claim) → 0 < times c (profile_chains dg a ++ rest)) where
    -- a name that is listed is claimed
    listed_claimed : (names : List (List ℕ)) → among a names ≡ true → 0 < times c (flat_map (profile_chains dg) names)
    listed_claimed [] h = cc
    listed_claimed (n ∷ ns) h =
        let rest = flat_map (profile_chains dg) ns in
        either (eq_by_cmp (slice_cmp nat_cmp) a n) (among a ns) (0 < times c (profile_chains dg n ++ rest)) h
        (λ e. subst (λ (m : List ℕ). 0 < times c (profile_chains dg m ++ rest)) (same_key a n e) (own rest))
        (λ e. omega (arith, listed_claimed ns e, times-append c (profile_chains dg n) rest))

    module _ (R : Resources) where
      abbrev endpoints_claim : List (ItemKey × Endpoint) → List Claim
      endpoints_claim es = flat_map (λ x. endpoint_claims dg R.node x.0 x.1) es

      served_claimed : (x : ItemKey × Endpoint) → is_served R x.1 ≡ true → among a x.1.profiles ≡ true → 0 < times c (endpoint_claims dg R.node x.0 x.1)
      served_claimed x served h =
          let claims = interface_claims dg x.0 x.1 in
          let all : endpoint_claims dg R.node x.0 x.1 ≡ claims ++ flat_map (profile_chains dg) x.1.profiles = ap (λ b. if b then claims ++ flat_map (profile_chains dg) x.1.profiles else []) (both_pass R.in_sync (is_local R x.1) served).1 in
          subst (λ (cs : List Claim). 0 < times c cs) (sym all)
          (omega (arith, times-append c claims (flat_map (profile_chains dg) x.1.profiles), listed_claimed x.1.profiles h))

      entries_claimed : (es : List (ItemKey × Endpoint)) → among a (flat_map (λ x. x.1.profiles) (filter (λ x. is_served R x.1) es)) ≡ true → 0 < times c (endpoints_claim es)
      entries_claimed [] h = cc
      entries_claimed (x ∷ es) h =
          let left = filter (λ (y : ItemKey × Endpoint). is_served R y.1) es in
          let names = λ (ys : List (ItemKey × Endpoint)). flat_map (λ (y : ItemKey × Endpoint). y.1.profiles) ys in
          let Claimed = 0 < times c (endpoints_claim (x ∷ es)) in
          let both = times-append c (endpoint_claims dg R.node x.0 x.1) (endpoints_claim es) in
          let later : among a (names left) ≡ true → Claimed = λ g. let rest = entries_claimed es g in omega arith in
          elim (is_served R x.1) as (λ b. is_served R x.1 ≡ b → among a (names (cond b (x ∷ left) left)) ≡ true → Claimed) [
            | true ↦ λ e g. either (among a x.1.profiles) (among a (names left)) Claimed
                (sym (list_any-append (eq_by_cmp (slice_cmp nat_cmp) a) x.1.profiles (names left)) ∙ g)
                (λ here. let first = served_claimed x e here in omega arith)
                later
            | false ↦ λ e g. later g
          ] refl h

      active_claimed : is_active_profile R a ≡ true → 0 < times c (all_claims dg R)
      active_claimed h =
          let others = flat_map (λ (x : List ℕ × Profile). profile_claims dg x.0 x.1) (maps.entries R.profiles) ++ flat_map (λ (x : PolicyId × Policy). policy_claims dg x.0 x.1) (maps.entries R.policies) in
          omega (arith, entries_claimed (maps.entries R.endpoints) h, times-append c (endpoints_claim (maps.entries R.endpoints)) others)

  -- a policy's claim on the chain of its ingress rules
  abbrev pub policy_ingress_claim : PolicyId → Claim
  policy_ingress_claim id = record { name = Chain (chain_name_of dg PolicyIn (policy_id_text id)); holder = codes "policy " ++ policy_id_text id }

  abbrev pub policy_egress_claim : PolicyId → Claim
  policy_egress_claim id = record { name = Chain (chain_name_of dg PolicyOut (policy_id_text id)); holder = codes "policy " ++ policy_id_text id }

  -- both chains of a policy that is there are claimed
  module _ (R : Resources) (id : PolicyId) (p : Policy) (at : maps.get R.policies id ≡ Some p) where
    abbrev sets : List Claim
    sets = map (set_claim dg) (policy_uses p)

    claims_there : claims_at dg R (key.Policy id) ≡ policy_claims dg id p
    claims_there = ap (given_policy_claims dg id) at

    pub policy_ingress_claimed : 0 < times (policy_ingress_claim id) (all_claims dg R)
    policy_ingress_claimed =
        let c = policy_ingress_claim id in
        omega (arith, times-at c dg R (key.Policy id), ap (times c) claims_there, times-itself c (policy_egress_claim id ∷ sets))

    pub policy_egress_claimed : 0 < times (policy_egress_claim id) (all_claims dg R)
    policy_egress_claimed =
        let c = policy_egress_claim id in
        omega (arith, times-at c dg R (key.Policy id), ap (times c) claims_there, times-append c (policy_ingress_claim id ∷ []) (c ∷ sets), times-itself c sets)

  -- both chains of an active profile are claimed
  pub ingress_claimed : (R : Resources) (a : List ℕ) → is_active_profile R a ≡ true → 0 < times (ingress_claim a) (all_claims dg R)
  ingress_claimed R a h = active_claimed a (ingress_claim a) (own_ingress a) R h

  pub egress_claimed : (R : Resources) (a : List ℕ) → is_active_profile R a ≡ true → 0 < times (egress_claim a) (all_claims dg R)
  egress_claimed R a h = active_claimed a (egress_claim a) (own_egress a) R h

  -- active profiles with one key have one chain, so one claims it
  pub keys_apart : (R : Resources) → IsClashFree dg R → (a b : List ℕ) → is_active_profile R a ≡ true → is_active_profile R b ≡ true → profile_key dg a ≡ profile_key dg b → a ≡ b
  keys_apart R free a b p q keys =
      let c = ingress_claim a in
      let d = ingress_claim b in
      let chains : c.name ≡ d.name = ap (λ k. Chain (prefix_text ProfileIn ++ k)) keys in
      let same : same_name c.name d.name ≡ true = ap (same_name c.name) (sym chains) ∙ same_name-refl c.name in
      let apart : clashes c d ≡ false = free c d (ingress_claimed R a p) (ingress_claimed R b q) in
      let holders : not (bytes_eq c.holder d.holder) ≡ false = sym (ap (λ t. t && not (bytes_eq c.holder d.holder)) same) ∙ apart in
      append_cancel_left (codes "profile ") a b (same_bytes c.holder d.holder (not-false (bytes_eq c.holder d.holder) holders))
