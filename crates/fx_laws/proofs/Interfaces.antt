-- Local endpoints on one interface are one endpoint, where no claims clash and no namespace has a `/`.
use Rattle.std.proofs.Common.{◌≡◌, ℕ, ◌<◌, true, false, not, ◌&&◌, List, [], ◌∷◌, ◌++◌, Some, refl, sym, ap, ◌∙◌, arith}
use Rattle.std.specs.Prelude.{codes, Option, if◌then◌else◌}
use Rattle.std.proofs.lemmas.Bool.{not-false}
use Rattle.std.proofs.lemmas.List.{append_cancel_left}
use Rattle.std.specs.List.{flat_map}
use Rattle.std.specs.Str.{bytes_eq}
use Rattle.std.specs.FinMap as maps
use Rattle.fx_base.specs.Same.{same_bytes, both_pass}
use Rattle.fx_base.specs.declared.kernel_name.KernelName.TheVariants.{Chain}
use Rattle.fx_names.specs.Digests.{Digest}
use Rattle.fx_names.specs.Names.{chain_name_of}
use Rattle.fx_names.specs.declared.claim.Claim.{Claim}
use Rattle.fx_names.specs.declared.prefix.Prefix.TheVariants.{ToEndpoint, FromEndpoint}
use Rattle.fx_names.specs.Claims.{same_name, clashes, times}
use Rattle.fx_names.proofs.ClaimLists.{same_name-refl, times-itself}
use Rattle.fx_model.specs.declared.ids.ItemKey.{ItemKey}
use Rattle.fx_model.specs.declared.ids.ItemKey.TheVariants as item_key
use Rattle.fx_model.specs.declared.ids.Key.TheVariants as key
use Rattle.fx_model.specs.declared.resources.Endpoint.{Endpoint}
use Rattle.fx_model.specs.declared.resources.Resources.{Resources}
use Rattle.fx_model.specs.Resources.{is_local}
use Rattle.fx_model.specs.Formed.{is_formed_namespace, is_formed_item_key, is_formed_endpoint, is_formed_endpoint_entry}
use Rattle.fx_model.specs.Claims.{item_text, interface_claims, profile_chains, listed_claims, claims_at, all_claims, IsClashFree}
use Rattle.fx_laws.proofs.ClaimsCounted.{times-at}
use Rattle.fx_laws.proofs.Parted.{parted}

-- no endpoint stands at a network set's key
not_at_set : {P : Type 0} (ns : Option (List ℕ)) (n : List ℕ) (e : Endpoint) → is_formed_endpoint_entry (item_key.NetSet ns n, e) ≡ true → P
not_at_set ns n e h = let wrong : false ≡ true = (both_pass (is_formed_item_key (item_key.NetSet ns n)) false h).1 in cc

-- an endpoint's key is told by its text
pub same_key : (k l : ItemKey) (e f : Endpoint) → is_formed_endpoint_entry (k, e) ≡ true → is_formed_endpoint_entry (l, f) ≡ true → item_text k ≡ item_text l → k ≡ l
same_key (item_key.Endpoint ns n) (item_key.Endpoint ms m) e f g h same =
    let p = parted 47 refl ns ms n m (both_pass (is_formed_namespace ns) (is_formed_endpoint e) g).0 (both_pass (is_formed_namespace ms) (is_formed_endpoint f) h).0 same in
    λ i. item_key.Endpoint (p.0 i) (p.1 i)
same_key (item_key.Endpoint ns n) (item_key.NetSet ms m) e f g h same = not_at_set ms m f h
same_key (item_key.NetSet ns n) l e f g h same = not_at_set ns n e g

module _ (dg : Digest) (R : Resources) where
  -- an endpoint's claim on the chain of what goes to it
  abbrev interface_claim : ItemKey → Endpoint → Claim
  interface_claim k e = record { name = Chain (chain_name_of dg ToEndpoint e.iface); holder = codes "endpoint " ++ item_text k }

  interface_claimed : (k : ItemKey) (e : Endpoint) → is_formed_endpoint_entry (k, e) ≡ true → maps.get R.endpoints k ≡ Some e → is_local R e ≡ true → 0 < times (interface_claim k e) (all_claims dg R)
  interface_claimed (item_key.NetSet ns n) e formed at here = not_at_set ns n e formed
  interface_claimed (item_key.Endpoint ns n) e formed at here =
      let k = item_key.Endpoint ns n in
      let c = interface_claim k e in
      let profiles = flat_map (profile_chains dg) e.profiles in
      let second : Claim = record { name = Chain (chain_name_of dg FromEndpoint e.iface); holder = codes "endpoint " ++ item_text k } in
      let claims : claims_at dg R (key.Item k) ≡ c ∷ second ∷ profiles =
      ap (listed_claims dg R.node k) at ∙ ap (λ b. if b then interface_claims dg k e ++ profiles else []) here in
      omega (arith, times-at c dg R (key.Item k), ap (times c) claims, times-itself c (second ∷ profiles))

  -- the holders of one chain are one
  pub one_interface : IsClashFree dg R → (k l : ItemKey) (e f : Endpoint) → is_formed_endpoint_entry (k, e) ≡ true → is_formed_endpoint_entry (l, f) ≡ true → maps.get R.endpoints k ≡ Some e → maps.get R.endpoints l ≡ Some f → is_local R e ≡ true → is_local R f ≡ true → e.iface ≡ f.iface → item_text k ≡ item_text l
  one_interface free k l e f formed proper at there here local same =
      let c = interface_claim k e in
      let d = interface_claim l f in
      let chains : c.name ≡ d.name = ap (λ iface. Chain (chain_name_of dg ToEndpoint iface)) same in
      let named : same_name c.name d.name ≡ true = ap (same_name c.name) (sym chains) ∙ same_name-refl c.name in
      let apart : clashes c d ≡ false = free c d (interface_claimed k e formed at here) (interface_claimed l f proper there local) in
      let holders : not (bytes_eq c.holder d.holder) ≡ false = sym (ap (λ t. t && not (bytes_eq c.holder d.holder)) named) ∙ apart in
      append_cancel_left (codes "endpoint ") (item_text k) (item_text l) (same_bytes c.holder d.holder (not-false (bytes_eq c.holder d.holder) holders))
