-- Claims that are pushed one after another.
use Rattle.std.proofs.Common.{◌≡◌, ℕ, true, List, [], ◌∷◌, ◌++◌, ap, ◌∙◌, append_assoc}
use Rattle.std.specs.Prelude.{if◌then◌else◌}
use Rattle.std.specs.List.{flat_map}
use Rattle.std.specs.Str.{bytes_eq}
use Rattle.fx_base.specs.declared.kernel_name.KernelName.TheVariants.{Chain}
use Rattle.fx_names.specs.Digests.{Digest}
use Rattle.fx_names.specs.Names.{chain_name_of}
use Rattle.fx_names.specs.declared.claim.Claim.{Claim}
use Rattle.fx_names.specs.declared.prefix.Prefix.{Prefix}
use Rattle.fx_model.specs.declared.ids.ItemKey.{ItemKey}
use Rattle.fx_model.specs.declared.resources.Endpoint.{Endpoint}
use Rattle.fx_model.specs.Claims.{profile_chains, interface_claims, endpoint_claims}

abbrev chain_claim : Digest → Prefix → List ℕ → List ℕ → Claim
chain_claim dg p suffix holder = record { name = Chain (chain_name_of dg p suffix); holder = holder }

-- two chains' claims by one holder, of which the first has a copy
pub two_chains : (dg : Digest) (p q : Prefix) (s t h k w : List ℕ) (old mid new : List Claim) → mid ≡ old ++ chain_claim dg p t h ∷ [] → new ≡ mid ++ chain_claim dg q t k ∷ [] → t ≡ s → h ≡ k → k ≡ w → new ≡ old ++ chain_claim dg p s w ∷ chain_claim dg q s w ∷ []
two_chains dg p q s t h k w old mid new first second suffix copy holder =
    second ∙ ap (λ l. l ++ chain_claim dg q t k ∷ []) first ∙ append_assoc old (chain_claim dg p t h ∷ []) (chain_claim dg q t k ∷ [])
    ∙ (λ i. old ++ chain_claim dg p (suffix i) ((copy ∙ holder) i) ∷ chain_claim dg q (suffix i) (holder i) ∷ [])

pub both_pushed : (old mid new xs ys all : List Claim) → mid ≡ old ++ xs → new ≡ mid ++ ys → xs ++ ys ≡ all → new ≡ old ++ all
both_pushed old mid new xs ys all p q e = q ∙ ap (λ l. l ++ ys) p ∙ append_assoc old xs ys ∙ ap (λ l. old ++ l) e

pub local_claims : (dg : Digest) (node : List ℕ) (k : ItemKey) (e : Endpoint) → true ≡ bytes_eq e.node node → interface_claims dg k e ++ flat_map (profile_chains dg) e.profiles ≡ endpoint_claims dg node k e
local_claims dg node k e h = ap (λ b. if b then interface_claims dg k e ++ flat_map (profile_chains dg) e.profiles else []) h
