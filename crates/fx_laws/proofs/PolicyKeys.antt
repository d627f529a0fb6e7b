-- Policies with one key are one, where no claims clash and no namespace has a `/`.
use Rattle.std.proofs.Common.{◌≡◌, true, false, not, ◌&&◌, ◌++◌, Some, refl, sym, ap, ◌∙◌}
use Rattle.std.specs.Prelude.{codes}
use Rattle.std.proofs.lemmas.Bool.{not-false}
use Rattle.std.proofs.lemmas.List.{append_cancel_left}
use Rattle.std.specs.Str.{bytes_eq}
use Rattle.std.specs.FinMap as maps
use Rattle.fx_base.specs.Same.{same_bytes}
use Rattle.fx_base.specs.declared.kernel_name.KernelName.TheVariants.{Chain}
use Rattle.fx_names.specs.Digests.{Digest}
use Rattle.fx_names.specs.Names.{prefix_text}
use Rattle.fx_names.specs.declared.prefix.Prefix.TheVariants.{PolicyIn}
use Rattle.fx_names.specs.Claims.{same_name, clashes}
use Rattle.fx_names.proofs.ClaimLists.{same_name-refl}
use Rattle.fx_model.specs.declared.ids.PolicyId.{PolicyId}
use Rattle.fx_model.specs.declared.ids.PolicyId.TheVariants.{Global, Namespaced, Kube}
use Rattle.fx_model.specs.declared.policy.Policy.{Policy}
use Rattle.fx_model.specs.declared.resources.Resources.{Resources}
use Rattle.fx_model.specs.Formed.{is_formed_policy_id}
use Rattle.fx_model.specs.Claims.{IsClashFree}
use Rattle.fx_model.specs.PolicyIdTexts.{policy_id_text}
use Rattle.fx_model.specs.Views.{policy_key}
use Rattle.fx_laws.proofs.ClaimsOfKeys.{policy_ingress_claim, policy_ingress_claimed}
use Rattle.fx_laws.proofs.Parted.{parted, unlike}

-- a policy's id is told by its text
same_id : (a b : PolicyId) → is_formed_policy_id a ≡ true → is_formed_policy_id b ≡ true → policy_id_text a ≡ policy_id_text b → a ≡ b
same_id (Global a) (Global b) g h e = let p = append_cancel_left (codes "gnp/") a b e in λ i. Global (p i)
same_id (Global a) (Namespaced ms m) g h e = unlike 103 110 refl refl _ _ e
same_id (Global a) (Kube ms m) g h e = unlike 103 107 refl refl _ _ e
same_id (Namespaced ns n) (Global b) g h e = unlike 110 103 refl refl _ _ e
same_id (Namespaced ns n) (Namespaced ms m) g h e =
    let p = parted 47 refl ns ms n m g h (append_cancel_left (codes "np/") (ns ++ (codes "/" ++ n)) (ms ++ (codes "/" ++ m)) e) in
    λ i. Namespaced (p.0 i) (p.1 i)
same_id (Namespaced ns n) (Kube ms m) g h e = unlike 110 107 refl refl _ _ e
same_id (Kube ns n) (Global b) g h e = unlike 107 103 refl refl _ _ e
same_id (Kube ns n) (Namespaced ms m) g h e = unlike 107 110 refl refl _ _ e
same_id (Kube ns n) (Kube ms m) g h e =
    let p = parted 47 refl ns ms n m g h (append_cancel_left (codes "knp/") (ns ++ (codes "/" ++ n)) (ms ++ (codes "/" ++ m)) e) in
    λ i. Kube (p.0 i) (p.1 i)

-- policies with one key have one chain, so one claims it
pub policies_apart : (dg : Digest) (R : Resources) → IsClashFree dg R → (a b : PolicyId) (p q : Policy) → maps.get R.policies a ≡ Some p → maps.get R.policies b ≡ Some q → is_formed_policy_id a ≡ true → is_formed_policy_id b ≡ true → policy_key dg a ≡ policy_key dg b → a ≡ b
policies_apart dg R free a b p q at there g h keys =
    let c = policy_ingress_claim dg a in
    let d = policy_ingress_claim dg b in
    let chains : c.name ≡ d.name = ap (λ k. Chain (prefix_text PolicyIn ++ k)) keys in
    let same : same_name c.name d.name ≡ true = ap (same_name c.name) (sym chains) ∙ same_name-refl c.name in
    let apart : clashes c d ≡ false = free c d (policy_ingress_claimed dg R a p at) (policy_ingress_claimed dg R b q there) in
    let holders : not (bytes_eq c.holder d.holder) ≡ false = sym (ap (λ t. t && not (bytes_eq c.holder d.holder)) same) ∙ apart in
    same_id a b g h (append_cancel_left (codes "policy ") (policy_id_text a) (policy_id_text b) (same_bytes c.holder d.holder (not-false (bytes_eq c.holder d.holder) holders)))
