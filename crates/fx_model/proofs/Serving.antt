-- How the wanted view grows by one endpoint, and which policies are active.
use Rattle.std.proofs.Common.{◌≡◌, Bool, true, false, ◌&&◌, ◌||◌, List, [], ◌∷◌, ◌++◌, map, ℕ, refl, ap, sym, ◌∙◌}
use Rattle.std.specs.List.{flat_map, list_any}
use Rattle.fx_selector.specs.Truth.{holds}
use Rattle.fx_model.specs.declared.ids.ItemKey.{ItemKey}
use Rattle.fx_model.specs.declared.policy.Policy.{Policy}
use Rattle.fx_model.specs.declared.resources.Endpoint.{Endpoint}
use Rattle.fx_model.specs.Active.{has_types, applies, is_active}
use Rattle.fx_model.specs.Directions.{Ingress, Egress}
use Rattle.fx_model.specs.Labels.{effective_labels, of_endpoint}
use Rattle.fx_model.specs.Resources.{served_endpoints}
use Rattle.std.proofs.lemmas.List.{map-append, append_assoc}
use Rattle.std.proofs.lemmas.Grind.{flat_map-append}
use Rattle.fx_base.specs.Extended.{extended}
use Rattle.fx_base.proofs.ExtendedLemmas.{extended-append}
use Rattle.fx_model.specs.declared.resources.Resources.{Resources}
use Rattle.fx_model.specs.declared.view.ViewProfile.{ViewProfile}
use Rattle.fx_model.specs.Messages.{Named}
use Rattle.fx_names.specs.Digests.{Digest}
use Rattle.fx_model.specs.declared.set_use.SetUse.{SetUse}
use Rattle.fx_model.specs.Views.{profile_entry, uses_of_profile}

-- the profiles of these names, and then those of others
pub profiles_both : (dg : Digest) (R : Resources) (m : Named ViewProfile) (xs ys : List (List ℕ)) → extended m (map (profile_entry dg R) (xs ++ ys)) ≡ extended (extended m (map (profile_entry dg R) xs)) (map (profile_entry dg R) ys)
profiles_both dg R m xs ys = ap (extended m) (map-append (profile_entry dg R) xs ys) ∙ extended-append m (map (profile_entry dg R) xs) (map (profile_entry dg R) ys)

either_way : (h i o rest : Bool) → (((h && i) || (h && o)) || ((i || o) && rest)) ≡ ((i || o) && (h || rest))
either_way true true o rest = refl
either_way true false true rest = refl
either_way true false false rest = refl
either_way false true o rest = refl
either_way false false true rest = refl
either_way false false false rest = refl

never : (i o : Bool) → false ≡ ((i || o) && false)
never true o = refl
never false true = refl
never false false = refl

-- a policy is active that has types and selects the labels of some served endpoint
pub active_by_labels : (R : Resources) (p : Policy) → is_active R p ≡ (has_types p && list_any (holds p.selector) (map (λ x. effective_labels R (of_endpoint x.1)) (served_endpoints R)))
active_by_labels R p = among (served_endpoints R)
  where
    among : (xs : List (ItemKey × Endpoint)) → list_any (λ x. applies R Ingress p x.1 || applies R Egress p x.1) xs ≡ (has_types p && list_any (holds p.selector) (map (λ x. effective_labels R (of_endpoint x.1)) xs))
    among [] = never p.on_ingress p.on_egress
    among (x ∷ xs) =
        ap (λ b. (applies R Ingress p x.1 || applies R Egress p x.1) || b) (among xs)
        ∙ either_way (holds p.selector (effective_labels R (of_endpoint x.1))) p.on_ingress p.on_egress (list_any (holds p.selector) (map (λ x. effective_labels R (of_endpoint x.1)) xs))

-- what the rules of these profiles use, and then those of others
pub uses_both : (R : Resources) (us : List SetUse) (xs ys : List (List ℕ)) → us ++ flat_map (uses_of_profile R) (xs ++ ys) ≡ (us ++ flat_map (uses_of_profile R) xs) ++ flat_map (uses_of_profile R) ys
uses_both R us xs ys = ap (λ zs. us ++ zs) (flat_map-append (uses_of_profile R) xs ys) ∙ sym (append_assoc us (flat_map (uses_of_profile R) xs) (flat_map (uses_of_profile R) ys))
