-- Endpoints of which there is one at most.
use Rattle.std.proofs.Common.{◌≡◌, true, false, cond, None, Some, refl, sym, ap, ◌∙◌}
use Rattle.std.specs.FinMap as map
use Rattle.fx_model.specs.declared.ids.ItemKey.{ItemKey}
use Rattle.fx_model.specs.contracts.ids.ItemKeyOrd.TheImpl.{cmp-value}
use Rattle.fx_model.proofs.Orders.{item_total, exact_item}
use Rattle.fx_resolver.specs.declared.known.KnownEndpoint.{KnownEndpoint}
use Rattle.fx_resolver.specs.Indexes.{same_item}
use Rattle.fx_resolver.specs.Known.{KnownEndpoints}
use Rattle.fx_resolver.specs.Resolved.{HaveOwnInterfaces}
use Rattle.fx_base.proofs.Cases.{none_some}
use Rattle.fx_base.proofs.Keyed.{one_key}

-- what is there is this item
abbrev pub OnlyAt : ItemKey → KnownEndpoints → Type 0
OnlyAt item endpoints = (i : ItemKey) (e : KnownEndpoint) → map.get endpoints i ≡ Some e → i ≡ item

pub only_empty : (item : ItemKey) (endpoints : KnownEndpoints) → endpoints ≡ map.empty → OnlyAt item endpoints
only_empty item endpoints is i e h = none_some e (sym (ap (λ m. map.get m i) is ∙ map.get-empty cmp-value.it i) ∙ h)

module _ (item : ItemKey) (endpoints : KnownEndpoints) (only : OnlyAt item endpoints) where
  pub only_put : (e : KnownEndpoint) → OnlyAt item (map.insert endpoints item e)
  only_put e i f there =
      elim (same_item i item) as (λ b. same_item i item ≡ b → cond b (Some e) (map.get endpoints i) ≡ Some f → i ≡ item) [
        | true ↦ λ h g. one_key exact_item i item h
        | false ↦ λ h g. only i f g
      ] refl (sym (map.get-insert item_total endpoints item e i) ∙ there)

  pub only_gone : (k : ItemKey) → OnlyAt item (map.remove endpoints k)
  only_gone k i f there =
      elim (same_item i k) as (λ b. cond b None (map.get endpoints i) ≡ Some f → i ≡ item) [
        | true ↦ λ g. none_some f g
        | false ↦ λ g. only i f g
      ] (sym (map.get-remove item_total endpoints k i) ∙ there)

-- it shares its interface with no other one
pub alone_apart : (item : ItemKey) (endpoints : KnownEndpoints) → OnlyAt item endpoints → HaveOwnInterfaces endpoints
alone_apart item endpoints only i j e f there here same = only i e there ∙ sym (only j f here)
