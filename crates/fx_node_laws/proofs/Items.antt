-- What the index knows of the items of the resources.
use Rattle.std.proofs.Common.{◌≡◌, ℕ, true, false, List, Option, Some, None, refl, ap, ◌∙◌}
use Rattle.std.specs.Prelude.{option_map}
use Rattle.std.specs.FinMap as map
use Rattle.fx_names.specs.Digests.{Digest}
use Rattle.fx_selector.specs.Tree.{Tree}
use Rattle.fx_selector.specs.Truth.{holds}
use Rattle.fx_model.specs.declared.ids.ItemKey.{ItemKey}
use Rattle.fx_model.specs.declared.ids.ItemKey.TheVariants as item_key
use Rattle.fx_model.specs.declared.policy.NetSet.{NetSet}
use Rattle.fx_model.specs.declared.resources.Endpoint.{Endpoint}
use Rattle.fx_model.specs.declared.resources.Item.{Item}
use Rattle.fx_model.specs.declared.resources.Item.TheVariants as item
use Rattle.fx_model.specs.declared.resources.Resources.{Resources}
use Rattle.fx_model.specs.Labels.{labelled, effective, labels_of}
use Rattle.fx_model.specs.Tests.{item_at, labels_at}
use Rattle.fx_label_index.specs.declared.held.Held.{Held}
use Rattle.fx_label_index.specs.declared.held.Inputs as index
use Rattle.fx_label_index.specs.Matched.{holds_on, labels_of as held_labels}
use Rattle.fx_label_index.specs.Tested.{labels_in}
use Rattle.fx_active.specs.declared.inputs.Inputs as active
use Rattle.fx_graph_rules.specs.Composed.{holds_at}
use Rattle.fx_resolver.specs.declared.inputs.Inputs as resolver
use Rattle.fx_members.specs.declared.inputs.Inputs as members
use Rattle.fx_node_laws.specs.Tied.{held_of, IsTied}

-- what the index holds of an item that is there
abbrev pub held_at : ItemKey → Item → Held
held_at k x = record { labels = (labelled k x).labels; parents = (labelled k x).parents }

module _ {dg : Digest} {R : Resources} {n : index.Inputs} {a : active.Inputs} {r : resolver.Inputs} {m : members.Inputs} (tied : IsTied dg R n a r m) where
  -- an endpoint that is there is the item at its key, and so is a network set
  pub endpoint_item : (k : ItemKey) (e : Endpoint) → map.get R.endpoints k ≡ Some e → item_at R k ≡ Some (item.Endpoint e)
  endpoint_item (item_key.Endpoint ns name) e h = ap (λ o. option_map item.Endpoint o) h
  endpoint_item (item_key.NetSet ns name) e h = let wrong : false ≡ true = tied.kinds_endpoints (item_key.NetSet ns name) e h in cc

  pub set_item : (k : ItemKey) (s : NetSet) → map.get R.net_sets k ≡ Some s → item_at R k ≡ Some (item.NetSet s)
  set_item (item_key.Endpoint ns name) s h = let wrong : false ≡ true = tied.kinds_sets (item_key.Endpoint ns name) s h in cc
  set_item (item_key.NetSet ns name) s h = ap (λ o. option_map item.NetSet o) h

  -- a selector holds for the index where it holds on the item's effective labels
  pub holds_item : (t : Tree) (k : ItemKey) (x : Item) → item_at R k ≡ Some x → holds_at n t k ≡ holds t (labels_of R (k, x))
  holds_item t k x h =
      ap (λ o. holds_on t (held_labels (map.get n.parents) o)) (tied.items k ∙ ap (held_of k) h)
      ∙ (λ j. holds t (effective (λ (name : List ℕ). tied.parents name j) (labelled k x).labels (labelled k x).parents))

  -- its labels are the item's effective ones
  pub labels_held : (x : ItemKey × Item) → held_labels (map.get n.parents) (Some (held_at x.0 x.1)) ≡ Some (labels_of R x)
  labels_held x = λ j. Some (effective (λ (name : List ℕ). tied.parents name j) (labelled x.0 x.1).labels (labelled x.0 x.1).parents)

  pub labels_known : (k : ItemKey) → labels_in n k ≡ labels_at R k
  labels_known k = ap (held_labels (map.get n.parents)) (tied.items k) ∙ by_item (item_at R k)
    where
      by_item : (o : Option Item) → held_labels (map.get n.parents) (held_of k o) ≡ option_map (λ (x : Item). labels_of R (k, x)) o
      by_item None = refl
      by_item (Some x) = labels_held (k, x)
