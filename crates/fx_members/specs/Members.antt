-- What the sink is to have. From Felix's documented calculation graph: the members of an IP set are what the items give that its
-- selector matches. From ipset(8): a set holds a member once, however many items give it.
use Rattle.std.specs.Prelude.{◌≡◌, ℕ, List, filter, option_map}
use Rattle.std.specs.FinMap as map
use Rattle.fx_base.specs.Extended.{collected}
use Rattle.fx_base.specs.Set as set
use Rattle.fx_base.specs.Set.{marked}
use Rattle.fx_model.specs.Messages.{Members}
use Rattle.fx_model.specs.Pairs.{Pairs}
use Rattle.fx_model.specs.Sets.{contributions}
use Rattle.fx_model.specs.Tables.{Sets}
use Rattle.fx_model.specs.declared.ids.ItemKey.{ItemKey}
use Rattle.fx_model.specs.declared.resources.Item.{Item}
use Rattle.fx_model.specs.declared.set_use.SetUse.{SetUse}
use Rattle.fx_members.specs.Inputs.{Items}
use Rattle.fx_members.specs.UseText.{text_of}
use Rattle.fx_members.specs.declared.inputs.Inputs.{Inputs}

-- the items on which the selector of a text holds, in their order
abbrev pub matched_items : Items → Pairs → List ℕ → List (ItemKey × Item)
matched_items items matched t = filter (λ x. set.contains matched (t, x.0)) (map.entries items)

-- the members of a used set
abbrev pub members_for : Items → Pairs → SetUse → Members
members_for items matched u = collected (marked (contributions u (matched_items items matched (text_of u))))

-- the node's relation: its sink has the sets that are used, each with its members
abbrev pub AreMembers : Inputs → Sets → Type 0
AreMembers n sets = (name : List ℕ) → map.get sets name ≡ option_map (members_for n.items n.matched) (map.get n.uses name)
