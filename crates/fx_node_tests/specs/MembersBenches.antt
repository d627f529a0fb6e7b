-- Members and their sink, where one selector at most holds on one item, and a set that may be used.
use Rattle.std.specs.Prelude.{◌≡◌, ℕ, Bool, List}
use Rattle.fx_base.specs.SetName.{kind_of}
use Rattle.fx_selector.specs.Tree.{IsSelector}
use Rattle.fx_model.specs.Sets.{IsUse}
use Rattle.fx_model.specs.Tables.{Sets}
use Rattle.fx_model.specs.declared.ids.ItemKey.{ItemKey}
use Rattle.fx_model.specs.declared.set_use.SetUse.{SetUse}
use Rattle.fx_members.specs.Members.{AreMembers}
use Rattle.fx_members.specs.declared.inputs.Inputs.{Inputs}
use Rattle.fx_node_tests.specs.Standing.{standing}

-- the name and what it stands for
pub record IsUsable (name : List ℕ) (set : SetUse) : Type 0 where
  pub kind : kind_of name ≡ set.kind
  pub formed : IsUse set
  pub selector : IsSelector set.selector

-- the sink has what follows from the node's inputs, which know no pair but that of this text and this item
pub record IsMembersBench (n : Inputs) (sets : Sets) (text : List ℕ) (item : ItemKey) (is_there : Bool) (name : List ℕ) (set : SetUse) : Type 0 where
  pub members : AreMembers n sets
  pub told : n.matched ≡ standing text item is_there
  pub usable : IsUsable name set
