-- Active rules and their sink, where one selector at most holds on one item.
use Rattle.std.specs.Prelude.{◌≡◌, ℕ, Bool, List}
use Rattle.fx_model.specs.declared.ids.ItemKey.{ItemKey}
use Rattle.fx_record.specs.declared.records.RecordActive.{RecordActive}
use Rattle.fx_active.specs.Node.{IsActive}
use Rattle.fx_active.specs.declared.inputs.Inputs.{Inputs}
use Rattle.fx_node_tests.specs.Standing.{standing}

-- the sink has what follows from the node's inputs, which know no pair but that of this text and this item
pub record IsActiveBench (n : Inputs) (sink : RecordActive) (text : List ℕ) (item : ItemKey) (is_there : Bool) : Type 0 where
  pub active : IsActive n sink.policies sink.profiles sink.pairs
  pub told : n.matched ≡ standing text item is_there
