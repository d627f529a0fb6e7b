-- Tests from the inputs of the index before an update, while its steps go on.
use Rattle.std.specs.Prelude.{◌≡◌, ℕ, true, List, Option, Some, None, ⊤}
use Rattle.std.specs.FinMap as map
use Rattle.fx_label_index.specs.Canonicals.{Selectors, AreCanonical}
use Rattle.fx_label_index.specs.Tested.{IsTested}
use Rattle.fx_label_index.specs.declared.held.Inputs.{Inputs}
use Rattle.fx_members.specs.UseText.{text_of}
use Rattle.fx_model.specs.Sinks.{Uses}
use Rattle.fx_model.specs.declared.set_use.SetUse.{SetUse}
use Rattle.fx_graph_rules.specs.Counting.{StillCounted}

-- the text of each of these sets is counted
abbrev pub AreCountedSets : Selectors → Uses → Type 0
AreCountedSets s uses = (name : List ℕ) (u : SetUse) → map.get uses name ≡ Some u → map.contains_key s (text_of u) ≡ true

-- the same of one set, if there is one
abbrev pub IsCountedSet : Selectors → Option SetUse → Type 0
IsCountedSet s None = ⊤
IsCountedSet s (Some u) = map.contains_key s (text_of u) ≡ true

-- Selectors come, and none has gone: each stands under its canonical text, those that were counted at first still are, and as many
-- tests were made as lie between.
pub record IsRaisedFrom (first : Inputs) (m : ℕ) (now : Inputs) (n : ℕ) : Type 0 where
  pub trees : AreCanonical now.selectors
  pub still : StillCounted first.selectors now.selectors
  pub tests : IsTested first now m n
