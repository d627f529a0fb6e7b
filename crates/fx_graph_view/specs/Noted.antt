-- What sets were at a start, of those that may have changed since.
use Rattle.std.specs.Prelude.{◌≡◌, ℕ, List, Option, Some, None}
use Rattle.std.specs.FinMap as map
use Rattle.fx_base.specs.SetName.{kind_of}
use Rattle.fx_selector.specs.Tree.{IsSelector}
use Rattle.fx_model.specs.Messages.{Named}
use Rattle.fx_model.specs.Sets.{IsUse}
use Rattle.fx_model.specs.Sinks.{Uses}
use Rattle.fx_model.specs.declared.set_use.SetUse.{SetUse}

-- by their names, with none for one that wasn't used then
abbrev pub Before : Type 0
Before = Named (Option SetUse)

-- what is noted is what stood at the start; of what isn't noted the same stands
abbrev pub IsNote : Option (Option SetUse) → Option SetUse → Option SetUse → Type 0
IsNote None start now = start ≡ now
IsNote (Some was) start now = was ≡ start

pub record AreNoted (before : Before) (start now : Uses) : Type 0 where
  pub at : (name : List ℕ) → IsNote (map.get before name) (map.get start name) (map.get now name)

-- the name is of the set's kind, kind and text are made from selector and port, and the selector is one that `Selector` keeps
pub record IsFormed (name : List ℕ) (u : SetUse) : Type 0 where
  pub kind : kind_of name ≡ u.kind
  pub made : IsUse u
  pub selector : IsSelector u.selector

abbrev pub AreFormed : Uses → Type 0
AreFormed uses = (name : List ℕ) (u : SetUse) → map.get uses name ≡ Some u → IsFormed name u
