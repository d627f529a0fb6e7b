-- What holds of all that the node holds, between calls.
use Rattle.std.specs.Prelude.{◌≡◌, ℕ, List}
use Rattle.std.specs.FinMap as map
use Rattle.fx_model.specs.Tables.{Sets}
use Rattle.fx_model.specs.declared.member.Member.{Member}
use Rattle.fx_members.specs.Counts.{Counts, count_at, due, HaveSameKeys, AreTold}
use Rattle.fx_members.specs.Indexes.{AreByText, AreByItem}
use Rattle.fx_members.specs.declared.inputs.Inputs.{Inputs}
use Rattle.fx_members.specs.declared.state.State.{State}

-- a member is counted for a set as often as the set's items contribute it
abbrev pub AreCounted : Inputs → Counts → Type 0
AreCounted n counts = (name : List ℕ) (m : Member) → count_at counts name m ≡ due n.items n.matched (map.get n.uses name) m

-- names are found by texts, texts by items, and members are counted
pub record IsKept (s : State) : Type 0 where
  pub by_text : AreByText s.names s.inputs.uses
  pub by_item : AreByItem s.texts s.inputs.matched
  pub counted : AreCounted s.inputs s.counts

-- a sink has the sets that are used, with the members that are counted
pub record IsTold (s : State) (sets : Sets) : Type 0 where
  pub named : HaveSameKeys s.inputs.uses sets
  pub told : AreTold s.counts sets
