-- What holds of all that the node holds, between calls.
use Rattle.std.specs.Prelude.{◌≡◌, Bool}
use Rattle.fx_model.specs.Pairs.{PolicyPairs}
use Rattle.fx_model.specs.declared.ids.ItemKey.{ItemKey}
use Rattle.fx_resolver.specs.declared.rows.Rows.{Rows}
use Rattle.fx_resolver.specs.declared.state.State.{State}
use Rattle.fx_resolver.specs.Known.{KnownPolicies, KnownEndpoints}
use Rattle.fx_resolver.specs.Lists.{AreLists, row_in}
use Rattle.fx_resolver.specs.Placed.{TierStands, stands_of}
use Rattle.fx_resolver.specs.Resolved.{HaveOwnInterfaces}
use Rattle.fx_resolver.specs.Rows.{IsToldBut, rows_by}

-- the lists are those of these orders, policies and pairs, and the rows that were told are made from them
pub record IsKept (orders : TierStands) (policies : KnownPolicies) (pairs : PolicyPairs) (endpoints : KnownEndpoints) (rows : Rows) : Type 0 where
  pub lists_are : AreLists orders policies pairs rows.lists
  pub told_is : rows.told ≡ rows_by (row_in rows.lists) endpoints
  pub apart : HaveOwnInterfaces endpoints

abbrev pub IsKeptState : State → Type 0
IsKeptState s = IsKept (stands_of s.inputs.tiers) s.inputs.policies s.inputs.pairs s.inputs.endpoints s.rows

-- ---- while pairs change

-- the same, but these items are still to be told
pub record IsKeptBut (but : ItemKey → Bool) (orders : TierStands) (policies : KnownPolicies) (pairs : PolicyPairs) (endpoints : KnownEndpoints) (rows : Rows) : Type 0 where
  pub lists_are : AreLists orders policies pairs rows.lists
  pub told_is : IsToldBut (row_in rows.lists) endpoints but rows.told
  pub apart : HaveOwnInterfaces endpoints

abbrev pub IsKeptStateBut : (ItemKey → Bool) → State → Type 0
IsKeptStateBut but s = IsKeptBut but (stands_of s.inputs.tiers) s.inputs.policies s.inputs.pairs s.inputs.endpoints s.rows
