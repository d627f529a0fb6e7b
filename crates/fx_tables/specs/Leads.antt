-- Which chains are led to. By iptables(8) a chain can be deleted only where no rule refers to it.
use Rattle.std.specs.Prelude.{◌≡◌, ◌≢◌, List, [], ◌∷◌, Some}
use Rattle.std.specs.FinMap as map
use Rattle.fx_model.specs.declared.chain.Target.{Target}
use Rattle.fx_model.specs.declared.chain.Target.TheVariants as target
use Rattle.fx_model.specs.declared.chain.ChainRule.{ChainRule}
use Rattle.fx_model.specs.Tables.{ChainName, Chains}

-- the target doesn't lead to this chain
abbrev pub LeadsElsewhere : ChainName → Target → Type 0
LeadsElsewhere name target.Accept = Unit {0}
LeadsElsewhere name target.Drop = Unit {0}
LeadsElsewhere name target.Return = Unit {0}
LeadsElsewhere name (target.Jump to) = to ≢ name
LeadsElsewhere name (target.Goto to) = to ≢ name
LeadsElsewhere name (target.Mark value mask) = Unit {0}
LeadsElsewhere name target.Log = Unit {0}

abbrev pub AllLeadElsewhere : ChainName → List ChainRule → Type 0
AllLeadElsewhere name [] = Unit {0}
AllLeadElsewhere name (r ∷ rs) = LeadsElsewhere name r.target × AllLeadElsewhere name rs

-- no rule of any chain leads to this one
abbrev pub NoneLeadsTo : Chains → ChainName → Type 0
NoneLeadsTo chains name = (other : ChainName) (rules : List ChainRule) → map.get chains other ≡ Some rules → AllLeadElsewhere name rules
