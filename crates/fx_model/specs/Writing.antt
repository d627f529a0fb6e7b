-- The order in which chains can be written. By iptables(8) a rule may lead only to a chain that is there, and the kernel
-- refuses tables with a loop.
use Rattle.std.specs.Prelude.{◌≡◌, List, [], ◌∷◌, true}
use Rattle.std.specs.FinMap as maps
use Rattle.fx_model.specs.declared.chain.ChainRule.{ChainRule}
use Rattle.fx_model.specs.Tables.{ChainName, Chains, Sets}
use Rattle.fx_model.specs.Ranks.{AllLeadBelow, rank_of}
use Rattle.fx_model.specs.Closed.{AllLeadThere, AllNameThere}
use Rattle.fx_model.specs.Shapes.{have_shape}

-- a chain can be written: it leads to chains that are there and of lower ranks, names sets that are there, and its rules have
-- the shapes of rules
pub record IsWritable (sets : Sets) (chains : Chains) (name : ChainName) (rules : List ChainRule) : Type 0 where
  pub there : AllLeadThere chains rules
  pub below : AllLeadBelow (rank_of name) rules
  pub named : AllNameThere sets rules
  pub shaped : have_shape rules ≡ true

-- each of these chains can be written at its turn
abbrev pub CanBeWritten : Sets → Chains → List (ChainName × List ChainRule) → Type 0
CanBeWritten sets chains [] = Unit {0}
CanBeWritten sets chains (e ∷ es) = IsWritable sets chains e.0 e.1 × CanBeWritten sets (maps.insert chains e.0 e.1) es
