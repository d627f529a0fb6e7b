-- What a plan does to chains: it writes chains one after another, and then deletes others. By iptables(8) a rule leads only to a
-- chain that is there, and a chain can be deleted only where no rule leads to it.
use Rattle.std.specs.Prelude.{◌≡◌, ◌≢◌, ℕ, List, [], ◌∷◌, ◌++◌, map, true, false, Some}
use Rattle.std.specs.List.{AllByRecursion}
use Rattle.std.specs.Ordering.{nat_cmp}
use Rattle.std.specs.Cmp.Lexicographic.{slice_cmp}
use Rattle.std.specs.FinMap as maps
use Rattle.fx_base.specs.Extended.{extended}
use Rattle.fx_base.specs.Set as set
use Rattle.fx_model.specs.declared.chain.ChainRule.{ChainRule}
use Rattle.fx_model.specs.Directions.{Direction}
use Rattle.fx_model.specs.Tables.{ChainName, Chains, Sets, endpoint_chain}
use Rattle.fx_model.specs.Writing.{CanBeWritten}
use Rattle.fx_laws.specs.DispatchNames.{IsElsewhere}
use Rattle.fx_tables.specs.Leads.{AllLeadElsewhere, NoneLeadsTo}
use Rattle.fx_model.specs.Tree.{child_chain, HoldsTree}
use Rattle.fx_model.specs.Tree as tree

abbrev pub Writes : Type 0
Writes = List (ChainName × List ChainRule)

abbrev pub Names : Type 0
Names = set.Set (slice_cmp nat_cmp)

-- ---- dispatch chains among others

-- the dispatch chains of these interfaces, by their names
abbrev pub tree_of : Names → Chains
tree_of names = tree.tree_of (set.items names)

-- the chains of these interfaces' endpoints are there
abbrev pub EndpointsAreThere : Names → Chains → Type 0
EndpointsAreThere names chains = (d : Direction) (name : List ℕ) → set.contains names name ≡ true → maps.contains_key chains (endpoint_chain d name) ≡ true

-- no other chain leads to the chain of a byte
abbrev pub OthersLeadElsewhere : Chains → Type 0
OthersLeadElsewhere chains =
    (name : ChainName) (rules : List ChainRule) → IsElsewhere name → maps.get chains name ≡ Some rules → (d : Direction) (byte : ℕ) → AllLeadElsewhere (child_chain d (byte ∷ [])) rules

-- ---- a plan that is carried out

abbrev pub without : Chains → List ChainName → Chains
without chains [] = chains
without chains (name ∷ names) = without (maps.remove chains name) names

-- the chains are written, and then the others are deleted
abbrev pub applied : Writes → List ChainName → Chains → Chains
applied writes deletes chains = without (extended chains writes) deletes

-- each of these chains can be deleted at its turn
abbrev pub CanBeDeleted : Chains → List ChainName → Type 0
CanBeDeleted chains [] = Unit {0}
CanBeDeleted chains (name ∷ names) = NoneLeadsTo chains name × CanBeDeleted (maps.remove chains name) names

-- ---- what is promised of a plan from some interfaces to others

-- among any chains it puts one tree in the place of the other, and leaves all else
pub record Replaces (old new : Names) (writes : Writes) (deletes : List ChainName) : Type 0 where
  pub tree : (chains : Chains) → HoldsTree (set.items old) chains → HoldsTree (set.items new) (applied writes deletes chains)
  pub others : (chains : Chains) (name : ChainName) → IsElsewhere name → maps.get (applied writes deletes chains) name ≡ maps.get chains name

-- no chain is written twice
abbrev pub AllOnce : Writes → Type 0
AllOnce [] = Unit {0}
AllOnce (w ∷ ws) = AllByRecursion (λ v. v.0 ≢ w.0) ws × AllOnce ws

-- each chain that it writes is new or differs and is written once, and each that it deletes was there and is there no more
pub record ChangesOnly (old new : Names) (writes : Writes) (deletes : List ChainName) : Type 0 where
  pub once : AllOnce writes
  pub differ : AllByRecursion (λ w. maps.get (tree_of old) w.0 ≢ Some w.1) writes
  pub stood : AllByRecursion (λ name. maps.contains_key (tree_of old) name ≡ true) deletes
  pub gone : AllByRecursion (λ name. maps.contains_key (tree_of new) name ≡ false) deletes

-- no name stands twice
abbrev pub AreApart : List ChainName → Type 0
AreApart [] = Unit {0}
AreApart (name ∷ names) = AllByRecursion (λ n. n ≢ name) names × AreApart names

-- the chains differ at exactly these names, each of which stands once
pub record DifferAt (old new : Chains) (names : List ChainName) : Type 0 where
  pub once : AreApart names
  pub differ : AllByRecursion (λ name. maps.get old name ≢ maps.get new name) names
  pub others : (name : ChainName) → AllByRecursion (λ n. n ≢ name) names → maps.get old name ≡ maps.get new name

-- the chains that it writes and deletes
abbrev pub touched : Writes → List ChainName → List ChainName
touched writes deletes = map (λ w. w.0) writes ++ deletes

-- it writes or deletes each dispatch chain that differs, once, and no other
abbrev pub IsExact : Names → Names → Writes → List ChainName → Type 0
IsExact old new writes deletes = DifferAt (tree_of old) (tree_of new) (touched writes deletes)

-- where the endpoints' chains are there, each chain can be written at its turn
abbrev pub AreWritable : Names → Names → Writes → Type 0
AreWritable old new writes = (sets : Sets) (chains : Chains) → HoldsTree (set.items old) chains → EndpointsAreThere new chains → CanBeWritten sets chains writes

-- and then each of the others can be deleted at its turn
abbrev pub AreDeletable : Names → Writes → List ChainName → Type 0
AreDeletable old writes deletes = (chains : Chains) → HoldsTree (set.items old) chains → OthersLeadElsewhere chains → CanBeDeleted (extended chains writes) deletes
