-- Which tables and operations are about Felix's own sets and chains alone. From Felix: its sets begin with `cali40` and
-- its chains with `cali-`.
use Rattle.std.specs.Prelude.{◌≡◌, true, ℕ, List, Bool}
use Rattle.std.specs.List.{AllByRecursion}
use Rattle.std.specs.FinMap as maps
use Rattle.fx_model.specs.Tables.{ChainName, Sets, Chains, Tables}
use Rattle.fx_found.specs.NameForms.{is_own_set, is_own_chain}
use Rattle.fx_reconcile.specs.declared.op.Op.{Op}
use Rattle.fx_reconcile.specs.declared.op.Op.TheVariants.{CreateSet, AddMember, WriteChain, DeleteChain, RemoveMember, DestroySet}

-- ---- tables

abbrev pub AreOwnSets : Sets → Type 0
AreOwnSets sets = (name : List ℕ) → maps.contains_key sets name ≡ true → is_own_set name ≡ true

abbrev pub AreOwnChains : Chains → Type 0
AreOwnChains chains = (name : ChainName) → maps.contains_key chains name ≡ true → is_own_chain name ≡ true

-- all sets and chains that are there are own
pub record AreOwn (t : Tables) : Type 0 where
  pub sets : AreOwnSets t.sets
  pub chains : AreOwnChains t.chains

-- ---- operations

-- the set or the chain that the operation names is own
abbrev pub names_own_set_or_chain : Op → Bool
names_own_set_or_chain (CreateSet name) = is_own_set name
names_own_set_or_chain (AddMember name x) = is_own_set name
names_own_set_or_chain (WriteChain name) = is_own_chain name
names_own_set_or_chain (DeleteChain name) = is_own_chain name
names_own_set_or_chain (RemoveMember name x) = is_own_set name
names_own_set_or_chain (DestroySet name) = is_own_set name

abbrev pub AllNameOwn : List Op → Type 0
AllNameOwn ops = AllByRecursion (λ op. names_own_set_or_chain op ≡ true) ops
