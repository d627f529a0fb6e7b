-- The tree of dispatch chains, by which a packet finds the chain of its interface's endpoint. As Felix documents it, a chain of
-- dispatch rules branches where many interfaces' names go on alike; by iptables(8) `-i name+` matches each interface that begins
-- with the name, and a `-g` leads to another chain. The tree is two levels deep: a root, and chains for those bytes behind what
-- all names share with which two names or more go on. Names of interfaces stand here in ascending order.
use Rattle.std.specs.Prelude.{◌≡◌, ℕ, List, [], ◌∷◌, ◌++◌, map, filter, fold, take, drop, length, nat_eq, codes, Bool, true, false, if◌then◌else◌, Option, Some, None}
use Rattle.std.specs.List.{flat_map}
use Rattle.std.specs.Ordering.{nat_cmp}
use Rattle.std.specs.Cmp.Lexicographic.{slice_cmp}
use Rattle.std.specs.FinMap.{put, find}
use Rattle.std.specs.FinMap as maps
use Rattle.fx_base.specs.Extended.{collected}
use Rattle.fx_model.specs.declared.chain.Match.TheVariants as match
use Rattle.fx_model.specs.declared.chain.Target.TheVariants as target
use Rattle.fx_model.specs.declared.chain.ChainRule.{ChainRule}
use Rattle.fx_model.specs.Directions.{Direction, Ingress, Egress}
use Rattle.fx_model.specs.Rendering.{plain}
use Rattle.fx_model.specs.Tables.{ChainName, Chains, endpoint_chain, root_of, end_of, dispatch_rules}

-- ---- where names part

-- the longest beginning that two names share
abbrev pub common_prefix : List ℕ → List ℕ → List ℕ
common_prefix [] ys = []
common_prefix (x ∷ xs) [] = []
common_prefix (x ∷ xs) (y ∷ ys) = if nat_eq x y then x ∷ common_prefix xs ys else []

-- the longest beginning that all names share
abbrev pub shared_prefix : List (List ℕ) → List ℕ
shared_prefix [] = []
shared_prefix (name ∷ names) = fold common_prefix name names

-- what follows the shared beginning in a name: a byte, or nothing in the name that is that beginning
abbrev pub next_byte : List ℕ → List ℕ → List ℕ
next_byte shared name = take 1 (drop (length shared) name)

-- the names in which one byte follows
abbrev pub Branch : Type 0
Branch = List ℕ × List (List ℕ)

abbrev pub names_found : Option (List (List ℕ)) → List (List ℕ)
names_found None = []
names_found (Some names) = names

-- a name more in the branch of its byte
abbrev pub with_name : List ℕ → List ℕ → List Branch → List Branch
with_name byte name others = put (slice_cmp nat_cmp) byte (name ∷ names_found (find (slice_cmp nat_cmp) byte others)) others

-- the branches, by ascending bytes
abbrev pub branches : List ℕ → List (List ℕ) → List Branch
branches shared [] = []
branches shared (name ∷ names) = with_name (next_byte shared name) name (branches shared names)

-- two names or more in which one byte follows have a chain of their own
abbrev pub has_child : List ℕ → List (List ℕ) → Bool
has_child [] names = false
has_child (byte ∷ bytes) [] = false
has_child (byte ∷ bytes) (name ∷ []) = false
has_child (byte ∷ bytes) (name ∷ other ∷ names) = true

-- the branches that have a chain
abbrev pub children : List (List ℕ) → List Branch
children names = filter (λ b. has_child b.0 b.1) (branches (shared_prefix names) names)

-- ---- the chains

abbrev pub child_chain : Direction → List ℕ → ChainName
child_chain d byte = root_of d ++ (codes "-" ++ byte)

-- an interface goes to its endpoint's chain
abbrev pub own_rule : Direction → List ℕ → ChainRule
own_rule d name = plain (match.Iface (end_of d) name false ∷ []) (target.Goto (endpoint_chain d name))

-- all interfaces that begin so go to the chain of their byte
abbrev pub prefix_rule : Direction → List ℕ → List ℕ → ChainRule
prefix_rule d prefix byte = plain (match.Iface (end_of d) prefix true ∷ []) (target.Goto (child_chain d byte))

abbrev pub branch_rules : Direction → List ℕ → Branch → List ChainRule
branch_rules d shared b = if has_child b.0 b.1 then prefix_rule d (shared ++ b.0) b.0 ∷ [] else map (own_rule d) b.1

-- each branch, and every other interface is unknown
abbrev pub root_rules : Direction → List (List ℕ) → List ChainRule
root_rules d names = flat_map (branch_rules d (shared_prefix names)) (branches (shared_prefix names) names) ++ dispatch_rules d []

-- a branch's chain: each of its interfaces, and every other one is unknown
abbrev pub child_entry : Direction → Branch → ChainName × List ChainRule
child_entry d b = (child_chain d b.0, dispatch_rules d b.1)

-- the chains of one direction, the root behind those that it leads to
abbrev pub chains_towards : Direction → List (List ℕ) → List (ChainName × List ChainRule)
chains_towards d names = map (child_entry d) (children names) ++ (root_of d, root_rules d names) ∷ []

-- all dispatch chains of these interfaces, each behind those that it leads to
abbrev pub dispatch_chains_of : List (List ℕ) → List (ChainName × List ChainRule)
dispatch_chains_of names = chains_towards Ingress names ++ chains_towards Egress names

-- the dispatch chains of these interfaces, by their names
abbrev pub tree_of : List (List ℕ) → Chains
tree_of names = collected (dispatch_chains_of names)

-- the dispatch chains among these are those of these interfaces
pub record HoldsTree (names : List (List ℕ)) (chains : Chains) : Type 0 where
  pub roots : (d : Direction) → maps.get chains (root_of d) ≡ maps.get (tree_of names) (root_of d)
  pub children : (d : Direction) (byte : List ℕ) → maps.get chains (child_chain d byte) ≡ maps.get (tree_of names) (child_chain d byte)
