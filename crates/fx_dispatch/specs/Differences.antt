-- What differs between two trees of dispatch chains.
use Rattle.std.specs.Prelude.{List, [], ◌∷◌, ◌++◌, ℕ, Bool, false, not, ◌&&◌, nat_eq, Option, Some, None, if◌then◌else◌}
use Rattle.std.specs.List.{flat_map}
use Rattle.std.specs.Ordering.{nat_cmp}
use Rattle.std.specs.Cmp.Lexicographic.{slice_cmp, pointwise}
use Rattle.std.specs.FinMap.{find}
use Rattle.fx_model.specs.declared.chain.ChainRule.{ChainRule}
use Rattle.fx_model.specs.Directions.{Direction, Ingress, Egress}
use Rattle.fx_model.specs.Tables.{ChainName, root_of}
use Rattle.fx_dispatch.specs.declared.way.Way.{Way}
use Rattle.fx_dispatch.specs.contracts.way.WayPartialEq.TheImpl as way
use Rattle.fx_model.specs.Tree.{Branch, has_child, child_chain, child_entry}
use Rattle.fx_dispatch.specs.Ways.{way_rules}

-- these names were found
abbrev pub are_found : Option (List (List ℕ)) → List (List ℕ) → Bool
are_found None names = false
are_found (Some before) names = pointwise (pointwise nat_eq) before names

-- the byte has these names in the old tree too
abbrev pub stands : List Branch → Branch → Bool
stands old b = are_found (find (slice_cmp nat_cmp) b.0 old) b.1

abbrev pub child_write : Direction → List Branch → Branch → List (ChainName × List ChainRule)
child_write d old b = if has_child b.0 b.1 && not (stands old b) then child_entry d b ∷ [] else []

abbrev pub root_write : Direction → List Way → List Way → List (ChainName × List ChainRule)
root_write d old new = if pointwise way.eq-value.it old new then [] else (root_of d, way_rules d new) ∷ []

abbrev pub has_chain_found : List ℕ → Option (List (List ℕ)) → Bool
has_chain_found byte None = false
has_chain_found byte (Some names) = has_child byte names

-- the byte has a chain
abbrev pub has_chain : List Branch → List ℕ → Bool
has_chain bs byte = has_chain_found byte (find (slice_cmp nat_cmp) byte bs)

abbrev pub child_delete : Direction → List Branch → Branch → List ChainName
child_delete d new b = if has_child b.0 b.1 && not (has_chain new b.0) then child_chain d b.0 ∷ [] else []

-- the chains of one direction that are new or differ, the root behind those that it leads to
abbrev pub writes_towards : Direction → List Branch → List Branch → List Way → List Way → List (ChainName × List ChainRule)
writes_towards d old new old_root new_root = flat_map (child_write d old) new ++ root_write d old_root new_root

-- the chains of one direction that are there no more
abbrev pub deletes_towards : Direction → List Branch → List Branch → List ChainName
deletes_towards d old new = flat_map (child_delete d new) old

-- all that differs, in both directions
abbrev pub all_writes : List Branch → List Branch → List Way → List Way → List (ChainName × List ChainRule)
all_writes old new old_root new_root = writes_towards Ingress old new old_root new_root ++ writes_towards Egress old new old_root new_root

abbrev pub all_deletes : List Branch → List Branch → List ChainName
all_deletes old new = deletes_towards Ingress old new ++ deletes_towards Egress old new

-- ---- where the names of one byte alone are others

-- what is written for one direction: the byte's chain, and the root behind it
abbrev pub writes_at : Direction → List Branch → List ℕ → List (List ℕ) → List Way → List Way → List (ChainName × List ChainRule)
writes_at d old byte names old_root new_root = child_write d old (byte, names) ++ root_write d old_root new_root

-- the byte's chain is there no more
abbrev pub delete_at : Direction → List Branch → List ℕ → List (List ℕ) → List ChainName
delete_at d old byte names = if has_chain old byte && not (has_child byte names) then child_chain d byte ∷ [] else []

-- all of it, in both directions
abbrev pub all_writes_at : List Branch → List ℕ → List (List ℕ) → List Way → List Way → List (ChainName × List ChainRule)
all_writes_at old byte names old_root new_root = writes_at Ingress old byte names old_root new_root ++ writes_at Egress old byte names old_root new_root

abbrev pub all_deletes_at : List Branch → List ℕ → List (List ℕ) → List ChainName
all_deletes_at old byte names = delete_at Ingress old byte names ++ delete_at Egress old byte names
