-- The names of dispatch chains begin with a root's.
use Rattle.std.proofs.Common.{◌≡◌, ℕ, true, List, [], ◌∷◌, map, refl}
use Rattle.std.specs.List.{AllByRecursion}
use Rattle.fx_model.specs.declared.chain.ChainRule.{ChainRule}
use Rattle.fx_model.specs.Directions.{Direction, Ingress, Egress}
use Rattle.fx_model.specs.Tables.{ChainName, root_of}
use Rattle.fx_model.specs.Tree.{Branch, child_chain, child_entry, children, chains_towards, dispatch_chains_of}
use Rattle.fx_laws.specs.DispatchNames.{is_dispatch}
pub use Rattle.fx_laws.proofs.Uses.{all-append}

abbrev pub AllAreDispatch : List (ChainName × List ChainRule) → Type 0
AllAreDispatch es = AllByRecursion (λ e. is_dispatch e.0 ≡ true) es

child_name : (d : Direction) (byte : List ℕ) → is_dispatch (child_chain d byte) ≡ true
child_name Ingress byte = refl
child_name Egress byte = refl

root_name : (d : Direction) → is_dispatch (root_of d) ≡ true
root_name Ingress = refl
root_name Egress = refl

children_names : (d : Direction) (bs : List Branch) → AllAreDispatch (map (child_entry d) bs)
children_names d [] = tt
children_names d (b ∷ bs) = (child_name d b.0, children_names d bs)

towards_names : (d : Direction) (names : List (List ℕ)) → AllAreDispatch (chains_towards d names)
towards_names d names = all-append (λ e. is_dispatch e.0 ≡ true) (map (child_entry d) (children names)) _ (children_names d (children names)) (root_name d, tt)

pub tree_names : (names : List (List ℕ)) → AllAreDispatch (dispatch_chains_of names)
tree_names names = all-append (λ e. is_dispatch e.0 ≡ true) (chains_towards Ingress names) _ (towards_names Ingress names) (towards_names Egress names)
