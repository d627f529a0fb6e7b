-- Which chains are those of dispatch, by their names, which are Felix's.
use Rattle.std.specs.Prelude.{◌≡◌, false, ℕ, List, Bool, ◌||◌, nat_eq}
use Rattle.std.specs.List.{starts_with}
use Rattle.std.specs.Str.{bytes_eq}
use Rattle.fx_model.specs.Directions.{Direction, Ingress, Egress}
use Rattle.fx_model.specs.Tables.{ChainName, root_of}
use Rattle.fx_model.specs.Tree.{child_chain}

-- the chain's name begins with a root's: a root, or a chain that a root leads to
abbrev pub is_dispatch : ChainName → Bool
is_dispatch name = starts_with nat_eq name (root_of Ingress) || starts_with nat_eq name (root_of Egress)

-- this isn't the name of a dispatch chain
pub record IsElsewhere (name : ChainName) : Type 0 where
  pub roots : (d : Direction) → bytes_eq name (root_of d) ≡ false
  pub children : (d : Direction) (byte : List ℕ) → bytes_eq name (child_chain d byte) ≡ false
