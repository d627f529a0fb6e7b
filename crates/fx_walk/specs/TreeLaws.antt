-- Where a packet comes to over the tree of dispatch chains, by the walk of the packet machine of iptables(8).
use Rattle.std.specs.Prelude.{◌≡◌, ◌⊎◌, ℕ, suc, List, true, false}
use Rattle.std.specs.List.{list_any}
use Rattle.std.specs.Str.{bytes_eq}
use Rattle.fx_model.specs.declared.packet.Packet.{Packet}
use Rattle.fx_model.specs.declared.chain.Reason.TheVariants as reason
use Rattle.fx_model.specs.Directions.{Direction}
use Rattle.fx_model.specs.Tables.{ChainName, Chains, Sets, end_of, root_of, endpoint_chain}
use Rattle.fx_model.specs.Tree.{HoldsTree}
use Rattle.fx_model.specs.Machine.{holds, iface_at, Reasons, with_reason, last_reason}
use Rattle.fx_model.specs.Walk.{Onward, Dropped, after_goto, over_chain}

-- the walk of a chain, where rules lead at most this many chains deep
abbrev pub walked : Sets → Packet → Chains → ℕ → ChainName → Onward Reasons
walked sets a chains depth = over_chain last_reason (holds sets a) chains depth

-- an interface that is there leads to its endpoint's chain: its rule is the root's or that of a chain below it
abbrev pub TreesArrive : Type 0
TreesArrive =
    (sets : Sets) (a : Packet) (chains : Chains) (d : Direction) (names : List (List ℕ)) → HoldsTree names chains → (n m : ℕ) (s : Reasons)
    → list_any (bytes_eq (iface_at (end_of d) a)) names ≡ true
    → (k : ℕ) × ((k ≡ n) ⊎ (k ≡ suc n)) × (walked sets a chains (suc (suc n)) (root_of d) m s ≡ after_goto (walked sets a chains k (endpoint_chain d (iface_at (end_of d) a)) m s))

-- each other interface is unknown
abbrev pub TreesDrop : Type 0
TreesDrop =
    (sets : Sets) (a : Packet) (chains : Chains) (d : Direction) (names : List (List ℕ)) → HoldsTree names chains → (n m : ℕ) (s : Reasons)
    → list_any (bytes_eq (iface_at (end_of d) a)) names ≡ false
    → walked sets a chains (suc (suc n)) (root_of d) m s ≡ Dropped (with_reason s.side reason.UnknownInterface s)
