-- A packet's path by the machine's single steps: the walk by recursion gives it, and there is no other.
use Rattle.std.specs.Prelude.{◌≡◌, ℕ, List, Option}
use Rattle.fx_model.specs.declared.packet.Packet.{Packet}
use Rattle.fx_model.specs.declared.packet.Verdict.{Verdict}
use Rattle.fx_model.specs.declared.chain.Reason.{Reason}
use Rattle.fx_model.specs.Tables.{ChainName, Tables, forward}
use Rattle.fx_model.specs.Ranks.{IsRanked}
use Rattle.fx_model.specs.Machine.{Trace, Traces, holds, nothing_noted, hops_and_reasons}
use Rattle.fx_model.specs.Walk.{Ended, verdict_of, noted_in, over_chain}

-- chains have five ranks, and rules lead to lower ones, so no walk goes deeper
abbrev pub deepest : ℕ
deepest = 5

-- the walk of the first chain, where its path is appended to `before`
abbrev pub first_walk : Tables → Packet → List (ChainName × ℕ) → Ended Trace
first_walk tables a before =
    over_chain hops_and_reasons (holds tables.sets a) tables.chains deepest forward 0 (record { hops = before; reasons = nothing_noted })

-- where rules lead to lower ranks, the walk's path, verdict and reasons are those of the run
abbrev pub WalkIsRun : Type 0
WalkIsRun =
    (tables : Tables) (a : Packet) (before : List (ChainName × ℕ)) → IsRanked tables.chains
    → let e = first_walk tables a before in Traces tables a before (noted_in e).hops (verdict_of e) (noted_in e).reasons.egress (noted_in e).reasons.ingress

-- two runs of one packet have one path, one verdict and the same reasons
abbrev pub PacketHasOnePath : Type 0
PacketHasOnePath =
    (tables : Tables) (a : Packet) (before after other : List (ChainName × ℕ)) (v w : Verdict) (e f i j : Option Reason)
    → Traces tables a before after v e i → Traces tables a before other w f j
    → (after ≡ other) × (v ≡ w) × (e ≡ f) × (i ≡ j)
