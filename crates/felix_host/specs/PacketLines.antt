-- What a packet of a process comes to, and what is written of it. The reasons are those of packets that are forwarded,
-- or an open failsafe port; the walk of the hook's chain is the packet's run.
use Rattle.std.specs.Prelude.{ℕ, List, [], ◌∷◌, ◌++◌, Option, Some, None, codes}
use Rattle.std.specs.List.{concat}
use Rattle.fx_model.specs.declared.packet.Packet.{Packet}
use Rattle.fx_model.specs.Directions.{Direction}
use Rattle.fx_model.specs.PacketTexts.{side_line, verdict_line}
use Rattle.fx_model.specs.Tables.{Tables, host_hook}
use Rattle.fx_model.specs.Walk.{Ended, verdict_of, noted_in}
use Rattle.fx_rules.specs.Rules.{direction_of}
use Rattle.fx_walk.specs.FromChain.{LastSeen, last_match}
use Rattle.fx_walk.specs.PacketPaths.{deepest}
use Rattle.fx_walk.specs.WalkEnds.{chain_walk}
use Rattle.fx_hostep.specs.declared.packet.HostPacket.{HostPacket}
use Rattle.fx_hostep.specs.HostRuns.{why_of}
use Rattle.fx_hostep.specs.HostVerdict.{HostWhy, OpenPort, ByRule, HostAnswer}

-- ---- what the tables decide

abbrev pub nothing_seen : LastSeen
nothing_seen = record { reason = None; last = None }

abbrev pub told_by : Ended LastSeen → HostAnswer
told_by e = record { verdict = verdict_of e; why = why_of (noted_in e).reason (noted_in e).last }

abbrev pub decided : Tables → Direction → Packet → HostAnswer
decided tables d a = told_by (chain_walk last_match tables a deepest (host_hook d) 0 nothing_seen)

-- ---- the lines

abbrev pub why_line : List ℕ → HostWhy → List ℕ
why_line iface OpenPort = codes "reason " ++ (iface ++ codes " failsafe\n")
why_line iface (ByRule why) = side_line (codes "reason ") iface why

abbrev pub why_lines : List ℕ → Option HostWhy → List (List ℕ)
why_lines iface None = []
why_lines iface (Some why) = why_line iface why ∷ []

abbrev pub answer_lines : List ℕ → HostAnswer → List (List ℕ)
answer_lines iface x = why_lines iface x.why ++ verdict_line x.verdict ∷ []

abbrev pub packet_text : Tables → HostPacket → List ℕ
packet_text tables p = concat (answer_lines p.iface (decided tables (direction_of p.inbound) p.packet))
