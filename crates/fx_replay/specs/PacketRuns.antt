-- What a packet line writes: the walk of the first chain with mark 0, which is the packet's run.
use Rattle.std.specs.Prelude.{ℕ, List, []}
use Rattle.std.specs.List.{concat}
use Rattle.fx_model.specs.declared.packet.Packet.{Packet}
use Rattle.fx_model.specs.Tables.{Tables}
use Rattle.fx_model.specs.Machine.{Trace}
use Rattle.fx_model.specs.Walk.{Ended, verdict_of, noted_in}
use Rattle.fx_model.specs.PacketTexts.{packet_lines}
use Rattle.fx_walk.specs.PacketPaths.{first_walk}

-- its path, the reason on each side, and the verdict
abbrev pub run_lines : Packet → Ended Trace → List (List ℕ)
run_lines a e =
    packet_lines (noted_in e).hops a.iface_in a.iface_out (noted_in e).reasons.egress (noted_in e).reasons.ingress (verdict_of e)

abbrev pub packet_text : Tables → Packet → List ℕ
packet_text tables a = concat (run_lines a (first_walk tables a []))
