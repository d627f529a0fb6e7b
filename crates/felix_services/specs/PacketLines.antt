-- What a packet line writes: the walk of the first chain with mark 0, which is the packet's run, with the reasons by
-- the places of rules as they were written at the last flush.
use Rattle.std.specs.Prelude.{ℕ, List, [], option_map}
use Rattle.std.specs.List.{concat}
use Rattle.fx_model.specs.declared.packet.Packet.{Packet}
use Rattle.fx_model.specs.Machine.{Trace}
use Rattle.fx_model.specs.PacketTexts.{packet_lines}
use Rattle.fx_model.specs.Tables.{Tables}
use Rattle.fx_model.specs.Walk.{Ended, verdict_of, noted_in}
use Rattle.fx_fields.specs.declared.policy_fields.PolicyType.TheVariants.{Ingress, Egress}
use Rattle.fx_walk.specs.PacketPaths.{first_walk}
use Rattle.fx_services.specs.Places.{PlacesByKey, reason_as_written}

abbrev pub run_lines : PlacesByKey → Packet → Ended Trace → List (List ℕ)
run_lines P a e =
    packet_lines (noted_in e).hops a.iface_in a.iface_out
    (option_map (reason_as_written P Egress) (noted_in e).reasons.egress)
    (option_map (reason_as_written P Ingress) (noted_in e).reasons.ingress)
    (verdict_of e)

abbrev pub packet_text : Tables → PlacesByKey → Packet → List ℕ
packet_text tables P a = concat (run_lines P a (first_walk tables a []))
