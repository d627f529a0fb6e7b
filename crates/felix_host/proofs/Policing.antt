-- What the lines of a packet tell, and that after a flush it is what the policy reference says.
use Rattle.std.proofs.Common.{◌≡◌, ℕ, List, Option, Result, Ok, IfOk, refl, ap, ◌∙◌, subst}
use Rattle.std.specs.List.{concat}
use Rattle.fx_names.specs.Digests.{Digest}
use Rattle.fx_model.specs.declared.packet.Packet.{Packet}
use Rattle.fx_model.specs.declared.packet.State.TheVariants.{New}
use Rattle.fx_model.specs.declared.packet.Verdict.{Verdict}
use Rattle.fx_model.specs.Directions.{Direction}
use Rattle.fx_model.specs.Ranks.{IsRanked}
use Rattle.fx_model.specs.Tables.{Tables, host_hook}
use Rattle.fx_model.specs.Walk.{Ended, noted_in}
use Rattle.fx_fields.specs.declared.refusal.Refusal.{Refusal}
use Rattle.fx_rules.specs.Rules.{direction_of}
use Rattle.fx_program.specs.Answers.{accepted_text}
use Rattle.fx_run.specs.Run.{state_after}
use Rattle.fx_walk.specs.FromChain.{LastSeen, last_match}
use Rattle.fx_walk.specs.PacketPaths.{deepest}
use Rattle.fx_walk.specs.WalkEnds.{chain_walk}
use Rattle.fx_walk.proofs.FromRuns.{from_walk}
use Rattle.fx_hostep.specs.declared.packet.HostPacket.{HostPacket}
use Rattle.fx_hostep.specs.HostRuns.{HostDecides, IsHostPacket}
use Rattle.fx_hostep.specs.HostVerdict.{HostAnswer, HostWhy}
use Rattle.fx_hostep.proofs.HostAgree.{host_run_has_one_end, is_host_answer}
use Rattle.fx_host_lines.specs.declared.command.HostCommand.{HostCommand}
use Rattle.fx_host_lines.specs.declared.command.HostCommand.TheVariants as command
use Rattle.fx_host_lines.specs.Commands.{command_of}
use Rattle.fx_host_lines.specs.Formed.{IsReadHost}
use Rattle.felix_host.specs.Flushing.{IsFlushed}
use Rattle.felix_host.specs.Output.{State, start, next, answer_of, command_text}
use Rattle.felix_host.specs.PacketLines.{nothing_seen, decided, answer_lines, packet_text}
use Rattle.felix_host.specs.Policed.{TellsRun, PacketsAreRuns, TellsPolicy, KeepsPolicy, reference}
use Rattle.fx_host_lines.proofs.ReadForms.{command_of-read}
use Rattle.felix_host.proofs.Served.{StandsAt, run_stands, tables_ranked, checked_read}

-- ---- the run of a packet

-- the walk that the text is made from is the machine's run
pub decided_is_run : (tables : Tables) → IsRanked tables.chains → (d : Direction) (a : Packet) → HostDecides tables d a (decided tables d a).verdict (decided tables d a).why
decided_is_run tables ranked d a =
    let end : Ended LastSeen = chain_walk last_match tables a deepest (host_hook d) 0 nothing_seen in
    record {
      reason = (noted_in end).reason;
      last = (noted_in end).last;
      run = from_walk tables a ranked (host_hook d) end refl;
      told = refl;
    }

-- what code decides gives these lines
pub decided_text : (tables : Tables) → IsRanked tables.chains → (p : HostPacket) (v : Verdict) (why : Option HostWhy) → HostDecides tables (direction_of p.inbound) p.packet v why
    → (lines : List (List ℕ)) → lines ≡ answer_lines p.iface (record { verdict = v; why = why }) → concat lines ≡ packet_text tables p
decided_text tables ranked p v why run lines are =
    let d : Direction = direction_of p.inbound in
    let answer : HostAnswer = decided tables d p.packet in
    let one = host_run_has_one_end tables d p.packet v answer.verdict why answer.why run (decided_is_run tables ranked d p.packet) in
    ap concat are ∙ (λ i. concat (answer_lines p.iface (record { verdict = one.0 i; why = one.1 i })))

line_run : (s : State) → StandsAt s → (line : List ℕ) (p : HostPacket) → answer_of s line ≡ Ok (command.Packet p) → TellsRun s line p
line_run s stands line p said = record {
  answer = decided s.tables (direction_of p.inbound) p.packet;
  run = decided_is_run s.tables (tables_ranked s.tables stands.standing) (direction_of p.inbound) p.packet;
  output = ap (accepted_text command_text s) said;
}

pub packets_are_runs : (dg : Digest) (node : List ℕ) → PacketsAreRuns dg node
packets_are_runs dg node lines line p said = line_run (state_after next (start dg node) lines) (run_stands dg node lines) line p said

-- ---- after a flush

-- a packet that was read is one of a process
packet_sides : (s : State) (line : List ℕ) (p : HostPacket) → answer_of s line ≡ Ok (command.Packet p) → IsHostPacket p
packet_sides s line p said =
    let P : Result HostCommand Refusal → Type 0 = λ r. IfOk r IsReadHost in
    subst P said (checked_read s.digest s.resources (command_of line) (command_of-read line))

line_policy : (s : State) → StandsAt s → (line : List ℕ) (p : HostPacket) → answer_of s line ≡ Ok (command.Packet p) → p.packet.state ≡ New → IsFlushed s → TellsPolicy s line p
line_policy s stands line p said new flushed =
    let d : Direction = direction_of p.inbound in
    let r : TellsRun s line p = line_run s stands line p said in
    let one = is_host_answer s.tables p r.answer.verdict r.answer.why (packet_sides s line p said) r.run s.digest s.resources s.failsafe flushed stands.servable stands.protocols new in
    record {
      run =
          subst (λ w. HostDecides s.tables d p.packet (reference s p).verdict w) one.1
          (subst (λ v. HostDecides s.tables d p.packet v r.answer.why) one.0 r.run);
      output = r.output ∙ (λ i. concat (answer_lines p.iface (record { verdict = one.0 i; why = one.1 i })));
    }

pub keeps_policy : (dg : Digest) (node : List ℕ) → KeepsPolicy dg node
keeps_policy dg node lines line p said new flushed = line_policy (state_after next (start dg node) lines) (run_stands dg node lines) line p said new flushed
