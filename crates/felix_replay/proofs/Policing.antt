-- What a packet line writes, and that after a flush it is the policy reference's answer.
use Rattle.std.proofs.Common.{◌≡◌, ℕ, List, [], Option, Ok, sym, ◌∙◌, ap, subst}
use Rattle.std.specs.List.{concat}
use Rattle.fx_model.specs.declared.packet.Packet.{Packet}
use Rattle.fx_model.specs.declared.packet.State.TheVariants.{New}
use Rattle.fx_model.specs.declared.packet.Verdict.{Verdict}
use Rattle.fx_model.specs.declared.chain.Reason.{Reason}
use Rattle.fx_model.specs.declared.view.View.{View}
use Rattle.fx_model.specs.Machine.{Trace, Decides, Traces}
use Rattle.fx_model.specs.Policy.{Outcome, packet_verdict}
use Rattle.fx_model.specs.ViewTables.{tables_of}
use Rattle.fx_model.specs.ViewPolicy.{IsServable}
use Rattle.fx_model.specs.Closed.{IsClosedView}
use Rattle.fx_names.specs.Digests.{Digest}
use Rattle.fx_model.specs.Views.{view_of}
use Rattle.fx_model.specs.Walk.{Ended, verdict_of, noted_in}
use Rattle.fx_laws.proofs.Leading.{ranked-tables}
use Rattle.fx_walk.proofs.Agree.{policy_is_kept, traced_decides, run_has_one_end, walk_is_run}
use Rattle.fx_walk.specs.PacketPaths.{first_walk}
use Rattle.fx_lines.specs.declared.commands.Command.TheVariants as command
use Rattle.fx_model.specs.PacketTexts.{packet_lines}
use Rattle.fx_program.specs.Answers.{accepted_text}
use Rattle.fx_run.specs.Run.{state_after}
use Rattle.fx_replay.specs.Output.{State, command_text, start, answer_of, next}
use Rattle.felix_replay.specs.Policed.{TellsRun, PathsAreRuns, TellsPolicy, KeepsPolicy}
use Rattle.felix_replay.proofs.ClosingLemmas.{run_closed}
use Rattle.felix_replay.proofs.Served.{run_servable}

-- ---- the run of a packet

-- the walk that the text is made from is the machine's run
line_run : (s : State) → IsClosedView s.sent → (line : List ℕ) (a : Packet) → answer_of s line ≡ Ok (command.Packet a) → TellsRun s line a
line_run s closed line a said =
    let run : Ended Trace = first_walk (tables_of s.sent) a [] in
    record {
      path = (noted_in run).hops;
      verdict = verdict_of run;
      egress = (noted_in run).reasons.egress;
      ingress = (noted_in run).reasons.ingress;
      run = walk_is_run (tables_of s.sent) a [] (ranked-tables s.sent closed);
      output = ap (accepted_text command_text s) said;
    }

pub paths_are_runs : (dg : Digest) (node : List ℕ) → PathsAreRuns dg node
paths_are_runs dg node lines line a said = line_run (state_after next (start dg node) lines) (run_closed dg node lines) line a said

-- ---- after a flush

-- the run comes to what the policy reference says
line_policy : (s : State) → IsServable s.digest s.resources → IsClosedView s.sent → (line : List ℕ) (a : Packet) → answer_of s line ≡ Ok (command.Packet a) → a.state ≡ New → s.sent ≡ view_of s.digest s.resources → TellsPolicy s line a
line_policy s servable closed line a said new same =
    let r : TellsRun s line a = line_run s closed line a said in
    let answer : Outcome = packet_verdict s.resources a in
    let decides : Decides (tables_of s.sent) a r.verdict r.egress r.ingress =
    traced_decides (tables_of s.sent) a (ranked-tables s.sent closed) [] r.path r.verdict r.egress r.ingress r.run in
    let wanted : Decides (tables_of s.sent) a answer.verdict answer.egress answer.ingress =
    subst (λ (v : View). Decides (tables_of v) a answer.verdict answer.egress answer.ingress) (sym same) (policy_is_kept s.digest s.resources a servable new) in
    let one = run_has_one_end (tables_of s.sent) a r.verdict answer.verdict r.egress answer.egress r.ingress answer.ingress decides wanted in
    record {
      path = r.path;
      run =
          subst (λ i. Traces (tables_of s.sent) a [] r.path answer.verdict answer.egress i) one.2
          (subst (λ e. Traces (tables_of s.sent) a [] r.path answer.verdict e r.ingress) one.1
          (subst (λ v. Traces (tables_of s.sent) a [] r.path v r.egress r.ingress) one.0 r.run));
      output = r.output
          ∙ ap (λ (v : Verdict). concat (packet_lines r.path a.iface_in a.iface_out r.egress r.ingress v)) one.0
          ∙ ap (λ (e : Option Reason). concat (packet_lines r.path a.iface_in a.iface_out e r.ingress answer.verdict)) one.1
          ∙ ap (λ (i : Option Reason). concat (packet_lines r.path a.iface_in a.iface_out answer.egress i answer.verdict)) one.2;
    }

pub keeps_policy : (dg : Digest) (node : List ℕ) → KeepsPolicy dg node
keeps_policy dg node lines line a said new same =
    line_policy (state_after next (start dg node) lines) (run_servable dg node lines) (run_closed dg node lines) line a said new same
