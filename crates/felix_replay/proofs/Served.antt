-- The resources stay such that they can be served, after any lines.
use Rattle.std.proofs.Common.{◌≡◌, ℕ, List, Option, None, Some, Result, Ok, Err, refl, sym, subst}
use Rattle.std.specs.Prelude.{IfOk}
use Rattle.fx_model.specs.declared.resources.Update.{Update}
use Rattle.fx_model.specs.Batches.{clash_all}
use Rattle.fx_model.specs.Claims.{clash}
use Rattle.fx_model.specs.ViewPolicy.{IsServable}
use Rattle.fx_names.specs.Claims.{Clash}
use Rattle.fx_names.specs.Digests.{Digest}
use Rattle.fx_laws.proofs.ClaimsApart.{clash_free_after}
use Rattle.fx_laws.proofs.FormedLemmas.{are_formed-after, have_workload_interfaces-after}
use Rattle.fx_fields.specs.declared.refusal.Refusal.{Refusal}
use Rattle.fx_lines.specs.declared.commands.Command.{Command}
use Rattle.fx_lines.specs.declared.commands.Command.TheVariants as command
use Rattle.fx_lines.specs.Commands.{command_of}
use Rattle.fx_lines.specs.Formed.{IsReadCommand}
use Rattle.fx_lines.proofs.ReadForms.{command_of-read}
use Rattle.fx_agent.proofs.Serving.{servable-after_all}
use Rattle.fx_laws.proofs.NoResources.{none-servable}
use Rattle.fx_program.specs.Answers.{settled}
use Rattle.fx_run.specs.Run.{state_after}
use Rattle.fx_run.proofs.Runs.{kept_after}
use Rattle.fx_replay.specs.Output.{State, start, unless_taken, checked, accepted, answer_of, next}

start-servable : (dg : Digest) (node : List ℕ) → IsServable dg (start dg node).resources
start-servable dg node = none-servable dg node

untaken : (s : State) → IsServable s.digest s.resources → (u : Update) → IsReadCommand (command.Update u) → (o : Option Clash) → clash s.digest s.resources u ≡ o → IsServable s.digest (settled accepted s (unless_taken o (command.Update u))).resources
untaken s was u read (Some c) is = was
untaken s was u read None is = record {
  formed = are_formed-after s.resources was.formed u read.formed;
  clash_free = clash_free_after s.digest s.resources u read.formed was.clash_free is;
  on_workloads = have_workload_interfaces-after s.resources was.on_workloads u (read.on_workloads s.resources.node);
}

untaken_all : (s : State) → IsServable s.digest s.resources → (us : List Update) → IsReadCommand (command.Batch us) → (o : Option Clash) → clash_all s.digest s.resources us ≡ o → IsServable s.digest (settled accepted s (unless_taken o (command.Batch us))).resources
untaken_all s was us read (Some c) is = was
untaken_all s was us read None is = servable-after_all s.digest s.resources was us read.formed (read.on_workloads s.resources.node) is

answered : (s : State) → IsServable s.digest s.resources → (said : Result Command Refusal) → IfOk said IsReadCommand → IsServable s.digest (settled accepted s (checked s.digest s.resources said)).resources
answered s was (Ok command.Blank) read = was
answered s was (Ok command.Tables) read = was
answered s was (Ok (command.Flush limit)) read = was
answered s was (Ok (command.Update u)) read = untaken s was u read (clash s.digest s.resources u) refl
answered s was (Ok (command.Batch us)) read = untaken_all s was us read (clash_all s.digest s.resources us) refl
answered s was (Ok (command.Packet a)) read = was
answered s was (Err r) read = was

-- the digest stays
accepted-digest : (s : State) (c : Command) → (accepted s c).digest ≡ s.digest
accepted-digest s command.Blank = refl
accepted-digest s command.Tables = refl
accepted-digest s (command.Flush limit) = refl
accepted-digest s (command.Update u) = refl
accepted-digest s (command.Batch us) = refl
accepted-digest s (command.Packet a) = refl

answer-digest : (s : State) (r : Result Command Refusal) → (settled accepted s r).digest ≡ s.digest
answer-digest s (Ok c) = accepted-digest s c
answer-digest s (Err r) = refl

next-servable : (s : State) → IsServable s.digest s.resources → (line : List ℕ) → IsServable (next s line).digest (next s line).resources
next-servable s was line =
    subst (λ dg. IsServable dg (next s line).resources) (sym (answer-digest s (answer_of s line))) (answered s was (command_of line) (command_of-read line))

pub run_servable : (dg : Digest) (node : List ℕ) (lines : List (List ℕ)) → IsServable (state_after next (start dg node) lines).digest (state_after next (start dg node) lines).resources
run_servable dg node lines = kept_after next (λ s. IsServable s.digest s.resources) (λ s line was. next-servable s was line) (start dg node) lines (start-servable dg node)
