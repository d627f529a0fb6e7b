-- A first packet is answered, where all was sent, as the resources say as they are written.
use Rattle.std.proofs.Common.{◌≡◌, ℕ, Bool, true, false, ◌&&◌, cond, List, [], ◌∷◌, Option, Some, None, Ok, refl, sym, ap, ◌∙◌, subst}
use Rattle.std.proofs.lemmas.Bool.{false≢true}
use Rattle.std.specs.List.{concat}
use Rattle.std.specs.Str.{bytes_eq}
use Rattle.std.specs.Prelude.{◌≢◌, IsSome, codes}
use Rattle.fx_names.specs.Digests.{Digest}
use Rattle.fx_model.specs.declared.packet.Packet.{Packet}
use Rattle.fx_model.specs.declared.packet.State.TheVariants.{New}
use Rattle.fx_model.specs.declared.packet.Verdict.{Verdict}
use Rattle.fx_model.specs.declared.view.View.{View}
use Rattle.fx_model.specs.Machine.{Decides, Traces}
use Rattle.fx_model.specs.PacketTexts.{packet_lines}
use Rattle.fx_model.specs.Policy.{Outcome, packet_verdict}
use Rattle.fx_model.specs.ViewTables.{tables_of}
use Rattle.fx_laws.proofs.Leading.{ranked-tables}
use Rattle.fx_program.specs.Asks.{IsAskedFor}
use Rattle.fx_run.specs.Run.{state_after}
use Rattle.fx_services.specs.Places.{PlacesByKey}
use Rattle.fx_services.specs.Standing.{as_written}
use Rattle.fx_services.specs.Written.{Written}
use Rattle.fx_services.specs.WrittenVerdict.{written_verdict}
use Rattle.fx_service_laws.proofs.Verdicts.{verdict_is_kept}
use Rattle.fx_walk.proofs.Agree.{policy_is_kept, traced_decides, run_has_one_end}
use Rattle.fx_words.specs.Words.{is_node_name, node_in, node_name, node_of}
use Rattle.fx_service_lines.specs.declared.command.ServicesCommand.TheVariants as command
use Rattle.felix_services.specs.Flushing.{IsFlushed}
use Rattle.felix_services.specs.Output.{State, start, next, answer_of}
use Rattle.felix_services.specs.Policed.{told_lines, TellsRun, TellsServices, KeepsServices}
use Rattle.felix_services.specs.WrittenRuns.{written_behind}
use Rattle.felix_services.proofs.Policing.{line_run}
use Rattle.felix_services.proofs.Served.{StandsAt, run_stands}

-- ---- one line

line_services : (s : State) (W : Written) → StandsAt s W → (line : List ℕ) (a : Packet) → answer_of s line ≡ Ok (command.Packet a) → a.state ≡ New → IsFlushed s → TellsServices W s line a
line_services s W stands line a said new sent =
    let r : TellsRun s line a = line_run s stands.closed line a said in
    let tables = tables_of s.replay.sent in
    let answer : Outcome = packet_verdict s.replay.resources a in
    let decides : Decides tables a r.verdict r.egress r.ingress =
    traced_decides tables a (ranked-tables s.replay.sent stands.closed) [] r.path r.verdict r.egress r.ingress r.run in
    let wanted : Decides tables a answer.verdict answer.egress answer.ingress =
    subst (λ (v : View). Decides (tables_of v) a answer.verdict answer.egress answer.ingress) (sym sent.view) (policy_is_kept s.replay.digest s.replay.resources a stands.servable new) in
    let one = run_has_one_end tables a r.verdict answer.verdict r.egress answer.egress r.ingress answer.ingress decides wanted in
    let kept : as_written s.places answer ≡ written_verdict W a = verdict_is_kept W s.replay.resources s.places a stands.records stands.sound stands.places in
    record {
      path = r.path;
      egress = r.egress;
      ingress = r.ingress;
      run = subst (λ (v : Verdict). Traces tables a [] r.path v r.egress r.ingress) (one.0 ∙ ap (λ (o : Outcome). o.verdict) kept) r.run;
      output = r.output
          ∙ ap (λ (P : PlacesByKey). concat (told_lines P a r.path r.verdict r.egress r.ingress)) sent.places
          ∙ (λ i. concat (told_lines s.places a r.path (one.0 i) (one.1 i) (one.2 i)))
          ∙ ap (λ (o : Outcome). concat (packet_lines r.path a.iface_in a.iface_out o.egress o.ingress o.verdict)) kept;
    }

keeps_named : (dg : Digest) (node : List ℕ) → node ≢ [] → KeepsServices dg node
keeps_named dg node named lines line a said new sent =
    line_services (state_after next (start dg node) lines) (written_behind dg node lines) (run_stands dg node named lines) line a said new sent

-- ---- the node of the words

named_node : (node : List ℕ) → is_node_name node ≡ true → node ≢ []
named_node [] is same = false≢true is
named_node (b ∷ bs) is same = cc

-- the words name a node or none
words_named : (words : List (List ℕ)) → IsSome (node_of words) → node_name words ≢ []
words_named [] some = absurd (false≢true some)
words_named (option ∷ []) some = absurd (false≢true some)
words_named (option ∷ node ∷ more ∷ words) some = absurd (false≢true some)
words_named (option ∷ node ∷ []) some = by (bytes_eq option (codes "--node")) (is_node_name node) refl some
  where
    by : (option_is name_is : Bool) → is_node_name node ≡ name_is → IsSome (cond (option_is && name_is) (Some node) None) → node_in (cond (option_is && name_is) (Some node) None) ≢ []
    by true true is there = named_node node is
    by true false is there = absurd (false≢true there)
    by false name_is is there = absurd (false≢true there)

-- a node that some words name has a name
pub asked_named : (node : List ℕ) → IsAskedFor node_of node → node ≢ []
asked_named node asked =
    subst (λ (o : Option (List ℕ)). node_in o ≢ []) asked.1 (words_named asked.0 (subst (λ (o : Option (List ℕ)). IsSome o) (sym asked.1) refl))

pub keeps_services : (dg : Digest) (words : List (List ℕ)) → IsSome (node_of words) → KeepsServices dg (node_name words)
keeps_services dg words some = keeps_named dg (node_name words) (words_named words some)
