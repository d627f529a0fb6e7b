-- What stands after any lines, at a node that has a name: the records stand for the resources as they are written, which are sound, and
-- the lists of places for their rules; the records can be served, and the sent view is closed.
use Rattle.std.proofs.Common.{◌≡◌, ℕ, true, List, [], ◌∷◌, Option, None, Some, Result, Ok, Err, IfOk, refl, sym, ap, ◌∙◌, subst}
use Rattle.std.specs.FinMap.{get-empty}
use Rattle.std.specs.Option.{option_or}
use Rattle.std.specs.Prelude.{◌≢◌, IfSome, option_map}
use Rattle.fx_base.proofs.AtKey.{get_empty}
use Rattle.fx_names.specs.Claims.{Clash}
use Rattle.fx_names.specs.Digests.{Digest}
use Rattle.fx_model.specs.contracts.ids.ItemKeyOrd.TheImpl as item_cmp
use Rattle.fx_model.specs.contracts.ids.PolicyIdOrd.TheImpl as policy_cmp
use Rattle.fx_model.specs.declared.ids.Key.TheVariants as key
use Rattle.fx_model.specs.declared.resources.Resources.{Resources}
use Rattle.fx_model.specs.declared.view.View.{View}
use Rattle.fx_model.specs.Claims.{clash}
use Rattle.fx_model.specs.Closed.{IsClosedView}
use Rattle.fx_model.specs.Resources.{empty_resources}
use Rattle.fx_model.specs.ViewPolicy.{IsServable}
use Rattle.fx_model.specs.Views.{view_of}
use Rattle.fx_laws.proofs.ClaimsApart.{clash_free_after}
use Rattle.fx_laws.proofs.Flushes.{flush-ends}
use Rattle.fx_laws.proofs.FormedLemmas.{are_formed-after, have_workload_interfaces-after}
use Rattle.fx_laws.proofs.ViewClosed.{view_of-closed}
use Rattle.fx_fields.specs.declared.refusal.Refusal.{Refusal}
use Rattle.fx_laws.proofs.NoResources.{none-servable}
use Rattle.fx_driver.proofs.Drivable.{empty_view-drivable}
use Rattle.fx_program.specs.Answers.{settled}
use Rattle.fx_run.specs.Run.{state_after}
use Rattle.fx_services.specs.declared.lowered.Lowered.{Lowered}
use Rattle.fx_services.specs.declared.slices.Slice.{Slice}
use Rattle.fx_services.specs.Lowering.{lowered_policy, lowered_profile}
use Rattle.fx_services.specs.Places.{PlacesByKey}
use Rattle.fx_services.specs.Slices.{slice_record}
use Rattle.fx_services.specs.Standing.{StandsFor, IsSound, PlacesStandFor, is_sound_update}
use Rattle.fx_services.specs.Written.{Written, WrittenUpdate, nothing_written, services_at, lowered_written}
use Rattle.fx_service_laws.proofs.Kept.{stand_on}
use Rattle.fx_service_laws.proofs.SoundKept.{stays_sound}
use Rattle.fx_service_lines.specs.declared.command.ServicesCommand.{ServicesCommand}
use Rattle.fx_service_lines.specs.declared.command.ServicesCommand.TheVariants as command
use Rattle.fx_service_lines.specs.Commands.{command_of}
use Rattle.fx_service_lines.specs.Formed.{IsReadChange, IsReadServices}
use Rattle.felix_services.specs.Output.{State, start, unless_taken, checked, accepted, next}
use Rattle.fx_service_lines.specs.WrittenLines.{written_of}
use Rattle.felix_services.specs.WrittenRuns.{made_if, made, written_next, written_along, written_behind}
use Rattle.felix_services.proofs.PlacesKept.{places_stand_on}
use Rattle.fx_service_lines.proofs.ReadForms.{command_of-read}
use Rattle.felix_services.proofs.WrittenReads.{lowered_change, command_change, command_of-alike, written_of-sound}

pub record Stands (dg : Digest) (R : Resources) (sent : View) (P : PlacesByKey) (W : Written) : Type 0 where
  pub records : StandsFor W R
  pub sound : IsSound W
  pub places : PlacesStandFor W P
  pub servable : IsServable dg R
  pub closed : IsClosedView sent

abbrev pub StandsAt : State → Written → Type 0
StandsAt s W = Stands s.replay.digest s.replay.resources s.replay.sent s.places W

-- ---- before the first line

nothing_there : {X A : Type 0} (x : X) → None ≡ Some x → A
nothing_there x is = cc

no_records : (node : List ℕ) → StandsFor (nothing_written node) (empty_resources node)
no_records node = record {
  node = refl;
  in_sync = refl;
  tiers = refl;
  net_sets = refl;
  endpoints = λ k.
      get-empty item_cmp.cmp-value.it k
      ∙ sym (λ i. option_or (option_map slice_record (get-empty {X = Slice} item_cmp.cmp-value.it k i)) (get-empty item_cmp.cmp-value.it k i));
  profiles = λ name. get_empty name ∙ sym (ap (option_map (lowered_profile (services_at (nothing_written node) (key.Profile name)))) (get_empty name));
  policies = λ id.
      get-empty policy_cmp.cmp-value.it id
      ∙ sym (ap (option_map (lowered_policy (services_at (nothing_written node) (key.Policy id)))) (get-empty policy_cmp.cmp-value.it id));
}

nothing_sound : (node : List ℕ) → node ≢ [] → IsSound (nothing_written node)
nothing_sound node named = record {
  named = named;
  endpoints = λ k e there. nothing_there e (sym (get-empty item_cmp.cmp-value.it k) ∙ there);
  net_sets = λ k s there. nothing_there s (sym (get-empty item_cmp.cmp-value.it k) ∙ there);
  profiles = λ name p there. nothing_there p (sym (get_empty name) ∙ there);
  policies = λ id p there. nothing_there p (sym (get-empty policy_cmp.cmp-value.it id) ∙ there);
  slices = λ k s there. nothing_there s (sym (get-empty item_cmp.cmp-value.it k) ∙ there);
}

start_stands : (dg : Digest) (node : List ℕ) → node ≢ [] → StandsAt (start dg node) (nothing_written node)
start_stands dg node named = record {
  records = no_records node;
  sound = nothing_sound node named;
  places = record {
    profiles = λ name p there. nothing_there p (sym (get_empty name) ∙ there);
    policies = λ id p there. nothing_there p (sym (get-empty policy_cmp.cmp-value.it id) ∙ there);
  };
  servable = none-servable dg node;
  closed = empty_view-drivable.closed;
}

-- ---- one change

-- a node of sound resources has a name, and so has that of the records
records_named : (W : Written) (R : Resources) → StandsFor W R → IsSound W → R.node ≢ []
records_named W R records sound = subst (λ (n : List ℕ). n ≢ []) (sym records.node) sound.named

changed : (s : State) (W : Written) → StandsAt s W → (u : WrittenUpdate) → IsReadChange (lowered_change u) → is_sound_update u ≡ true → (o : Option Clash) → clash s.replay.digest s.replay.resources (lowered_written u) ≡ o
    → StandsAt (settled accepted s (unless_taken o (command.Change (lowered_change u)))) (made_if o W u)
changed s W was u read sound (Some c) is = was
changed s W was u read sound None is =
    let R = s.replay.resources in
    record {
      records = stand_on W R u was.records was.sound sound;
      sound = stays_sound W u was.sound sound;
      places = places_stand_on W s.places was.places u sound;
      servable = record {
        formed = are_formed-after R was.servable.formed (lowered_written u) read.formed;
        clash_free = clash_free_after s.replay.digest R (lowered_written u) read.formed was.servable.clash_free is;
        on_workloads = have_workload_interfaces-after R was.servable.on_workloads (lowered_written u) (read.on_workloads R.node (records_named W R was.records was.sound));
      };
      closed = was.closed;
    }

-- ---- one line

abbrev held_or : Option Lowered → Lowered → Lowered
held_or None l = l
held_or (Some m) l = m

-- what stands for a change is the one that a line asks for
asked : (s : State) (W : Written) → StandsAt s W → (l : Lowered) → IsReadChange l → (said : Option WrittenUpdate) → IfSome said (λ u. is_sound_update u ≡ true) → Some l ≡ option_map lowered_change said
    → StandsAt (settled accepted s (checked s.replay.digest s.replay.resources (Ok (command.Change l)))) (made s.replay.digest s.replay.resources W said)
asked s W was l read None sound alike = nothing_there l (sym alike)
asked s W was l read (Some u) sound alike =
    let dg = s.replay.digest in
    let R = s.replay.resources in
    let same : l ≡ lowered_change u = ap (λ (o : Option Lowered). held_or o l) alike in
    let P : Lowered → Type 0 = λ m. IsReadChange m → StandsAt (settled accepted s (checked dg R (Ok (command.Change m)))) (made dg R W (Some u)) in
    subst P (sym same) (λ r. changed s W was u r sound (clash dg R (lowered_written u)) refl) read

-- nothing is said of the resources
quiet : (s : State) (W : Written) → (t : State) → StandsAt t W → (said : Option WrittenUpdate) → None ≡ option_map lowered_change said → StandsAt t (made s.replay.digest s.replay.resources W said)
quiet s W t stands None alike = stands
quiet s W t stands (Some u) alike = nothing_there (lowered_change u) alike

flushed_stands : (s : State) (W : Written) → StandsAt s W → StandsAt (accepted s command.Flush) W
flushed_stands s W was =
    let w = view_of s.replay.digest s.replay.resources in
    record {
      records = was.records;
      sound = was.sound;
      places = was.places;
      servable = was.servable;
      closed = subst IsClosedView (sym (flush-ends s.replay.sent w)) (view_of-closed s.replay.digest s.replay.resources);
    }

answered : (s : State) (W : Written) → StandsAt s W → (answer : Result ServicesCommand Refusal) → IfOk answer IsReadServices → (said : Option WrittenUpdate) → IfSome said (λ u. is_sound_update u ≡ true) → command_change answer ≡ option_map lowered_change said
    → StandsAt (settled accepted s (checked s.replay.digest s.replay.resources answer)) (made s.replay.digest s.replay.resources W said)
answered s W was (Ok command.Blank) read said sound alike = quiet s W s was said alike
answered s W was (Ok command.Tables) read said sound alike = quiet s W s was said alike
answered s W was (Ok command.Flush) read said sound alike = quiet s W (accepted s command.Flush) (flushed_stands s W was) said alike
answered s W was (Ok (command.Change l)) read said sound alike = asked s W was l read said sound alike
answered s W was (Ok (command.Packet a)) read said sound alike = quiet s W s was said alike
answered s W was (Err r) read said sound alike = quiet s W s was said alike

line_stands : (s : State) (W : Written) (line : List ℕ) → StandsAt s W → StandsAt (next s line) (written_next s W line)
line_stands s W line was = answered s W was (command_of line) (command_of-read line) (written_of line) (written_of-sound line) (command_of-alike line)

-- ---- any lines

along : (s : State) (W : Written) (lines : List (List ℕ)) → StandsAt s W → StandsAt (state_after next s lines) (written_along s W lines)
unfolding state_after written_along
along s W [] was = was
along s W (line ∷ lines) was = along (next s line) (written_next s W line) lines (line_stands s W line was)

pub run_stands : (dg : Digest) (node : List ℕ) → node ≢ [] → (lines : List (List ℕ)) → StandsAt (state_after next (start dg node) lines) (written_behind dg node lines)
run_stands dg node named lines = along (start dg node) (nothing_written node) lines (start_stands dg node named)
