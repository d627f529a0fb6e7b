-- A change is made or refused as its update is; and the node stays the same.
use Rattle.std.proofs.Common.{◌≡◌, ℕ, List, [], Option, None, Some, Result, Ok, Err, refl, ap, subst, sym, ◌∙◌}
use Rattle.std.specs.Prelude.{◌≢◌, OnOk}
use Rattle.fx_names.specs.Claims.{Clash}
use Rattle.fx_model.specs.declared.ids.ItemKey.TheVariants as item_key
use Rattle.fx_model.specs.declared.ids.Key.{Key}
use Rattle.fx_model.specs.declared.ids.Key.TheVariants as key
use Rattle.fx_model.specs.declared.resources.Item.{Item}
use Rattle.fx_model.specs.declared.resources.Item.TheVariants as item
use Rattle.fx_model.specs.declared.resources.Resources.{Resources}
use Rattle.fx_model.specs.declared.resources.Update.{Update}
use Rattle.fx_model.specs.declared.resources.Update.TheVariants as update
use Rattle.fx_model.specs.Resources.{after, after_put, after_delete}
use Rattle.fx_fields.specs.declared.refusal.Refusal.{Refusal}
use Rattle.fx_fields.specs.declared.refusal.Refusal.TheVariants.{Taken}
use Rattle.fx_lines.specs.declared.commands.Command.{Command}
use Rattle.fx_lines.specs.declared.commands.Command.TheVariants as replay_command
use Rattle.fx_program.specs.Answers.{accepted_text, refusal_in, settled}
use Rattle.fx_replay.specs.Output as replays
use Rattle.fx_services.specs.declared.lowered.Lowered.{Lowered}
use Rattle.fx_services.specs.Places.{PlacesByKey}
use Rattle.fx_service_lines.specs.declared.command.ServicesCommand.TheVariants as command
use Rattle.felix_services.specs.Noting.{noted_change}
use Rattle.felix_services.specs.Output.{State, unless_taken, accepted, command_text}

-- what a replay answers to an update
abbrev replayed : Option Clash → Update → Result Command Refusal
replayed o u = replays.unless_taken o (replay_command.Update u)

no_refusal : {A : Type 0} (r : Refusal) → Some r ≡ None → A
no_refusal r is = cc

-- the change is refused where the update is, for the same reason
pub told_alike : (l : Lowered) (o : Option Clash) → refusal_in (replayed o l.update) ≡ refusal_in (unless_taken o (command.Change l))
told_alike l None = refl
told_alike l (Some c) = refl

-- a change writes nothing, whether it is made or not
pub untold : (s : State) (l : Lowered) (o : Option Clash) → accepted_text command_text s (unless_taken o (command.Change l)) ≡ []
untold s l None = refl
untold s l (Some c) = refl

module _ (s : State) (l : Lowered) where
  -- a name is taken
  pub refused_state : (o : Option Clash) (r : Refusal) (t : replays.State) → t ≡ settled replays.accepted s.replay (replayed o l.update) → Some r ≡ refusal_in (replayed o l.update) → record s { replay = t } ≡ settled accepted s (unless_taken o (command.Change l))
  refused_state None r t moved told = no_refusal r told
  refused_state (Some c) r t moved told = λ j. record s { replay = moved j }

  -- none is
  pub made_state : (o : Option Clash) (t : replays.State) (P F : PlacesByKey) → t ≡ settled replays.accepted s.replay (replayed o l.update) → None ≡ refusal_in (replayed o l.update) → P ≡ noted_change s.places l → F ≡ s.flushed
      → record s { replay = t; places = P; flushed = F } ≡ settled accepted s (unless_taken o (command.Change l))
  made_state None t P F moved told lists same = λ j. record s { replay = moved j; places = lists j; flushed = same j }
  made_state (Some c) t P F moved told lists same = no_refusal (Taken c.name c.holder) (sym told)

-- what two things that hold after a call that succeeds give
pub on_ok_two : {T E P Q S : Type 0} (r : Result T E) → (P → Q → S) → OnOk r P → OnOk r Q → OnOk r S
on_ok_two (Ok x) f p q = f p q
on_ok_two (Err e) f p q = tt

-- ---- the node

module _ (R : Resources) where
  node_put : (k : Key) (x : Item) → (after_put R k x).node ≡ R.node
  node_put (key.Item (item_key.Endpoint ns name)) (item.Endpoint e) = refl
  node_put (key.Item (item_key.NetSet ns name)) (item.Endpoint e) = refl
  node_put (key.Profile name) (item.Endpoint e) = refl
  node_put (key.Tier name) (item.Endpoint e) = refl
  node_put (key.Policy id) (item.Endpoint e) = refl
  node_put (key.Item (item_key.Endpoint ns name)) (item.Profile p) = refl
  node_put (key.Item (item_key.NetSet ns name)) (item.Profile p) = refl
  node_put (key.Profile name) (item.Profile p) = refl
  node_put (key.Tier name) (item.Profile p) = refl
  node_put (key.Policy id) (item.Profile p) = refl
  node_put (key.Item (item_key.Endpoint ns name)) (item.Tier t) = refl
  node_put (key.Item (item_key.NetSet ns name)) (item.Tier t) = refl
  node_put (key.Profile name) (item.Tier t) = refl
  node_put (key.Tier name) (item.Tier t) = refl
  node_put (key.Policy id) (item.Tier t) = refl
  node_put (key.Item (item_key.Endpoint ns name)) (item.Policy p) = refl
  node_put (key.Item (item_key.NetSet ns name)) (item.Policy p) = refl
  node_put (key.Profile name) (item.Policy p) = refl
  node_put (key.Tier name) (item.Policy p) = refl
  node_put (key.Policy id) (item.Policy p) = refl
  node_put (key.Item (item_key.Endpoint ns name)) (item.NetSet s) = refl
  node_put (key.Item (item_key.NetSet ns name)) (item.NetSet s) = refl
  node_put (key.Profile name) (item.NetSet s) = refl
  node_put (key.Tier name) (item.NetSet s) = refl
  node_put (key.Policy id) (item.NetSet s) = refl

  node_deleted : (k : Key) → (after_delete R k).node ≡ R.node
  node_deleted (key.Item (item_key.Endpoint ns name)) = refl
  node_deleted (key.Item (item_key.NetSet ns name)) = refl
  node_deleted (key.Profile name) = refl
  node_deleted (key.Tier name) = refl
  node_deleted (key.Policy id) = refl

  node_stays : (u : Update) → (after R u).node ≡ R.node
  node_stays update.InSync = refl
  node_stays (update.Put k x) = node_put k x
  node_stays (update.Delete k) = node_deleted k

settled_node : (s : replays.State) (u : Update) (o : Option Clash) → (settled replays.accepted s (replayed o u)).resources.node ≡ s.resources.node
settled_node s u None = node_stays s.resources u
settled_node s u (Some c) = refl

-- a node that has a name keeps it
pub named_after : (s : replays.State) (u : Update) (o : Option Clash) → s.resources.node ≢ [] → (t : replays.State) → t ≡ settled replays.accepted s (replayed o u) → t.resources.node ≢ []
named_after s u o named t moved =
    subst (λ (n : List ℕ). n ≢ []) (sym (ap (λ (x : replays.State). x.resources.node) moved ∙ settled_node s u o)) named
