-- What a node's engine and view are after an update, and after messages.
use Rattle.std.proofs.Common.{◌≡◌, ◌+◌, ℕ, List, true, false, None, Option, Some, refl, sym, ap, ◌∙◌, subst}
use Rattle.fx_names.specs.Digests.{Digest}
use Rattle.fx_model.specs.declared.resources.Resources.{Resources}
use Rattle.fx_model.specs.declared.resources.Update.{Update}
use Rattle.fx_model.specs.declared.view.View.{View}
use Rattle.fx_model.specs.Claims.{clash}
use Rattle.fx_model.specs.Formed.{is_formed}
use Rattle.fx_model.specs.Messages.{Change, next_message, step, step_by, differences}
use Rattle.fx_model.specs.Resources.{after, empty_resources}
use Rattle.fx_model.specs.Views.{view_of}
use Rattle.fx_laws.proofs.ClaimsApart.{clash_free_after}
use Rattle.fx_laws.proofs.FormedLemmas.{are_formed-after}
use Rattle.fx_laws.proofs.Nearer.{no_message, step-nearer}
use Rattle.fx_driver.specs.Stepping.{IsDrivable}
use Rattle.fx_driver.proofs.Drivable.{wanted-drivable}
use Rattle.fx_laws.proofs.NoResources.{none-servable}
use Rattle.fx_engine.specs.States.{EngineState}
use Rattle.fx_hostep.specs.HostRuns.{IsHostServable}
use Rattle.felix_host.specs.Standing.{IsFollowed}
use Rattle.felix_host.specs.Taking.{IsTold, Takes}

-- ---- updates

pub none-host-servable : (dg : Digest) (node : List ℕ) → IsHostServable dg (empty_resources node)
none-host-servable dg node = let none = none-servable dg node in record { formed = none.formed; clash_free = none.clash_free }

pub host-servable-after : (dg : Digest) (R : Resources) → IsHostServable dg R → (u : Update) → is_formed u ≡ true → clash dg R u ≡ None → IsHostServable dg (after R u)
host-servable-after dg R was u formed free = record {
  formed = are_formed-after R was.formed u formed;
  clash_free = clash_free_after dg R u formed was.clash_free free;
}

-- where the engine has taken it
pub followed-after : (dg : Digest) (e now : EngineState) (v : View) → IsFollowed dg e v → (u : Update) → is_formed u ≡ true → clash dg e.resources u ≡ None
    → now.resources ≡ after e.resources u → now.sent ≡ e.sent → now.failed ≡ false → IsFollowed dg now v
followed-after dg e now v was u formed free made sent ready = record {
  servable = subst (IsHostServable dg) (sym made) (host-servable-after dg e.resources was.servable u formed free);
  told = was.told ∙ sym sent;
  drivable = was.drivable;
  ready = ready;
}

-- ---- messages

-- a message leaves one difference fewer
pub nearer : (s w : View) → ¬ (s ≡ w) → differences (step s w) w + 1 ≡ differences s w
nearer s w apart = by_message (next_message s w) refl
  where
    by_message : (o : Option Change) → next_message s w ≡ o → differences (step_by o s w) w + 1 ≡ differences s w
    by_message None is = absurd (apart (no_message s w is))
    by_message (Some c) is = step-nearer s w c is

-- the next message of an engine tells of the view that the engine told
pub told_next : (v sent wanted : View) (c : Change) → v ≡ sent → next_message sent wanted ≡ Some c → IsTold v c
told_next v sent wanted c told is = (wanted, subst (λ (s : View). next_message s wanted ≡ Some c) (sym told) is)

pub took_next : (v now sent wanted : View) (c : Change) → v ≡ sent → next_message sent wanted ≡ Some c → Takes v now c → now ≡ step sent wanted
unfolding told_next
took_next v now sent wanted c told is takes = takes wanted (told_next v sent wanted c told is).1 ∙ ap (λ (s : View). step s wanted) told

-- where there is no message, there is no step
pub no_step : (e : EngineState) (wanted : View) → next_message e.sent wanted ≡ None → e ≡ record e { sent = step e.sent wanted }
no_step e wanted none = sym (ap (λ (o : Option Change). record e { sent = step_by o e.sent wanted }) none)

-- where all was taken
pub followed-on : (dg : Digest) (e now : EngineState) (v w : View) → IsFollowed dg e v → now.resources ≡ e.resources → w ≡ now.sent → w ≡ view_of dg e.resources → now.failed ≡ false → IsFollowed dg now w
followed-on dg e now v w was same told reached ready = record {
  servable = subst (IsHostServable dg) (sym same) was.servable;
  told = told;
  drivable = subst IsDrivable (sym reached) (wanted-drivable dg e.resources was.servable.formed);
  ready = ready;
}
