-- What an engine holds stays as it is said after an update, and after a message.
use Rattle.std.proofs.Common.{◌≡◌, Bool, true, None, sym, ap, ◌∙◌, subst}
use Rattle.fx_names.specs.Digests.{Digest}
use Rattle.fx_model.specs.declared.resources.Resources.{Resources}
use Rattle.fx_model.specs.declared.resources.Update.{Update}
use Rattle.fx_model.specs.declared.view.View.{View}
use Rattle.fx_model.specs.Claims.{IsClashFree, clash}
use Rattle.fx_model.specs.Formed.{are_formed, is_formed}
use Rattle.fx_model.specs.Resources.{after}
use Rattle.fx_laws.proofs.ClaimsApart.{clash_free_after}
use Rattle.fx_laws.proofs.FormedLemmas.{are_formed-after}
use Rattle.fx_graph.specs.declared.state.GraphState.{GraphState}
use Rattle.fx_graph.specs.Graphs.{IsAccepted, IsGraphOf, KeepsResources}
use Rattle.fx_store.specs.declared.store.Store.{Store}
use Rattle.fx_store.specs.Keeping.{KeepsClaims}
use Rattle.fx_engine.specs.Sound.{IsSound}
use Rattle.fx_engine.specs.States.{EngineState}

-- ---- updates

-- the graph can follow an update that clashes with nothing
pub update-accepted : (dg : Digest) (R : Resources) → are_formed R ≡ true → IsClashFree dg R → (u : Update) → is_formed u ≡ true → clash dg R u ≡ None → IsAccepted dg R u
update-accepted dg R was apart u formed free = record {
  formed = are_formed-after R was u formed;
  apart = clash_free_after dg R u formed apart free;
}

-- where the resources are others that are accepted, and graph and store are theirs
pub sound-anew : (dg : Digest) (R : Resources) → are_formed R ≡ true → IsClashFree dg R → (t : Store) (h : GraphState) → IsGraphOf dg R h → t.resources ≡ R → KeepsClaims dg t → IsSound dg t h
sound-anew dg R formed apart t h graph made claims = record {
  formed = ap are_formed made ∙ formed;
  apart = subst (IsClashFree dg) (sym made) apart;
  claims = claims;
  graph = subst (λ (S : Resources). IsGraphOf dg S h) (sym made) graph;
}

-- where graph and store have followed an update, all stands as before
pub sound-after : (dg : Digest) (s t : Store) (g h : GraphState) → IsSound dg s g → (u : Update) → is_formed u ≡ true → clash dg s.resources u ≡ None
    → IsGraphOf dg (after s.resources u) h → t.resources ≡ after s.resources u → KeepsClaims dg t → IsSound dg t h
sound-after dg s t g h was u formed free graph made claims =
    let now = update-accepted dg s.resources was.formed was.apart u formed free in
    sound-anew dg (after s.resources u) now.formed now.apart t h graph made claims

-- ---- messages

-- a graph that stays that of the same resources
pub sound-on : (dg : Digest) (s : Store) (g h : GraphState) → KeepsResources dg g h → IsSound dg s g → IsSound dg s h
sound-on dg s g h keeps was = record {
  formed = was.formed;
  apart = was.apart;
  claims = was.claims;
  graph = keeps s.resources was.graph;
}

-- what is seen of an engine
abbrev pub state : Resources → Bool → View → EngineState
state R failed v = record { resources = R; sent = v; failed = failed }

-- it is the same where the same was sent
pub same_state : (R : Resources) (failed : Bool) (v w : View) → v ≡ w → state R failed v ≡ state R failed w
same_state R failed v w same = ap (state R failed) same
