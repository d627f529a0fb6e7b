-- The nodes go on to agree where one of those below is told of the resources.
use Rattle.std.proofs.Common.{◌≡◌, ℕ, List, [], Option, None, sym, ap, ◌∙◌, subst}
use Rattle.std.specs.Prelude.{option_map}
use Rattle.std.specs.FinMap as map
use Rattle.fx_names.specs.Digests.{Digest}
use Rattle.fx_model.specs.Pairs.{Pairs}
use Rattle.fx_model.specs.Views.{policy_key}
use Rattle.fx_model.specs.declared.resources.Resources.{Resources}
use Rattle.fx_model.specs.declared.view.View.{View}
use Rattle.fx_members.specs.Members.{AreMembers}
use Rattle.fx_members.specs.declared.inputs.Inputs as members
use Rattle.fx_resolver.specs.Known.{known_policy}
use Rattle.fx_resolver.specs.Resolved.{IsResolved}
use Rattle.fx_resolver.specs.declared.inputs.Inputs as resolver
use Rattle.fx_scanner.specs.Scanned.{IsScanned}
use Rattle.fx_sequencer.specs.Sides.{SameSentAndSets}
use Rattle.fx_sequencer.specs.declared.sides.Sides.{Sides}
use Rattle.fx_graph_rules.specs.Counting.{with_some}
use Rattle.fx_logs.specs.Run.{IsRun}
use Rattle.fx_model.specs.PairRuns.{IsPairRun}
use Rattle.fx_graph_rules.specs.Uppers.{AreInStep}
use Rattle.fx_graph_rules.specs.declared.nodes.Upper.{Upper}
use Rattle.fx_logs.specs.declared.pair_log.PairChange.{PairChange}
use Rattle.fx_graph_view.specs.Kept.{SameButSets}
use Rattle.fx_logs.specs.Logged.{IsLogged}
use Rattle.fx_logs.specs.Touched.{IsTouched}
use Rattle.fx_logs.specs.declared.active_log.Logged.{Logged}
use Rattle.fx_logs.specs.declared.active_told.ActiveTold.{ActiveTold}
use Rattle.fx_graph.specs.Used.{used_in}
use Rattle.fx_node_laws.specs.Waits.{Queue}
use Rattle.fx_graph.specs.BehindBy.{IsBehindBy}
use Rattle.fx_graph.specs.InStep.{IsInStep}
use Rattle.fx_graph.specs.Graphs.{IsGraphOf, sides_of}
use Rattle.fx_graph.specs.declared.nodes.Nodes.{Nodes}
use Rattle.fx_graph.specs.declared.state.GraphState.{GraphState}

module _ (dg : Digest) (before : Option (List ℕ)) (g : Nodes) (s : IsInStep dg before g) where
  -- members that know the same sets and pairs
  pub settled_members : (m : members.Inputs) (q : Sides) → m.uses ≡ g.members.uses → m.matched ≡ g.members.matched → AreMembers m q.wanted.sets → SameButSets g.sequencer q → IsInStep dg before (record g { members = m; sequencer = q })
  settled_members m q uses matched told b = record {
    upper = s.upper;
    policies = s.policies;
    profiles = s.profiles;
    scanned = subst (λ p. IsScanned dg g.scanner p q.wanted.profiles g.uses) (sym b.policies) (subst (λ p. IsScanned dg g.scanner g.sequencer.wanted.policies p g.uses) (sym b.profiles) s.scanned);
    known = s.known;
    pairs = s.pairs;
    resolved = subst (IsResolved g.resolver) (sym b.endpoints) s.resolved;
    uses = uses ∙ s.uses;
    matched = matched ∙ s.matched;
    members = told;
    formed = s.formed;
  }

  -- a resolver that knows the same policies and pairs
  pub settled_resolver : (r : resolver.Inputs) (q : Sides) → r.policies ≡ g.resolver.policies → r.pairs ≡ g.resolver.pairs → IsResolved r q.wanted.endpoints → SameSentAndSets g.sequencer q → q.wanted.policies ≡ g.sequencer.wanted.policies → q.wanted.profiles ≡ g.sequencer.wanted.profiles → IsInStep dg before (record g { resolver = r; sequencer = q })
  settled_resolver r q policies pairs told b view_policies view_profiles = record {
    upper = s.upper;
    policies = s.policies;
    profiles = s.profiles;
    scanned = subst (λ p. IsScanned dg g.scanner p q.wanted.profiles g.uses) (sym view_policies) (subst (λ p. IsScanned dg g.scanner g.sequencer.wanted.policies p g.uses) (sym view_profiles) s.scanned);
    known = λ id. ap (λ m. map.get m id) policies ∙ s.known id;
    pairs = pairs ∙ s.pairs;
    resolved = told;
    uses = s.uses;
    matched = s.matched;
    members = subst (AreMembers g.members) (sym b.sets) s.members;
    formed = s.formed;
  }

  -- a view was sent, and the wanted one stays
  pub settled_sent : (q : Sides) → q.wanted ≡ g.sequencer.wanted → IsInStep dg before (record g { sequencer = q })
  settled_sent q now = record {
    upper = s.upper;
    policies = s.policies;
    profiles = s.profiles;
    scanned = subst (λ (v : View). IsScanned dg g.scanner v.policies v.profiles g.uses) (sym now) s.scanned;
    known = s.known;
    pairs = s.pairs;
    resolved = subst (λ (v : View). IsResolved g.resolver v.endpoints) (sym now) s.resolved;
    uses = s.uses;
    matched = s.matched;
    members = subst (λ (v : View). AreMembers g.members v.sets) (sym now) s.members;
    formed = s.formed;
  }

  pub settled_waiting : (w : Queue) → IsInStep dg before (record g { waiting = w })
  settled_waiting w = record {
    upper = s.upper;
    policies = s.policies;
    profiles = s.profiles;
    scanned = s.scanned;
    known = s.known;
    pairs = s.pairs;
    resolved = s.resolved;
    uses = s.uses;
    matched = s.matched;
    members = s.members;
    formed = s.formed;
  }

-- the upper nodes told something, and the log has what may have changed
module _ (dg : Digest) (g : Nodes) (s : IsInStep dg None g) (start : ActiveTold) (logged : Logged) (is : g.told ≡ start) (since : IsLogged start logged) where
  pub ahead : (before : Option (List ℕ)) (changes : List PairChange) (upper : Upper) (told : ActiveTold) → AreInStep upper.joined (with_some before (used_in g.uses)) logged.told.policies logged.told.profiles logged.told.pairs → IsRun changes g.upper.joined.pairs upper.joined.pairs → IsBehindBy dg before (record g { upper = upper; told = told }) changes logged
  ahead before changes upper told u run = record {
    upper = u;
    policies = subst (λ m. IsTouched logged.policies m logged.told.policies) (sym (s.policies ∙ ap (λ t. t.policies) is)) since.policies;
    profiles = subst (λ m. IsTouched logged.profiles m logged.told.profiles) (sym (s.profiles ∙ ap (λ t. t.profiles) is)) since.profiles;
    scanned = s.scanned;
    behind = λ id e. s.known id ∙ ap (option_map (known_policy (policy_key dg id))) (ap (λ t. map.get t.policies id) is ∙ since.policies.at id e);
    pairs = subst (λ m. IsPairRun logged.pairs m logged.told.pairs) (sym (s.pairs ∙ ap (λ t. t.pairs) is)) since.pairs;
    resolved = s.resolved;
    uses = s.uses;
    run = subst (λ m. IsRun changes m upper.joined.pairs) (sym s.matched) run;
    members = s.members;
    formed = s.formed;
  }

-- no change is a run that stays
pub no_changes : (changes : List PairChange) → changes ≡ [] → (first last : Pairs) → first ≡ last → IsRun changes first last
no_changes changes none first last same = subst (λ xs. IsRun xs first last) (sym none) same

-- a graph whose next message was sent is still that of the resources
pub graph_sent : (dg : Digest) (R : Resources) (g : GraphState) → IsGraphOf dg R g → (q : Sides) → q.wanted ≡ (sides_of g).wanted
    → IsGraphOf dg R (record g { nodes = record g.nodes { sequencer = q } })
graph_sent dg R g is q now = record {
  node = is.node;
  in_sync = is.in_sync;
  nodes = record { settled = settled_sent dg None g.nodes is.nodes.settled q now; tied = is.nodes.tied; waiting = is.nodes.waiting };
  now = now ∙ is.now;
}
