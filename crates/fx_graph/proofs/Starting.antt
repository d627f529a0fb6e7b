-- Nodes that were given nothing agree.
use Rattle.std.proofs.Common.{◌≡◌, ℕ, List, None, Some, sym, ap, ◌∙◌, subst}
use Rattle.std.specs.Prelude.{option_map}
use Rattle.std.specs.FinMap as map
use Rattle.std.specs.Ordering.{nat_cmp}
use Rattle.std.specs.Cmp.Lexicographic.{slice_cmp}
use Rattle.fx_base.specs.Set as set
use Rattle.fx_base.proofs.Entries.{entries-empty}
use Rattle.fx_names.specs.Digests.{Digest}
use Rattle.fx_model.specs.Sinks.{Uses}
use Rattle.fx_model.specs.Views.{empty_view, policy_key}
use Rattle.fx_model.specs.contracts.ids.PolicyIdOrd.TheImpl as policy_cmp
use Rattle.fx_model.specs.declared.set_use.SetUse.{SetUse}
use Rattle.fx_members.specs.Members.{AreMembers}
use Rattle.fx_resolver.specs.Known.{known_policy}
use Rattle.fx_resolver.specs.Resolved.{IsResolved}
use Rattle.fx_scanner.specs.Scanned.{IsScanned}
use Rattle.fx_sequencer.specs.declared.sides.Sides.{Sides}
use Rattle.fx_graph_rules.specs.Counting.{none_used}
use Rattle.fx_graph_rules.specs.Uppers.{AreInStep}
use Rattle.fx_logs.specs.declared.active_told.ActiveTold.{ActiveTold}
use Rattle.fx_graph.specs.Used.{used_in, used_among}
use Rattle.fx_node_laws.specs.Empty.{no_active, no_endpoints, no_sets}
use Rattle.fx_graph.specs.InStep.{IsInStep}
use Rattle.fx_graph.specs.declared.nodes.Nodes.{Nodes}

no_use : (u : SetUse) → None ≡ Some u → ⊥
no_use u e = cc

none_in : (uses : Uses) → uses ≡ map.empty → (t : List ℕ) → none_used t ≡ used_in uses t
none_in uses none t = sym (ap (λ (m : Uses). used_in m t) none ∙ ap (used_among t) (entries-empty (slice_cmp nat_cmp)))

module _ (dg : Digest) (g : Nodes) (told : g.told ≡ record { policies = map.empty; profiles = map.empty; pairs = set.empty })
    (upper : AreInStep g.upper.joined none_used map.empty map.empty set.empty) (pairs : g.upper.joined.pairs ≡ set.empty)
    (scanner : g.scanner ≡ no_active) (scanned : IsScanned dg g.scanner map.empty map.empty map.empty) (uses : g.uses ≡ map.empty)
    (resolver : g.resolver ≡ no_endpoints) (resolved : IsResolved g.resolver map.empty)
    (members : g.members ≡ no_sets) (are : AreMembers g.members map.empty)
    (sequencer : g.sequencer ≡ record { sent = empty_view; wanted = empty_view }) where
  pub settled_first : IsInStep dg None g
  settled_first = record {
    upper = subst (λ (t : ActiveTold). AreInStep g.upper.joined (used_in g.uses) t.policies t.profiles t.pairs) (sym told)
        (subst (λ (used : List ℕ → ℕ). AreInStep g.upper.joined used map.empty map.empty set.empty) (λ j t. none_in g.uses uses t j) upper);
    policies = (λ j. (scanner j).policies) ∙ (λ j. (sym told j).policies);
    profiles = (λ j. (scanner j).profiles) ∙ (λ j. (sym told j).profiles);
    scanned = subst (λ (q : Sides). IsScanned dg g.scanner q.wanted.policies q.wanted.profiles g.uses) (sym sequencer)
        (subst (λ (u : Uses). IsScanned dg g.scanner map.empty map.empty u) (sym uses) scanned);
    known = λ id.
        (λ j. map.get (resolver j).policies id)
        ∙ map.get-empty policy_cmp.cmp-value.it id
        ∙ sym (ap (option_map (known_policy (policy_key dg id))) (map.get-empty policy_cmp.cmp-value.it id))
        ∙ (λ j. option_map (known_policy (policy_key dg id)) (map.get (sym told j).policies id));
    pairs = (λ j. (resolver j).pairs) ∙ (λ j. (sym told j).pairs);
    resolved = subst (λ (q : Sides). IsResolved g.resolver q.wanted.endpoints) (sym sequencer) resolved;
    uses = (λ j. (members j).uses) ∙ sym uses;
    matched = (λ j. (members j).matched) ∙ sym pairs;
    members = subst (λ (q : Sides). AreMembers g.members q.wanted.sets) (sym sequencer) are;
    formed = λ name u at. absurd (no_use u (sym (map.get-empty (slice_cmp nat_cmp) name) ∙ ap (λ (m : Uses). map.get m name) (sym uses) ∙ at));
  }
