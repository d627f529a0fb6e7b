-- Nodes that agree told what they define, and so they make the view of the resources.
use Rattle.std.proofs.Common.{◌≡◌, ℕ, ◌+◌, ◌<◌, List, Some, None, ap, ◌∙◌, arith}
use Rattle.std.specs.FinMap as map
use Rattle.fx_base.specs.Set as set
use Rattle.fx_names.specs.Digests.{Digest}
use Rattle.fx_selector.specs.Canonical.{canonical_text}
use Rattle.fx_model.specs.declared.ids.ItemKey.{ItemKey}
use Rattle.fx_model.specs.declared.resources.Resources.{Resources}
use Rattle.fx_model.specs.declared.set_use.SetUse.{SetUse}
use Rattle.fx_label_index.specs.Matched.{labels_of}
use Rattle.fx_graph_rules.specs.Composed.{holds_at}
use Rattle.fx_graph_rules.specs.Counting.{total, times}
use Rattle.fx_graph_rules.proofs.Composing.{composed}
use Rattle.fx_graph_rules.proofs.Counts.{counted_tests}
use Rattle.fx_graph.specs.Used.{used_in}
use Rattle.fx_graph.proofs.UsedTexts.{use_counted}
use Rattle.fx_node_laws.specs.Tied.{IsTied}
use Rattle.fx_node_laws.specs.Told.{IsTold}
use Rattle.fx_node_laws.specs.Waits.{AreWaiting}
use Rattle.fx_node_laws.proofs.Viewing.{view_is_made}
use Rattle.fx_graph.specs.Graphs.{IsGraphOf}
use Rattle.fx_graph.specs.InStep.{IsInStep}
use Rattle.fx_graph.specs.declared.nodes.Nodes.{Nodes}
use Rattle.fx_graph.specs.declared.state.GraphState.{GraphState}

more : (a b : ℕ) → 0 < b → 0 < a + b
more a b h = omega (arith, h)

module _ (dg : Digest) (g : Nodes) (s : IsInStep dg None g) where
  -- the index told where the selector of a used set holds
  matched : (name : List ℕ) (u : SetUse) → map.get g.uses name ≡ Some u → (i : ItemKey) → set.contains g.members.matched (canonical_text u.selector, i) ≡ holds_at g.upper.joined.index u.selector i
  matched name u at i =
      ap (λ m. set.contains m (canonical_text u.selector, i)) s.matched
      ∙ s.upper.joined.matched (canonical_text u.selector) i
      ∙ counted_tests g.upper.joined.index.selectors (total g.upper.joined.active.policies (used_in g.uses)) s.upper.counted u.selector (s.formed name u at).selector
      (more (times g.upper.joined.active.policies (canonical_text u.selector)) (used_in g.uses (canonical_text u.selector)) (use_counted g.uses name u at))
      (labels_of (map.get g.upper.joined.index.parents) (map.get g.upper.joined.index.items i))

  pub told_of : IsTold dg g.upper.joined.index g.upper.joined.active g.told.policies g.told.profiles g.told.pairs g.scanner g.resolver g.members g.sequencer.wanted g.uses
  told_of = record {
    composed = composed g.upper.joined (used_in g.uses) g.told.policies g.told.profiles g.told.pairs s.upper;
    scanned_policies = s.policies;
    scanned_profiles = s.profiles;
    scanned = s.scanned;
    known = s.known;
    paired = s.pairs;
    resolved = s.resolved;
    used = s.uses;
    matched = matched;
    members_are = s.members;
  }

-- and so a graph is that of the resources which its nodes hold
pub graph_of : (dg : Digest) (g : GraphState) → IsInStep dg None g.nodes → (R : Resources) → g.node ≡ R.node → g.in_sync ≡ R.in_sync
    → IsTied dg R g.nodes.upper.joined.index g.nodes.upper.joined.active g.nodes.resolver g.nodes.members → AreWaiting R g.nodes.waiting → IsGraphOf dg R g
graph_of dg g s R node in_sync tied waiting = record {
  node = node;
  in_sync = in_sync;
  nodes = record { settled = s; tied = tied; waiting = waiting };
  now = view_is_made dg R g.nodes.upper.joined.index g.nodes.upper.joined.active g.nodes.told.policies g.nodes.told.profiles g.nodes.told.pairs g.nodes.scanner g.nodes.resolver g.nodes.members g.nodes.sequencer.wanted g.nodes.uses
      tied (told_of dg g.nodes s);
}
