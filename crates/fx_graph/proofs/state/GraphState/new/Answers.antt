use Rattle.std.proofs.Common.{false, refl, sym, subst}
use Rattle.fx_model.specs.Resources.{empty_resources}
use Rattle.fx_node_laws.specs.Changes.{taken}
use Rattle.fx_node_laws.specs.Empty.{no_items, no_rules, no_endpoints, no_sets}
use Rattle.fx_node_laws.specs.Waits.{AreWaiting}
use Rattle.fx_node_laws.proofs.Starting.{tied_at_first}
use Rattle.fx_node_laws.proofs.TakenTies.{taken_is, tied_by}
use Rattle.fx_node_laws.proofs.WaitTies.{none_waits_at_first}
use Rattle.fx_graph.proofs.Agreeing.{graph_of}
use Rattle.fx_graph.proofs.state.GraphState.new.Goals as goal

pub returns-clause-resources : goal.returns-clause-resources
returns-clause-resources c dg =
    let node = c.args.node in
    graph_of dg (record { node = node; in_sync = false; nodes = c.new.result }) (c.new.ensures.settled dg) (empty_resources node) refl refl
    (tied_by (taken no_items no_rules no_endpoints no_sets) c.new.ensures.taken (taken_is (tied_at_first dg node)))
    (subst (AreWaiting (empty_resources node)) (sym c.new.ensures.waiting) (none_waits_at_first node))
