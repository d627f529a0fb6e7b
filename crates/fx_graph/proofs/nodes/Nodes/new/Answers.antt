use Rattle.std.proofs.Common.{sym, ◌∙◌}
use Rattle.fx_node_laws.specs.Changes.{taken}
use Rattle.fx_node_laws.specs.Empty.{no_items, no_rules, no_endpoints, no_sets}
use Rattle.fx_graph.proofs.Starting.{settled_first}
use Rattle.fx_graph.proofs.nodes.Nodes.new.Goals as goal

pub returns-clause-settled : goal.returns-clause-settled
returns-clause-settled c dg =
    settled_first dg
    (record { alloc = c.args.alloc; upper = c.new-upper.result; told = c.new-told.result; scanner = c.new-scanner.result; uses = c.new-uses.result; resolver = c.new-resolver.result; members = c.new-members.result; waiting = c.new-waiting.result; sequencer = c.new-sequencer.result })
    c.new-told.ensures c.new-upper.ensures.upper (sym c.new-upper.ensures.upper.joined.same ∙ (λ j. (c.new-upper.ensures.active j).matched))
    c.new-scanner.ensures.empty (c.new-scanner.ensures.scanned dg) c.new-uses.ensures c.new-resolver.ensures.empty c.new-resolver.ensures.resolved
    c.new-members.ensures.empty c.new-members.ensures.members c.new-sequencer.ensures

pub returns-clause-taken : goal.returns-clause-taken
returns-clause-taken c = λ j. record (taken no_items no_rules no_endpoints no_sets) {
  items = (c.new-upper.ensures.index j).items;
  parents = (c.new-upper.ensures.index j).parents;
  policies = (c.new-upper.ensures.active j).policies;
  profiles = (c.new-upper.ensures.active j).profiles;
  endpoints = (c.new-upper.ensures.active j).endpoints;
  tiers = (c.new-resolver.ensures.empty j).tiers;
  locals = (c.new-resolver.ensures.empty j).endpoints;
  contributors = (c.new-members.ensures.empty j).items;
}
