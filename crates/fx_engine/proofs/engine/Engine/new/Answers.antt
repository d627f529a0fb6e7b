use Rattle.std.proofs.Common.{ap, false, subst}
use Rattle.fx_model.specs.Resources.{empty_resources}
use Rattle.fx_model.specs.declared.resources.Resources.{Resources}
use Rattle.fx_graph.specs.Graphs.{IsGraphOf}
use Rattle.fx_laws.proofs.NoResources.{none-servable}
use Rattle.fx_engine.proofs.Following.{sound-anew}
use Rattle.fx_engine.proofs.engine.Engine.new.Goals as goal

pub invariant_of-result : goal.invariant_of-result
invariant_of-result g c =
    let dg = g.R.DigestRule.digest_of in
    let none = none-servable dg c.args.node in
    let graph =
    subst (λ (S : Resources). IsGraphOf dg S c.new-graph.result.state) (ap empty_resources c.in_ok-graph_node.ensures.cases) c.new-graph.ensures.resources in
    record {
      sound =
          λ ready. sound-anew dg (empty_resources c.args.node) none.formed none.clash_free c.new-store.result c.new-graph.result.state graph c.new-store.ensures.resources (c.new-store.ensures.claims dg);
    }

pub returns : goal.returns
returns g c = λ j. record { resources = c.new-store.ensures.resources j; sent = c.new-graph.ensures.sent j; failed = false }
