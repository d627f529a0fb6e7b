use Rattle.std.proofs.Common.{◌≡◌, refl, sym, ap, ◌∙◌, subst}
use Rattle.fx_names.specs.Digests.{plain_digest}
use Rattle.fx_model.specs.Claims.{IsClashFree}
use Rattle.fx_model.specs.Formed.{are_formed}
use Rattle.fx_model.specs.Resources.{empty_resources}
use Rattle.fx_model.specs.declared.resources.Resources.{Resources}
use Rattle.fx_laws.proofs.ClaimsApart.{clash_free_none}
use Rattle.fx_graph.specs.Graphs.{IsGraphOf}
use Rattle.fx_graph_tests.proofs.Starting.{none-formed}
use Rattle.fx_graph_tests.proofs.bench.tells_the_view.Goals as goal

pub follow-tells-requires : goal.follow-tells-requires
follow-tells-requires c =
    let node = c.in_ok-node.node in
    let is = c.new-store.ensures.resources in
    record {
      formed = ap are_formed is ∙ none-formed node;
      apart = subst (IsClashFree plain_digest) (sym is) (clash_free_none plain_digest (empty_resources node) refl refl refl);
      claims = c.new-store.ensures.claims plain_digest;
      graph = subst (λ (S : Resources). IsGraphOf plain_digest S c.new-graph.result.state) (ap empty_resources c.in_ok-graph_node.ensures.cases ∙ sym is) c.new-graph.ensures.resources;
    }
