use Rattle.std.proofs.Common.{ap, sym, ◌∙◌, subst}
use Rattle.fx_resolver.specs.declared.inputs.Inputs.{Inputs}
use Rattle.fx_resolver.proofs.Alone.{OnlyAt, only_gone}
use Rattle.fx_node_tests.proofs.benches.resolver.ResolverBench.remove_endpoint.Goals as goal

pub remove_endpoint-requires : goal.remove_endpoint-requires
remove_endpoint-requires c = c.requires.resolved

pub returns : goal.returns
returns c =
    let was = c.args.self.now in
    let is = c.in_ok-remove_endpoint.ensures in
    record {
      resolved = is.resolved;
      told = ap (λ (n : Inputs). n.pairs) is.inputs ∙ c.requires.told;
      only = subst (λ (n : Inputs). OnlyAt was.item n.endpoints) (sym is.inputs) (only_gone was.item was.node.endpoints c.requires.only was.item);
    }
