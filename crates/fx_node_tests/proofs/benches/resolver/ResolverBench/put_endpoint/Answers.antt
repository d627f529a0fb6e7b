use Rattle.std.proofs.Common.{ap, sym, ◌∙◌, subst}
use Rattle.fx_resolver.specs.declared.inputs.Inputs.{Inputs}
use Rattle.fx_resolver.proofs.Alone.{OnlyAt, only_put, alone_apart}
use Rattle.fx_node_tests.proofs.benches.resolver.ResolverBench.put_endpoint.Goals as goal

pub put_endpoint-requires-clause-apart : goal.put_endpoint-requires-clause-apart
put_endpoint-requires-clause-apart c =
    let was = c.args.self.now in
    alone_apart was.item _ (only_put was.item was.node.endpoints c.requires.only _)

pub put_endpoint-requires-clause-resolved : goal.put_endpoint-requires-clause-resolved
put_endpoint-requires-clause-resolved c = c.requires.resolved

pub returns : goal.returns
returns c =
    let was = c.args.self.now in
    let is = c.in_ok-put_endpoint.ensures in
    record {
      resolved = is.resolved;
      told = ap (λ (n : Inputs). n.pairs) is.inputs ∙ c.requires.told;
      only = subst (λ (n : Inputs). OnlyAt was.item n.endpoints) (sym is.inputs) (only_put was.item was.node.endpoints c.requires.only _);
    }
