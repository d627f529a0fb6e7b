use Rattle.std.proofs.Common.{ap, sym, ◌∙◌, subst}
use Rattle.fx_resolver.specs.declared.inputs.Inputs.{Inputs}
use Rattle.fx_resolver.proofs.Alone.{OnlyAt}
use Rattle.fx_node_tests.proofs.benches.resolver.ResolverBench.remove_policy.Goals as goal

pub policy_off-requires : goal.policy_off-requires
policy_off-requires c = c.requires.resolved

pub returns : goal.returns
returns c =
    let is = c.in_ok-policy_off.ensures in
    record {
      resolved = is.resolved;
      told = ap (λ (n : Inputs). n.pairs) is.inputs ∙ c.requires.told;
      only = subst (λ (n : Inputs). OnlyAt c.args.self.now.item n.endpoints) (sym is.inputs) c.requires.only;
    }
