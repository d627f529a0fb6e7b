use Rattle.std.proofs.Common.{refl, ap, not, sym, ◌∙◌, subst}
use Rattle.fx_base.specs.Set as set
use Rattle.fx_model.specs.Pairs.{put}
use Rattle.fx_model.specs.PairRuns.{changed_policy_pair}
use Rattle.fx_model.specs.declared.policy_pairs.PolicyPairChange.{PolicyPairChange}
use Rattle.fx_resolver.specs.declared.inputs.Inputs.{Inputs}
use Rattle.fx_resolver.proofs.Alone.{OnlyAt}
use Rattle.fx_node_tests.proofs.benches.resolver.ResolverBench.remove_pair.Goals as goal

pub change_pairs-requires-clause-run : goal.change_pairs-requires-clause-run
change_pairs-requires-clause-run c =
    let known = c.args.self.now.node.pairs in
    let is = c.in_ok-change.ensures in
    (ap (λ (x : PolicyPairChange). set.contains known (changed_policy_pair x)) is ∙ ap (λ s. set.contains s c.args.pair.now) c.requires.bench.told ∙ c.requires.present ∙ sym (ap (λ (x : PolicyPairChange). not x.on) is), refl)

pub change_pairs-requires-clause-resolved : goal.change_pairs-requires-clause-resolved
change_pairs-requires-clause-resolved c = c.requires.bench.resolved

pub returns : goal.returns
returns c =
    let known = c.args.self.now.node.pairs in
    let is = c.in_ok-change_pairs.ensures in
    record {
      resolved = is.resolved;
      told = ap (λ (n : Inputs). n.pairs) is.inputs ∙ ap (λ (x : PolicyPairChange). put known (changed_policy_pair x) x.on) c.in_ok-change.ensures ∙ ap (λ s. set.remove s c.args.pair.now) c.requires.bench.told ∙ sym c.remove.ensures;
      only = subst (λ (n : Inputs). OnlyAt c.args.self.now.item n.endpoints) (sym is.inputs) c.requires.bench.only;
    }
