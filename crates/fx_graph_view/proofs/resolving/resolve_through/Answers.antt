use Rattle.std.proofs.Common.{◌≡◌, List, sym, ap, ◌∙◌, subst}
use Rattle.fx_model.specs.Pairs.{PolicyPairs}
use Rattle.fx_model.specs.PairRuns.{IsPairRun, pairs_after}
use Rattle.fx_model.specs.declared.policy_pairs.PolicyPairChange.{PolicyPairChange}
use Rattle.fx_model.proofs.PairRunLemmas.{run_end}
use Rattle.fx_resolver.specs.Known.{KnownPolicies}
use Rattle.fx_graph_view.specs.Knowing.{AreStanding}
use Rattle.fx_graph_view.proofs.Standing.{all_known}
use Rattle.fx_graph_view.proofs.resolving.resolve_through.Goals as goal

pub change_pairs-requires-clause-run : goal.change_pairs-requires-clause-run
change_pairs-requires-clause-run g c =
    let changes = c.args.logged.now.pairs in
    let standing = c.put_standing.new.resolver.pairs in
    let first : c.args.resolver.now.pairs ≡ standing = sym (ap (λ n. n.pairs) c.in_ok-put_standing.ensures.inputs) in
    subst (λ (cs : List PolicyPairChange). IsPairRun cs standing (pairs_after cs standing)) (sym c.as_slice.ensures)
    (subst (λ (m : PolicyPairs). IsPairRun changes m (pairs_after changes m)) first
    (subst (λ (s : PolicyPairs). IsPairRun changes c.args.resolver.now.pairs s) (run_end changes _ _ c.requires.run) c.requires.run))

pub returns-clause-inputs : goal.returns-clause-inputs
returns-clause-inputs g c =
    let was = c.args.resolver.now in
    let standing = c.in_ok-put_standing.ensures.inputs in
    let pairs = c.in_ok-change_pairs.ensures.inputs in
    let gone = c.in_ok-take_off_gone.ensures.inputs in
    let last = c.take_off_gone.new.resolver.policies in
    gone
    ∙ (λ j. record (pairs j) { policies = last })
    ∙ (λ j. record (standing j) { policies = last; pairs = pairs_after (c.as_slice.ensures j) (standing j).pairs })
    ∙ (λ j. record was { policies = last; pairs = sym (run_end c.args.logged.now.pairs _ _ c.requires.run) j })

pub returns-clause-known : goal.returns-clause-known
returns-clause-known g c =
    let dg = g.R.DigestRule.digest_of in
    let policies = c.args.logged.now.told.policies in
    let same = ap (λ n. n.policies) c.in_ok-change_pairs.ensures.inputs in
    all_known dg c.args.logged.now.policies policies c.args.resolver.now.policies _ _ c.requires.behind
    (subst (λ (m : KnownPolicies). AreStanding dg policies c.args.resolver.now.policies m) (sym same) c.in_ok-put_standing.ensures.standing)
    c.in_ok-take_off_gone.ensures.gone
