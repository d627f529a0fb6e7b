use Rattle.std.proofs.Common.{subst}
use Rattle.fx_model.specs.declared.ids.Key.{Key}
use Rattle.fx_model.specs.declared.resources.Update.TheVariants as update
use Rattle.fx_graph.specs.Graphs.{CanFollow}
use Rattle.fx_label_index.specs.Tested.{IsTested}
use Rattle.fx_graph.proofs.Testing.{at_count}
use Rattle.fx_graph.proofs.state.GraphState.delete.Goals as goal

pub delete_item-requires : goal.delete_item-requires
delete_item-requires g c = subst (λ (k : Key). CanFollow g.R.DigestRule.digest_of (update.Delete k) c.args.self.now) c.in-Item.is c.requires

pub delete_profile-requires : goal.delete_profile-requires
delete_profile-requires g c = subst (λ (k : Key). CanFollow g.R.DigestRule.digest_of (update.Delete k) c.args.self.now) c.in-Profile.is c.requires

pub delete_tier-requires : goal.delete_tier-requires
delete_tier-requires g c = subst (λ (k : Key). CanFollow g.R.DigestRule.digest_of (update.Delete k) c.args.self.now) c.in-Tier.is c.requires

pub delete_policy-requires : goal.delete_policy-requires
delete_policy-requires g c = subst (λ (k : Key). CanFollow g.R.DigestRule.digest_of (update.Delete k) c.args.self.now) c.in-Policy.is c.requires

pub returns-in-Tier-clause-tests : goal.returns-in-Tier-clause-tests
returns-in-Tier-clause-tests g c =
    let old = c.args.self.now.nodes.upper.joined.index in
    at_count c.delete_tier.result (λ k. IsTested old c.delete_tier.new.self.nodes.upper.joined.index k k) (g.T.Ticker.number c.args.ticks.now) c.delete_tier.ensures.tests
