use Rattle.std.proofs.Common.{subst}
use Rattle.fx_model.specs.declared.ids.Key.{Key}
use Rattle.fx_model.specs.declared.resources.Item.{Item}
use Rattle.fx_model.specs.declared.resources.Item.TheVariants as item
use Rattle.fx_model.specs.declared.resources.Update.TheVariants as update
use Rattle.fx_graph.specs.Graphs.{CanFollow}
use Rattle.fx_label_index.specs.Tested.{IsTested}
use Rattle.fx_graph.proofs.Testing.{at_count}
use Rattle.fx_graph.proofs.state.GraphState.put.Goals as goal

pub put_endpoint-requires-clause-resources : goal.put_endpoint-requires-clause-resources
put_endpoint-requires-clause-resources g c =
    rw c.deref.ensures (subst (λ (k : Key). CanFollow g.R.DigestRule.digest_of (update.Put k (item.Endpoint c.in-Item-Endpoint.endpoint)) c.args.self.now) c.in-Item-Endpoint.is-0
    (subst (λ (x : Item). CanFollow g.R.DigestRule.digest_of (update.Put c.args.key.now x) c.args.self.now) c.in-Item-Endpoint.is-1 c.requires.resources))

pub put_net_set-requires-clause-resources : goal.put_net_set-requires-clause-resources
put_net_set-requires-clause-resources g c =
    rw c.deref-in-Item-NetSet.ensures (subst (λ (k : Key). CanFollow g.R.DigestRule.digest_of (update.Put k (item.NetSet c.in-Item-NetSet.net_set)) c.args.self.now) c.in-Item-NetSet.is-0
    (subst (λ (x : Item). CanFollow g.R.DigestRule.digest_of (update.Put c.args.key.now x) c.args.self.now) c.in-Item-NetSet.is-1 c.requires.resources))

pub put_profile-requires : goal.put_profile-requires
put_profile-requires g c =
    subst (λ (k : Key). CanFollow g.R.DigestRule.digest_of (update.Put k (item.Profile c.in-Profile-Profile.profile)) c.args.self.now) c.in-Profile-Profile.is-0
    (subst (λ (x : Item). CanFollow g.R.DigestRule.digest_of (update.Put c.args.key.now x) c.args.self.now) c.in-Profile-Profile.is-1 c.requires.resources)

pub put_tier-requires : goal.put_tier-requires
put_tier-requires g c =
    subst (λ (k : Key). CanFollow g.R.DigestRule.digest_of (update.Put k (item.Tier c.in-Tier-Tier.tier)) c.args.self.now) c.in-Tier-Tier.is-0
    (subst (λ (x : Item). CanFollow g.R.DigestRule.digest_of (update.Put c.args.key.now x) c.args.self.now) c.in-Tier-Tier.is-1 c.requires.resources)

pub put_policy-requires : goal.put_policy-requires
put_policy-requires g c =
    subst (λ (k : Key). CanFollow g.R.DigestRule.digest_of (update.Put k (item.Policy c.in-Policy-Policy.policy)) c.args.self.now) c.in-Policy-Policy.is-0
    (subst (λ (x : Item). CanFollow g.R.DigestRule.digest_of (update.Put c.args.key.now x) c.args.self.now) c.in-Policy-Policy.is-1 c.requires.resources)

pub returns-in-Tier-Tier-clause-tests : goal.returns-in-Tier-Tier-clause-tests
returns-in-Tier-Tier-clause-tests g c =
    let old = c.args.self.now.nodes.upper.joined.index in
    at_count c.put_tier.result (λ k. IsTested old c.put_tier.new.self.nodes.upper.joined.index k k) (g.T.Ticker.number c.args.ticks.now) c.put_tier.ensures.tests
