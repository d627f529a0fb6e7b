use Rattle.std.proofs.Common.{◌≡◌, subst, true, false}
use Rattle.std.specs.Prelude.{◌↔◌}
use Rattle.fx_model.specs.Views.{view_of}
use Rattle.fx_agent.specs.States.{AgentState}
use Rattle.fx_agent.proofs.agent.Agent.pending.Goals as goal

pub returns-clause-told : goal.returns-clause-told
returns-clause-told g c =
    let Told : AgentState → Type 0 = λ a. (c.pending.result ≡ true) ↔ ((a.failed ≡ false) × (¬ (a.sent ≡ view_of g.R.DigestRule.digest_of a.resources))) in
    subst Told c.self.view_is c.pending.ensures.told

pub returns-clause-all_sent : goal.returns-clause-all_sent
returns-clause-all_sent g c =
    let IsSent : AgentState → Type 0 = λ a. c.pending.result ≡ false → a.failed ≡ false → a.sent ≡ view_of g.R.DigestRule.digest_of a.resources in
    subst IsSent c.self.view_is c.pending.ensures.all_sent
