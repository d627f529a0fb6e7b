use Rattle.std.proofs.Common.{◌≡◌, sym, ◌∙◌, ap, subst, false}
use Rattle.std.specs.Option.{option_copied}
use Rattle.fx_model.specs.Machine.{Decides}
use Rattle.fx_model.specs.Policy.{packet_verdict}
use Rattle.fx_model.specs.Tables.{Tables}
use Rattle.fx_model.specs.ViewPolicy.{IsPolicyAnswer}
use Rattle.fx_model.specs.Views.{view_of}
use Rattle.fx_model.specs.declared.packet.State.TheVariants.{New}
use Rattle.fx_driver.specs.Driven.{HasFirst}
use Rattle.fx_agent.specs.Answers.{IsAnswer, IsKubernetesVerdict}
use Rattle.fx_agent.specs.States.{AgentState}
use Rattle.fx_agent.proofs.Serving.{sound-policy, sound-kubernetes}
use Rattle.fx_agent.proofs.agent.Agent.decide.Goals as goal

pub decide-requires : goal.decide-requires
decide-requires g c = subst (λ (t : Tables). HasFirst t.chains) (sym c.tables.ensures) c.self.invariant.first

pub returns-clause-machine : goal.returns-clause-machine
returns-clause-machine g c =
    let a = c.args.packet.now in
    let o = c.decide.result in
    subst (λ (t : Tables). Decides t a o.verdict (option_copied o.egress) (option_copied o.ingress)) (c.tables.ensures ∙ ap (λ (s : AgentState). s.tables) c.self.view_is) c.decide.ensures.machine

pub returns-clause-policy : goal.returns-clause-policy
returns-clause-policy g c =
    let dg = g.R.DigestRule.digest_of in
    let is = c.self.inside in
    let a = c.args.packet.now in
    let o = c.decide.result in
    let answer = subst (λ (t : Tables). IsPolicyAnswer t a o.verdict (option_copied o.egress) (option_copied o.ingress)) c.tables.ensures c.decide.ensures.policy in
    let AsReferred : AgentState → Type 0 = λ s. s.failed ≡ false → s.sent ≡ view_of dg s.resources → a.state ≡ New → IsAnswer (packet_verdict s.resources a) o.verdict (option_copied o.egress) (option_copied o.ingress) in
    subst AsReferred c.self.view_is
    (λ ready same new. sound-policy dg is.engine is.driver (c.self.invariant.sound ready) same a new o.verdict (option_copied o.egress) (option_copied o.ingress) answer)

pub returns-clause-kubernetes : goal.returns-clause-kubernetes
returns-clause-kubernetes g c =
    let dg = g.R.DigestRule.digest_of in
    let is = c.self.inside in
    let a = c.args.packet.now in
    let o = c.decide.result in
    let answer = subst (λ (t : Tables). IsPolicyAnswer t a o.verdict (option_copied o.egress) (option_copied o.ingress)) c.tables.ensures c.decide.ensures.policy in
    let AsKubernetes : AgentState → Type 0 = λ s. s.failed ≡ false → s.sent ≡ view_of dg s.resources → a.state ≡ New → IsKubernetesVerdict s.resources a o.verdict in
    subst AsKubernetes c.self.view_is
    (λ ready same new. sound-kubernetes dg is.engine is.driver (c.self.invariant.sound ready) same a new o.verdict (option_copied o.egress) (option_copied o.ingress) answer)
