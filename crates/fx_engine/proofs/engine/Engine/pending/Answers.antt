use Rattle.std.proofs.Common.{◌≡◌, sym, ◌∙◌, subst, true, false, is_some}
use Rattle.std.specs.Prelude.{◌↔◌}
use Rattle.fx_model.specs.Views.{view_of}
use Rattle.fx_model.specs.declared.view.View.{View}
use Rattle.fx_graph.specs.Graphs.{sides_of}
use Rattle.fx_engine.specs.States.{EngineState}
use Rattle.fx_engine.proofs.Answering.{failed-tells, failed-still, pending-tells}
use Rattle.fx_engine.proofs.engine.Engine.pending.Goals as goal

pub returns-then-self-clause-told : goal.returns-then-self-clause-told
returns-then-self-clause-told g c =
    let Told : EngineState → Type 0 = λ s. (false ≡ true) ↔ ((s.failed ≡ false) × (¬ (s.sent ≡ view_of g.R.DigestRule.digest_of s.resources))) in
    subst Told c.self.view_is (failed-tells c.self.inside.failed c.if-self.true)

pub returns-then-self-clause-all_sent : goal.returns-then-self-clause-all_sent
returns-then-self-clause-all_sent g c =
    let IsSent : EngineState → Type 0 = λ s. false ≡ false → s.failed ≡ false → s.sent ≡ view_of g.R.DigestRule.digest_of s.resources in
    subst IsSent c.self.view_is (λ quiet ready. failed-still c.self.inside.failed c.if-self.true ready)

pub returns-clause-told : goal.returns-clause-told
returns-clause-told g c =
    let is = c.self.inside in
    let graph = (c.self.invariant.sound c.if-self.false).graph in
    let none = subst (λ (v : View). (is_some c.peek.result ≡ false) ↔ ((sides_of is.graph.state).sent ≡ v)) graph.now c.peek.ensures.none in
    let Told : EngineState → Type 0 = λ s. (is_some c.peek.result ≡ true) ↔ ((s.failed ≡ false) × (¬ (s.sent ≡ view_of g.R.DigestRule.digest_of s.resources))) in
    rw c.is_some.ensures (subst Told c.self.view_is (pending-tells c.peek.result is.failed c.if-self.false none))

pub returns-clause-all_sent : goal.returns-clause-all_sent
returns-clause-all_sent g c =
    let graph = (c.self.invariant.sound c.if-self.false).graph in
    let IsSent : EngineState → Type 0 = λ s. c.is_some.result ≡ false → s.failed ≡ false → s.sent ≡ view_of g.R.DigestRule.digest_of s.resources in
    subst IsSent c.self.view_is (λ quiet ready. c.peek.ensures.none.0 (sym c.is_some.ensures ∙ quiet) ∙ graph.now)
