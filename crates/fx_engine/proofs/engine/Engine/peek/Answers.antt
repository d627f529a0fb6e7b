use Rattle.std.proofs.Common.{◌≡◌, ap, ◌∙◌, subst}
use Rattle.std.specs.Prelude.{◌↔◌, IsNone, option_map}
use Rattle.fx_model.specs.Lent.{change_of}
use Rattle.fx_model.specs.Messages.{next_message}
use Rattle.fx_model.specs.Views.{view_of}
use Rattle.fx_model.specs.declared.view.View.{View}
use Rattle.fx_graph.specs.Graphs.{sides_of}
use Rattle.fx_engine.specs.States.{EngineState}
use Rattle.fx_engine.proofs.engine.Engine.peek.Goals as goal

pub returns-clause-message : goal.returns-clause-message
returns-clause-message g c =
    let ready = ap (λ (e : EngineState). e.failed) c.self.view_is ∙ c.requires.ready in
    let graph = (c.self.invariant.sound ready).graph in
    let Tells : EngineState → Type 0 = λ e. option_map change_of c.peek.result ≡ next_message e.sent (view_of g.R.DigestRule.digest_of e.resources) in
    subst Tells c.self.view_is (c.peek.ensures.message ∙ ap (next_message (sides_of c.self.inside.graph.state).sent) graph.now)

pub returns-clause-none : goal.returns-clause-none
returns-clause-none g c =
    let ready = ap (λ (e : EngineState). e.failed) c.self.view_is ∙ c.requires.ready in
    let graph = (c.self.invariant.sound ready).graph in
    let none = subst (λ (v : View). IsNone c.peek.result ↔ ((sides_of c.self.inside.graph.state).sent ≡ v)) graph.now c.peek.ensures.none in
    let Tells : EngineState → Type 0 = λ e. IsNone c.peek.result ↔ (e.sent ≡ view_of g.R.DigestRule.digest_of e.resources) in
    subst Tells c.self.view_is none
