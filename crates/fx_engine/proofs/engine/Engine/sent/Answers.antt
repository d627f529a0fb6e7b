use Rattle.std.proofs.Common.{◌≡◌, IsSome, sym, ap, ◌∙◌, subst}
use Rattle.fx_model.specs.Messages.{next_message, step}
use Rattle.fx_model.specs.Views.{view_of}
use Rattle.fx_model.specs.declared.view.View.{View}
use Rattle.fx_graph.specs.Graphs.{sides_of}
use Rattle.fx_sequencer.specs.declared.sides.Sides.{Sides}
use Rattle.fx_engine.specs.States.{EngineState}
use Rattle.fx_engine.proofs.Following.{same_state, sound-on, state}
use Rattle.fx_engine.proofs.engine.Engine.sent.Goals as goal

pub sent-requires : goal.sent-requires
sent-requires g c =
    let dg = g.R.DigestRule.digest_of in
    let ready = ap (λ (e : EngineState). e.failed) c.self.view_is ∙ c.requires.ready in
    let graph = (c.self.invariant.sound ready).graph in
    let next = subst (λ (e : EngineState). IsSome (next_message e.sent (view_of dg e.resources))) (sym c.self.view_is) c.requires.next in
    subst (λ (v : View). IsSome (next_message (sides_of c.self.inside.graph.state).sent v)) (sym graph.now) next

pub invariant_of-self : goal.invariant_of-self
invariant_of-self g c =
    let was = c.self.inside in
    record {
      sound = λ ready. sound-on g.R.DigestRule.digest_of was.store was.graph.state c.sent.new.self.state c.sent.ensures.resources (c.self.invariant.sound ready);
    }

pub returns : goal.returns
returns g c =
    let dg = g.R.DigestRule.digest_of in
    let was = c.self.inside in
    let now = sides_of c.sent.new.self.state in
    let ready = ap (λ (e : EngineState). e.failed) c.self.view_is ∙ c.requires.ready in
    let graph = (c.self.invariant.sound ready).graph in
    let R = was.store.resources in
    let before = (sides_of was.graph.state).sent in
    let stepped : now.sent ≡ step before (view_of dg R) = ap (λ (s : Sides). s.sent) c.sent.ensures.step ∙ ap (step before) graph.now in
    let Steps : EngineState → Type 0 = λ e. state R was.failed now.sent ≡ record e { sent = step e.sent (view_of dg e.resources) } in
    subst Steps c.self.view_is (same_state R was.failed now.sent (step before (view_of dg R)) stepped)
