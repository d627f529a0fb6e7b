use Rattle.std.proofs.Common.{subst}
use Rattle.fx_base.specs.Ticks.{IsTicked}
use Rattle.fx_model.specs.Steps.{least_tests_all, most_tests_all}
use Rattle.fx_engine.specs.States.{EngineState}
use Rattle.fx_engine.proofs.engine.Engine.update_all.Goals as goal

pub invariant_of-self : goal.invariant_of-self
invariant_of-self g c = record { sound = λ ready. c.in-Ok.ensures.sound }

pub returns-in-Ok-clause-tests : goal.returns-in-Ok-clause-tests
returns-in-Ok-clause-tests g c =
    let us = c.args.updates.items in
    let before = g.T.Ticker.number c.args.ticks.now in
    let now = g.T.Ticker.number c.make_all.new.ticks in
    let Tested : EngineState → Type 0 = λ e. IsTicked (least_tests_all e.resources us) (most_tests_all e.resources us) before now in
    subst Tested c.self.view_is c.in-Ok.ensures.tests
