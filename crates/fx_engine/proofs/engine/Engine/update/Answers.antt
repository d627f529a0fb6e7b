use Rattle.std.proofs.Common.{subst}
use Rattle.fx_base.specs.Ticks.{IsTicked}
use Rattle.fx_model.specs.Tests.{least_tests, most_tests}
use Rattle.fx_engine.specs.States.{EngineState}
use Rattle.fx_engine.proofs.engine.Engine.update.Goals as goal

pub invariant_of-self : goal.invariant_of-self
invariant_of-self g c = record { sound = λ ready. c.in-Ok.ensures.sound }

pub returns-in-Ok-clause-tests : goal.returns-in-Ok-clause-tests
returns-in-Ok-clause-tests g c =
    let update = c.args.update in
    let before = g.T.Ticker.number c.args.ticks.now in
    let now = g.T.Ticker.number c.make.new.ticks in
    let Tested : EngineState → Type 0 = λ e. IsTicked (least_tests e.resources update) (most_tests e.resources update) before now in
    subst Tested c.self.view_is c.in-Ok.ensures.tests
