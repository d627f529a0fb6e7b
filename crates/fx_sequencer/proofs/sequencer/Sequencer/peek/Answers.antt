use Rattle.std.proofs.Common.{Some}
use Rattle.fx_sequencer.proofs.Silent.{equal_if_silent, silent_if_equal}
use Rattle.fx_sequencer.proofs.Viewing.{told_put, told_gone}
use Rattle.fx_sequencer.proofs.sequencer.Sequencer.peek.Goals as goal

pub returns-in-Some-clause-message : goal.returns-in-Some-clause-message
returns-in-Some-clause-message c = told_put c.self.inside.entries c.self.view_is c.in-Some.ensures

pub returns-in-Some-clause-none : goal.returns-in-Some-clause-none
returns-in-Some-clause-none c =
    let told = told_put c.self.inside.entries c.self.view_is c.in-Some.ensures in
    (equal_if_silent (Some c.in-Some.message) _ _ told, silent_if_equal (Some c.in-Some.message) _ _ told)

pub returns-in-None-clause-message : goal.returns-in-None-clause-message
returns-in-None-clause-message c = told_gone c.self.inside.entries c.self.view_is c.in-None.ensures c.next_gone.ensures

pub returns-in-None-clause-none : goal.returns-in-None-clause-none
returns-in-None-clause-none c =
    let told = told_gone c.self.inside.entries c.self.view_is c.in-None.ensures c.next_gone.ensures in
    (equal_if_silent c.next_gone.result _ _ told, silent_if_equal c.next_gone.result _ _ told)
