use Rattle.fx_laws.proofs.Nearer.{no_message, nothing_to_send}
use Rattle.fx_laws.proofs.laws.messages_stop_at_the_wanted_view.Goals as goal

pub returns-clause-reached : goal.returns-clause-reached
returns-clause-reached c = no_message

pub returns-clause-silent : goal.returns-clause-silent
returns-clause-silent c = nothing_to_send
