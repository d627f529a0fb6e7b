use Rattle.fx_laws.proofs.StepClosed.{step-closed}
use Rattle.fx_laws.proofs.laws.message_keeps_the_sent_view_closed.Goals as goal

pub returns : goal.returns
returns c = λ sent wanted next closed aim is. step-closed sent wanted closed aim next is
