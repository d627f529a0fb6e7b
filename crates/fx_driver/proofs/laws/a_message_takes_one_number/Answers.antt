use Rattle.fx_driver.proofs.OneNumber.{one_number}
use Rattle.fx_driver.proofs.laws.a_message_takes_one_number.Goals as goal

pub returns : goal.returns
returns c = one_number
