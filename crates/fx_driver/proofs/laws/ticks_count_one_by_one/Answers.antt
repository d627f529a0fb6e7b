use Rattle.fx_base.proofs.TickLemmas.{ticked-fits}
use Rattle.fx_driver.proofs.laws.ticks_count_one_by_one.Goals as goal

pub returns : goal.returns
returns c = ticked-fits
