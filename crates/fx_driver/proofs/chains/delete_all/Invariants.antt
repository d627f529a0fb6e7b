use Rattle.std.proofs.Common.{length}
use Rattle.fx_driver.proofs.ChainSteps.{IsDeleting}
use Rattle.fx_driver.proofs.Counts.{IsCounting}
use Rattle.fx_driver.proofs.chains.delete_all.Given as goal

abbrev pub invariant-loop-name : goal.invariant-loop-name
invariant-loop-name g l = record {
  deleting : IsDeleting l.fn.tables l.tables l.fn.names l.name-iterator.rest.items;
  counting : IsCounting (g.O.Ticker.number l.fn.operations) (g.O.Ticker.number l.operations) (length l.fn.names) (length l.name-iterator.rest.items);
}
