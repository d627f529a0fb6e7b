use Rattle.std.proofs.Common.{length}
use Rattle.fx_driver.proofs.ChainSteps.{IsWriting}
use Rattle.fx_driver.proofs.Counts.{IsCounting}
use Rattle.fx_driver.proofs.chains.write_all.Given as goal

abbrev pub invariant-loop-name : goal.invariant-loop-name
invariant-loop-name g l = record {
  writing : IsWriting l.fn.tables l.tables l.fn.writes l.name-iterator.rest.items;
  counting : IsCounting (g.O.Ticker.number l.fn.operations) (g.O.Ticker.number l.operations) (length l.fn.writes) (length l.name-iterator.rest.items);
}
