use Rattle.std.proofs.Common.{length}
use Rattle.fx_driver.proofs.Counts.{IsCounting}
use Rattle.fx_driver.proofs.SetSteps.{IsRemoving}
use Rattle.fx_driver.proofs.sets.remove_members.Given as goal

abbrev pub invariant-loop-member : goal.invariant-loop-member
invariant-loop-member g l = record {
  removing : IsRemoving l.fn.tables l.tables l.name l.members l.member-iterator;
  counting : IsCounting (g.O.Ticker.number l.fn.operations) (g.O.Ticker.number l.operations) (length l.members) (length l.member-iterator);
}
