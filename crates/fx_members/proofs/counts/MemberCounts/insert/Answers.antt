use Rattle.fx_base.proofs.Entries.{inserted}
use Rattle.fx_members.proofs.CountLemmas.{place_total, exact_place}
use Rattle.fx_members.proofs.counts.MemberCounts.insert.Goals as goal

pub returns : goal.returns
returns c = inserted place_total exact_place _ _ _ c.self.view_is _ _ c.in_ok-insert.ensures.updates.0
