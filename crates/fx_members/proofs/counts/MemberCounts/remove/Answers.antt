use Rattle.fx_base.proofs.Entries.{got, removed}
use Rattle.fx_members.proofs.CountLemmas.{place_total, exact_place}
use Rattle.fx_members.proofs.counts.MemberCounts.remove.Goals as goal

pub returns-clause-before : goal.returns-clause-before
returns-clause-before c = got place_total _ _ c.self.view_is _ _ c.remove.ensures.value

pub returns-clause-removed : goal.returns-clause-removed
returns-clause-removed c = removed place_total exact_place _ _ _ c.self.view_is _ c.remove.ensures.updates.0
