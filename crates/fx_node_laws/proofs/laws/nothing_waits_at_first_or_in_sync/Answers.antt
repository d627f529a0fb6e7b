use Rattle.fx_node_laws.proofs.WaitTies.{none_waits_at_first, none_waits_after_in_sync, none_waits_in_sync}
use Rattle.fx_node_laws.proofs.laws.nothing_waits_at_first_or_in_sync.Goals as goal

pub returns-clause-first : goal.returns-clause-first
returns-clause-first c = none_waits_at_first

pub returns-clause-marked : goal.returns-clause-marked
returns-clause-marked c = none_waits_after_in_sync

pub returns-clause-in_sync : goal.returns-clause-in_sync
returns-clause-in_sync c = none_waits_in_sync
