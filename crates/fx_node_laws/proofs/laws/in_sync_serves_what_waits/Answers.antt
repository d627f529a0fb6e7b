use Rattle.fx_node_laws.proofs.WaitTies.{in_sync_serves_profiles, in_sync_serves_known}
use Rattle.fx_node_laws.proofs.laws.in_sync_serves_what_waits.Goals as goal

pub returns-clause-profiles : goal.returns-clause-profiles
returns-clause-profiles c = λ R w is h k. in_sync_serves_profiles R w is h k

pub returns-clause-known : goal.returns-clause-known
returns-clause-known c = λ dg R w is h k. in_sync_serves_known R w is h dg k
