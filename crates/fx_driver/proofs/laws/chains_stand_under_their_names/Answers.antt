use Rattle.fx_laws.proofs.TablesAt.{policy_at, profile_at, endpoint_at, dispatch_at, first_at}
use Rattle.fx_driver.proofs.laws.chains_stand_under_their_names.Goals as goal

pub returns-clause-policies : goal.returns-clause-policies
returns-clause-policies c = policy_at

pub returns-clause-profiles : goal.returns-clause-profiles
returns-clause-profiles c = profile_at

pub returns-clause-endpoints : goal.returns-clause-endpoints
returns-clause-endpoints c = endpoint_at

pub returns-clause-dispatch : goal.returns-clause-dispatch
returns-clause-dispatch c = dispatch_at

pub returns-clause-first : goal.returns-clause-first
returns-clause-first c = first_at
