use Rattle.fx_driver.proofs.Stepped.{policy_step, profile_step}
use Rattle.fx_driver.proofs.laws.one_key_changes_its_own_chains.Goals as goal

pub returns-clause-policies : goal.returns-clause-policies
returns-clause-policies c = policy_step

pub returns-clause-profiles : goal.returns-clause-profiles
returns-clause-profiles c = profile_step
