-- The node's relation: what its sink has follows from its inputs.
use Rattle.fx_model.specs.Pairs.{PolicyPairs}
use Rattle.fx_model.specs.Sinks.{Policies, Profiles}
use Rattle.fx_active.specs.declared.inputs.Inputs.{Inputs}
use Rattle.fx_active.specs.Active.{ArePolicies, AreProfiles, ArePairs}

pub record IsActive (n : Inputs) (policies : Policies) (profiles : Profiles) (pairs : PolicyPairs) : Type 0 where
  pub policies_are : ArePolicies n.policies n.endpoints n.matched policies
  pub profiles_are : AreProfiles n.profiles n.endpoints profiles
  pub pairs_are : ArePairs n.policies n.endpoints n.matched pairs
