-- What a sink of active rules holds, one of used sets, and one of a view.
use Rattle.std.specs.Prelude.{Option}
use Rattle.std.specs.Ordering.{nat_cmp}
use Rattle.std.specs.Cmp.Lexicographic.{slice_cmp}
use Rattle.std.specs.FinMap as map
use Rattle.fx_model.specs.declared.policy.Policy.{Policy}
use Rattle.fx_model.specs.declared.resources.Profile.{Profile}
use Rattle.fx_model.specs.contracts.ids.PolicyIdOrd.TheImpl.{cmp-value}
use Rattle.fx_model.specs.declared.set_use.SetUse.{SetUse}
use Rattle.fx_model.specs.declared.view.ViewEndpoint.{ViewEndpoint}
use Rattle.fx_model.specs.declared.view.ViewPolicy.{ViewPolicy}
use Rattle.fx_model.specs.declared.view.ViewProfile.{ViewProfile}
use Rattle.fx_model.specs.Messages.{Named}

abbrev pub Policies : Type 0
Policies = map.FinMap cmp-value.it Policy

-- by name, with none for a profile that is missing
abbrev pub Profiles : Type 0
Profiles = map.FinMap (slice_cmp nat_cmp) (Option Profile)

-- by their keys
abbrev pub PoliciesByKey : Type 0
PoliciesByKey = Named ViewPolicy

abbrev pub ProfilesByKey : Type 0
ProfilesByKey = Named ViewProfile

-- by their interfaces
abbrev pub EndpointsByInterface : Type 0
EndpointsByInterface = Named ViewEndpoint

-- by the names of sets
abbrev pub Uses : Type 0
Uses = Named SetUse
