-- What the nodes told is the view of the resources.
use Rattle.std.proofs.Common.{◌≡◌}
use Rattle.fx_names.specs.Digests.{Digest}
use Rattle.fx_model.specs.declared.resources.Resources.{Resources}
use Rattle.fx_model.specs.declared.view.View.{View}
use Rattle.fx_model.specs.Pairs.{PolicyPairs}
use Rattle.fx_model.specs.Sinks.{Policies, Profiles, Uses}
use Rattle.fx_model.specs.Views.{view_of}
use Rattle.fx_label_index.specs.declared.held.Inputs as index
use Rattle.fx_active.specs.declared.inputs.Inputs as active
use Rattle.fx_scanner.specs.declared.inputs.Inputs as scanner
use Rattle.fx_resolver.specs.declared.inputs.Inputs as resolver
use Rattle.fx_members.specs.declared.inputs.Inputs as members
use Rattle.fx_node_laws.specs.Tied.{IsTied}
use Rattle.fx_node_laws.specs.Told.{IsTold}
use Rattle.fx_node_laws.proofs.Defining.{defined}
use Rattle.fx_node_laws.proofs.EndpointsTold.{endpoints_are}
use Rattle.fx_node_laws.proofs.Given.{given}
use Rattle.fx_node_laws.proofs.RulesTold.{policies_are, profiles_are}
use Rattle.fx_node_laws.proofs.SetsTold.{sets_are}

pub view_is_made : (dg : Digest) (R : Resources) (n : index.Inputs) (a : active.Inputs) (policies : Policies) (profiles : Profiles) (pairs : PolicyPairs) (s : scanner.Inputs) (r : resolver.Inputs) (m : members.Inputs) (v : View) (uses : Uses)
    → IsTied dg R n a r m → IsTold dg n a policies profiles pairs s r m v uses → v ≡ view_of dg R
view_is_made dg R n a policies profiles pairs s r m v uses tied told =
    let d = defined tied policies profiles pairs told.composed in
    let g = given d told.scanned_policies told.scanned_profiles in
    λ i. record {
      sets = sets_are uses v.sets tied g told.scanned.apart told.scanned.uses_are told.used told.matched told.members_are i;
      policies = policies_are g told.scanned i;
      profiles = profiles_are g told.scanned i;
      endpoints = endpoints_are tied d told.known told.paired told.resolved i;
    }
