-- Resources without a clash make rules and endpoints that have names of their own.
use Rattle.std.proofs.Common.{◌≡◌, true, refl}
use Rattle.std.specs.FinMap as map
use Rattle.fx_base.specs.Set as set
use Rattle.fx_names.specs.Digests.{Digest}
use Rattle.fx_model.specs.Claims.{IsClashFree}
use Rattle.fx_model.specs.Formed.{are_formed}
use Rattle.fx_model.specs.declared.resources.Resources.{Resources}
use Rattle.fx_resolver.specs.Resolved.{HaveOwnInterfaces}
use Rattle.fx_resolver.specs.declared.inputs.Inputs as resolver
use Rattle.fx_members.specs.declared.inputs.Inputs as members
use Rattle.fx_node_laws.specs.Changes.{Taken}
use Rattle.fx_node_laws.specs.Tied.{IsTied}
use Rattle.fx_node_laws.proofs.Defining.{defined}
use Rattle.fx_node_laws.proofs.Given.{given}
use Rattle.fx_node_laws.proofs.OwnInterfaces.{own_interfaces}
use Rattle.fx_node_laws.proofs.RulesApart.{rules_apart}
use Rattle.fx_node_laws.proofs.TakenTies.{IsTaken, tied_by, taken_all}
use Rattle.fx_graph.specs.Taking.{AreApart}

module _ (dg : Digest) (R : Resources) (t : Taken) (formed : are_formed R ≡ true) (free : IsClashFree dg R) (is : IsTaken dg R t) where
  -- nodes below that hold this
  abbrev below_resolver : resolver.Inputs
  below_resolver = record { tiers = t.tiers; policies = map.empty; endpoints = t.locals; pairs = set.empty }

  abbrev below_members : members.Inputs
  below_members = record { uses = map.empty; items = t.contributors; matched = set.empty }

  pub apart_of : AreApart dg t
  apart_of n a policies profiles pairs items parents all_policies all_profiles endpoints composed =
      let tied : IsTied dg R n a below_resolver below_members = tied_by t (taken_all n a below_resolver below_members t items parents all_policies all_profiles endpoints refl refl refl) is in
      rules_apart dg formed free (given (defined tied policies profiles pairs composed) refl refl)

  pub own_of : HaveOwnInterfaces t.locals
  own_of = own_interfaces dg R below_resolver formed free is.locals
