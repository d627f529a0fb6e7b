-- The nodes' inputs by what they hold of the resources.
use Rattle.std.proofs.Common.{◌≡◌, ℕ, true, List, Some, sym, subst}
use Rattle.std.specs.Prelude.{option_map}
use Rattle.std.specs.FinMap as map
use Rattle.fx_names.specs.Digests.{Digest}
use Rattle.fx_model.specs.declared.ids.ItemKey.{ItemKey}
use Rattle.fx_model.specs.declared.ids.Key.TheVariants as key
use Rattle.fx_model.specs.declared.policy.NetSet.{NetSet}
use Rattle.fx_model.specs.declared.resources.Endpoint.{Endpoint}
use Rattle.fx_model.specs.declared.resources.Resources.{Resources}
use Rattle.fx_model.specs.Formed.{is_endpoint_key, is_net_set_key}
use Rattle.fx_model.specs.Tests.{item_at}
use Rattle.fx_label_index.specs.declared.held.Inputs as index
use Rattle.fx_active.specs.declared.inputs.Inputs as active
use Rattle.fx_resolver.specs.declared.inputs.Inputs as resolver
use Rattle.fx_members.specs.declared.inputs.Inputs as members
use Rattle.fx_node_laws.specs.Tied.{held_of, served_profiles, served_known, IsTied}
use Rattle.fx_node_laws.specs.Changes.{Taken, taken}

pub record IsTaken (dg : Digest) (R : Resources) (t : Taken) : Type 0 where
  pub kinds_endpoints : (k : ItemKey) (e : Endpoint) → map.get R.endpoints k ≡ Some e → is_endpoint_key (key.Item k) ≡ true
  pub kinds_sets : (k : ItemKey) (s : NetSet) → map.get R.net_sets k ≡ Some s → is_net_set_key (key.Item k) ≡ true
  pub items : (k : ItemKey) → map.get t.items k ≡ held_of k (item_at R k)
  pub parents : (name : List ℕ) → map.get t.parents name ≡ option_map (λ p. p.labels) (map.get R.profiles name)
  pub policies : t.policies ≡ R.policies
  pub profiles : t.profiles ≡ R.profiles
  pub endpoints : (k : ItemKey) → map.get t.endpoints k ≡ served_profiles R (map.get R.endpoints k)
  pub tiers : t.tiers ≡ R.tiers
  pub locals : (k : ItemKey) → map.get t.locals k ≡ served_known dg R (map.get R.endpoints k)
  pub contributors : (k : ItemKey) → map.get t.contributors k ≡ item_at R k

module _ {dg : Digest} {R : Resources} {n : index.Inputs} {a : active.Inputs} {r : resolver.Inputs} {m : members.Inputs} where
  pub taken_is : IsTied dg R n a r m → IsTaken dg R (taken n a r m)
  taken_is tied = record {
    kinds_endpoints = tied.kinds_endpoints;
    kinds_sets = tied.kinds_sets;
    items = tied.items;
    parents = tied.parents;
    policies = tied.policies;
    profiles = tied.profiles;
    endpoints = tied.endpoints;
    tiers = tied.tiers;
    locals = tied.locals;
    contributors = tied.contributors;
  }

  pub tied_by : (t : Taken) → taken n a r m ≡ t → IsTaken dg R t → IsTied dg R n a r m
  tied_by t same is =
      let x : IsTaken dg R (taken n a r m) = subst (λ (u : Taken). IsTaken dg R u) (sym same) is in
      record {
        kinds_endpoints = x.kinds_endpoints;
        kinds_sets = x.kinds_sets;
        items = x.items;
        parents = x.parents;
        policies = x.policies;
        profiles = x.profiles;
        endpoints = x.endpoints;
        tiers = x.tiers;
        locals = x.locals;
        contributors = x.contributors;
      }

-- the inputs hold what each of their fields holds
module _ (n : index.Inputs) (a : active.Inputs) (r : resolver.Inputs) (m : members.Inputs) where
  pub taken_all : (t : Taken) → n.items ≡ t.items → n.parents ≡ t.parents → a.policies ≡ t.policies → a.profiles ≡ t.profiles → a.endpoints ≡ t.endpoints → r.tiers ≡ t.tiers → r.endpoints ≡ t.locals → m.items ≡ t.contributors → taken n a r m ≡ t
  taken_all t items parents policies profiles endpoints tiers locals contributors = λ j. record {
    items = items j;
    parents = parents j;
    policies = policies j;
    profiles = profiles j;
    endpoints = endpoints j;
    tiers = tiers j;
    locals = locals j;
    contributors = contributors j;
  }
