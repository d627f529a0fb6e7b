-- What waits for the datastore: before it is in sync, the endpoints that run on the node.
use Rattle.std.specs.Prelude.{◌≡◌, Bool, not, ◌&&◌, cond, map as each, Option, Some, None}
use Rattle.std.specs.FinMap as map
use Rattle.fx_names.specs.Digests.{Digest}
use Rattle.fx_model.specs.contracts.ids.ItemKeyOrd.TheImpl as item_cmp
use Rattle.fx_model.specs.declared.ids.ItemKey.{ItemKey}
use Rattle.fx_model.specs.declared.resources.Endpoint.{Endpoint}
use Rattle.fx_model.specs.declared.resources.Resources.{Resources}
use Rattle.fx_model.specs.Resources.{is_local}
use Rattle.fx_model.specs.Views.{profile_key}
use Rattle.fx_resolver.specs.declared.known.KnownEndpoint.{KnownEndpoint}
use Rattle.fx_base.specs.Extended.{extended}
use Rattle.fx_node_laws.specs.Changes.{Taken}
use Rattle.fx_model.specs.declared.waiting.Waiting.{Waiting}

-- what is kept of an endpoint until it is served
abbrev pub waiting_of : Endpoint → Waiting
waiting_of e = record { iface = e.iface; profiles = e.profiles }

-- an endpoint that will be served once the datastore is in sync
abbrev pub waits : Resources → Endpoint → Bool
waits R e = not R.in_sync && is_local R e

abbrev pub waiting_if : Resources → Option Endpoint → Option Waiting
waiting_if R None = None
waiting_if R (Some e) = cond (waits R e) (Some (waiting_of e)) None

-- what the resolver will know of it
abbrev pub known_waiting : Digest → Waiting → KnownEndpoint
known_waiting dg x = record { iface = x.iface; profiles = each (profile_key dg) x.profiles }

-- what waits, by the keys of the endpoints
abbrev pub Queue : Type 0
Queue = map.FinMap item_cmp.cmp-value.it Waiting

abbrev pub AreWaiting : Resources → Queue → Type 0
AreWaiting R w = (k : ItemKey) → map.get w k ≡ waiting_if R (map.get R.endpoints k)

-- all that waits is put into the active rules and into the resolver, one after another
abbrev pub with_waiting : Digest → Queue → Taken → Taken
with_waiting dg w t = record t {
  endpoints = extended t.endpoints (each (λ x. (x.0, x.1.profiles)) (map.entries w));
  locals = extended t.locals (each (λ x. (x.0, known_waiting dg x.1)) (map.entries w));
}
