-- A list of ports that isn't empty asks for a protocol with ports.
use Rattle.std.proofs.Common.{◌≡◌, ◌<◌, ℕ, List, [], ◌∷◌, length, Option, refl, arith}
use Rattle.serde_json.specs.View.{items_view}
use Rattle.serde_json.specs.declared.value.Value.{Value}
use Rattle.fx_base.specs.declared.net.Proto.{Proto}
use Rattle.fx_json.specs.Sides.{with_ports, may_list}

pub may_list_some : (protocol : Option Proto) (path : List ℕ) (values : List Value) → 0 < length values → may_list protocol path (items_view values) ≡ with_ports protocol path
may_list_some protocol path [] some = absurd (omega (arith, some))
may_list_some protocol path (v ∷ vs) some = refl
