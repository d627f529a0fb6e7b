-- What a registry keeps: for each name that is held its holder, and how often.
use Rattle.std.specs.Prelude.{◌≡◌, ◌<◌, ℕ, List, cond, Option, Some, None, Result, Ok, Err}
use Rattle.std.specs.Str.{bytes_eq}
use Rattle.std.specs.FinMap as map
use Rattle.fx_base.specs.declared.kernel_name.KernelName.{KernelName}
use Rattle.fx_names.specs.declared.claim.Claim.{Claim}
use Rattle.fx_names.specs.declared.claim.Taken.{Taken}
use Rattle.fx_names.specs.declared.registry.Holding.{Holding}
use Rattle.fx_names.specs.declared.registry.Registry.{Registry}
use Rattle.fx_names.specs.Claims.{Clash, times}

-- how often a claim is held, where its name is held so
abbrev pub uses_of : Option Holding → Claim → ℕ
uses_of None c = 0
uses_of (Some x) c = cond (bytes_eq x.holder c.holder) x.uses 0

-- the registry keeps these claims: a name that is held is used, and each claim is held as often as it is among these
pub record HoldsClaims (r : Registry) (claims : List Claim) : Type 0 where
  pub used : (name : KernelName) (x : Holding) → map.get r.names name ≡ Some x → 0 < x.uses
  pub each : (c : Claim) → uses_of (map.get r.names c.name) c ≡ times c claims

-- the clash that an answer tells
abbrev pub clash_of : {T : Type 0} → Result T Taken → Option Clash
clash_of (Ok _) = None
clash_of (Err taken) = Some (record { name = taken.name; holder = taken.holder.now })
