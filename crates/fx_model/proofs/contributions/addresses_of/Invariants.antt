use Rattle.std.proofs.Common.{◌≡◌, map, take}
use Rattle.std.specs.List.{flat_map}
use Rattle.fx_base.specs.Nets.{host, stored}
use Rattle.fx_model.specs.declared.member.Member.TheVariants as member
use Rattle.fx_model.proofs.contributions.addresses_of.Given as goal

abbrev pub invariant-loop-addr : goal.invariant-loop-addr
invariant-loop-addr l = l.members.items ≡ map member.Net (flat_map stored (map host (take l.addr-index l.addr-items)))
