use Rattle.std.proofs.Common.{◌≡◌, map, take}
use Rattle.std.specs.List.{flat_map}
use Rattle.fx_base.specs.Nets.{stored}
use Rattle.fx_model.specs.declared.member.Member.TheVariants as member
use Rattle.fx_model.proofs.contributions.nets_of.Given as goal

abbrev pub invariant-loop-net : goal.invariant-loop-net
invariant-loop-net l = l.members.items ≡ map member.Net (flat_map stored (take l.net-index l.net-items))
