use Rattle.std.proofs.Common.{[], sym}
use Rattle.fx_names.proofs.ClaimLists.{first_clash-hit, first_clash-miss}
use Rattle.fx_names.proofs.registry.Registry.check_beside.Goals as goal

pub returns-in-Some : goal.returns-in-Some
returns-in-Some c = λ old others g k. sym (first_clash-hit others c.args.claim.now [] c.in-Some.holder.now (sym (c.in-Some.ensures old others g k)))

pub returns-in-None : goal.returns-in-None
returns-in-None c = λ old others g k. sym (first_clash-miss others c.args.claim.now [] (sym (c.in-None.ensures old others g k)))
