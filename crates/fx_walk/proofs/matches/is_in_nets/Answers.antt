use Rattle.std.proofs.Common.{sym, ◌∙◌, arith}
use Rattle.fx_walk.proofs.SetLookups.{net_found, none_more, no_net_found}
use Rattle.fx_walk.proofs.matches.is_in_nets.Goals as goal

pub returns-then-contains : goal.returns-then-contains
returns-then-contains c = net_found c.args.members.now c.args.end c.args.packet.now c.address_of-address.result.0 c.loop-len.len c.around.result c.address_of-address.ensures c.around.ensures.address c.around.ensures.length (sym c.contains.ensures ∙ c.if-contains.true)

pub loop-len-preserved : goal.loop-len-preserved
loop-len-preserved c = none_more c.args.members.now c.address_of-address.result.0 c.loop-len.len c.around.result c.loop-len.invariant c.around.ensures.address c.around.ensures.length (sym c.contains.ensures ∙ c.if-contains.false)

pub returns : goal.returns
returns c =
    no_net_found c.args.members.now c.args.end c.args.packet.now c.address_of-address.result.0 c.address_of-address.ensures c.requires
    (λ n there holds low. c.loop-len.invariant n there holds (omega (arith, low, c.loop-len-test.false)))
