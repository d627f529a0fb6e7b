use Rattle.std.proofs.Common.{◌∙◌, unwrap_or}
use Rattle.fx_found.proofs.Taking.{taking_more}
use Rattle.fx_found.proofs.chains.writes_of.Goals as goal

pub loop-name-preserved : goal.loop-name-preserved
loop-name-preserved c =
    taking_more c.args.rules c.loop-name.rules c.remove.new.self c.loop-name.writes.items c.push.new.self.items c.loop-name.yielded
    c.loop-name.name-iterator.rest.items c.next.new.self.rest.items c.in-Some.name c.unwrap_or-held.result
    c.in-Some.ensures.steps.0
    (c.unwrap_or-held.ensures ∙ (λ i. unwrap_or (c.remove.ensures.before i) (c.new.ensures i)))
    c.remove.ensures.removed
    c.in_ok-push.ensures.items
    c.loop-name.invariant
