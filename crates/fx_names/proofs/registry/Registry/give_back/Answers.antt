use Rattle.std.proofs.Common.{◌==◌, sym, ap, ◌∙◌}
use Rattle.std.specs.FinMap as map
use Rattle.fx_names.proofs.Holdings.{HoldsClaims-lowered, HoldsClaims-gone}
use Rattle.fx_names.proofs.registry.Registry.give_back.Goals as goal

pub returns-in_ok-insert : goal.returns-in_ok-insert
returns-in_ok-insert c = λ others k.
    HoldsClaims-lowered _ _ c.args.claim.now c.in-Some.holding c.lower.new.self others (sym c.in-Some.ensures.before)
    (c.in_ok-insert.ensures.ok ∙ ap (λ m. map.insert m c.args.claim.now.name (record { holder = c.in-Some.holding.holder; uses = c.lower.new.self })) c.remove.ensures.removed)
    c.lower.ensures (sym c.if-not-is_zero.ensures) k

pub returns-else-not-is_zero : goal.returns-else-not-is_zero
returns-else-not-is_zero c = λ others k.
    HoldsClaims-gone _ _ c.args.claim.now c.in-Some.holding others (sym c.in-Some.ensures.before) c.remove.ensures.removed
    (ap (λ n. n == 0) (sym c.lower.ensures) ∙ sym c.if-not-is_zero.ensures) k
