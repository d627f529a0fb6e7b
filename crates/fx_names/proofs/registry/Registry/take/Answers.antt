use Rattle.std.proofs.Common.{◌≡◌, ◌+◌, sym, ap, ◌∙◌}
use Rattle.std.specs.FinMap as map
use Rattle.fx_names.proofs.Holdings.{HoldsClaims-raised, HoldsClaims-fresh}
use Rattle.fx_names.proofs.registry.Registry.take.Goals.{in-Some, in-None+in_ok-clone-in-None}
use Rattle.fx_names.proofs.registry.Registry.take.Goals as goal

pub returns : goal.returns
returns c = λ others k free.
    let m = c.args.self.now.names in
    let name = c.args.claim.now.name in
    let put : c.insert.new.self ≡ map.insert (map.remove m name) name (record { holder = c.match-remove.holding.holder; uses = c.match-remove.holding.uses + 1 }) = c.in_ok-insert.ensures.ok ∙ (λ i. map.insert (c.remove.ensures.removed i) name (record { holder = c.match-remove.holding.holder; uses = c.in_ok-raise.ensures.ok i })) in
    elim c.match-remove.branch [
      | in-Some w ↦ HoldsClaims-raised _ _ c.args.claim.now w.in-Some.holding others (sym w.in-Some.ensures.before) (put ∙ ap (λ h. map.insert (map.remove m name) name (record { holder = h.holder; uses = h.uses + 1 })) w.holding-is) k free
      | in-None+in_ok-clone-in-None w ↦ HoldsClaims-fresh _ _ c.args.claim.now others (sym w.in-None.ensures.before) (put ∙ ap (λ h. map.insert (map.remove m name) name (record { holder = h.holder; uses = h.uses + 1 })) w.holding-is ∙ (λ i. map.insert (map.remove m name) name (record { holder = w.in_ok-clone-in-None.ensures.cases i; uses = w.new.ensures i + 1 }))) k free
    ]
