use Rattle.std.proofs.Common.{◌≡◌, ◌||◌, filter}
use Rattle.std.specs.List.{list_any}
use Rattle.fx_model.specs.Active.{applies, is_active}
use Rattle.fx_model.specs.Directions.{Ingress, Egress}
use Rattle.fx_model.specs.Resources.{is_served}
use Rattle.fx_wanted.proofs.labels.is_active.Given as goal

-- whether it applies is seen among those that are left
abbrev pub invariant-loop-endpoint : goal.invariant-loop-endpoint
invariant-loop-endpoint g l =
    is_active l.resources l.policy ≡ list_any (λ x. applies l.resources Ingress l.policy x.1 || applies l.resources Egress l.policy x.1) (filter (λ x. is_served l.resources x.1) l.endpoint-iterator)
