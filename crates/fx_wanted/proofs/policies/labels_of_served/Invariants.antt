use Rattle.std.proofs.Common.{◌≡◌, ◌++◌, map, filter}
use Rattle.fx_model.specs.Labels.{effective_labels, of_endpoint}
use Rattle.fx_model.specs.Resources.{is_served, served_endpoints}
use Rattle.fx_wanted.proofs.policies.labels_of_served.Given as goal

-- with those of the endpoints that are left, all labels are there
abbrev pub invariant-loop-endpoint : goal.invariant-loop-endpoint
invariant-loop-endpoint l =
    l.all.items ++ map (λ x. effective_labels l.resources (of_endpoint x.1)) (filter (λ x. is_served l.resources x.1) l.endpoint-iterator)
    ≡ map (λ x. effective_labels l.resources (of_endpoint x.1)) (served_endpoints l.resources)
