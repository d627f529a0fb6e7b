use Rattle.std.proofs.Common.{◌≡◌, map, filter}
use Rattle.std.specs.Prelude.{if◌then◌else◌}
use Rattle.fx_base.specs.Extended.{extended, collected}
use Rattle.fx_model.specs.Active.{applies, applying}
use Rattle.fx_model.specs.Directions.{Ingress, Egress}
use Rattle.fx_model.specs.Views.{key_in_place}
use Rattle.fx_wanted.proofs.policies.view_tiers.Given as goal

-- with the policies that are left put in, all are there that apply
abbrev pub invariant-loop-id : goal.invariant-loop-id
invariant-loop-id g l =
    let d = if l.ingress then Ingress else Egress in
    extended l.keys (map (key_in_place g.R.DigestRule.digest_of l.resources) (filter (λ x. applies l.resources d x.1 l.endpoint) l.id-iterator))
    ≡ collected (map (key_in_place g.R.DigestRule.digest_of l.resources) (applying l.resources d l.endpoint))
