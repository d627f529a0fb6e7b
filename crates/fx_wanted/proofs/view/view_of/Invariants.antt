use Rattle.std.proofs.Common.{◌≡◌, ◌++◌, map, filter}
use Rattle.std.specs.List.{flat_map}
use Rattle.fx_base.specs.Extended.{extended}
use Rattle.fx_model.specs.Resources.{is_served}
use Rattle.fx_model.specs.Views.{view_of, empty_view, profile_entry, endpoint_entry, uses_of_profile, wanted_uses}
use Rattle.fx_wanted.proofs.view.view_of.Given as goal

-- with the endpoints that are left put in, all of them are
abbrev pub invariant-loop-key : goal.invariant-loop-key
invariant-loop-key g l = record {
  sets : l.view.sets ≡ empty_view.sets;
  policies : l.view.policies ≡ (view_of g.R.DigestRule.digest_of l.resources).policies;
  profiles : extended l.view.profiles (map (profile_entry g.R.DigestRule.digest_of l.resources) (flat_map (λ x. x.1.profiles) (filter (λ x. is_served l.resources x.1) l.key-iterator))) ≡ (view_of g.R.DigestRule.digest_of l.resources).profiles;
  endpoints : extended l.view.endpoints (map (endpoint_entry g.R.DigestRule.digest_of l.resources) (filter (λ x. is_served l.resources x.1) l.key-iterator)) ≡ (view_of g.R.DigestRule.digest_of l.resources).endpoints;
  uses : l.uses.items ++ flat_map (uses_of_profile l.resources) (flat_map (λ x. x.1.profiles) (filter (λ x. is_served l.resources x.1) l.key-iterator)) ≡ wanted_uses l.resources;
}
