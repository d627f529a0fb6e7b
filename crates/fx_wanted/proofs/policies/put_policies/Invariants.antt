use Rattle.std.proofs.Common.{◌≡◌, ◌++◌, map, filter}
use Rattle.std.specs.List.{flat_map}
use Rattle.fx_base.specs.Extended.{extended}
use Rattle.fx_model.specs.Active.{is_active, active_policies}
use Rattle.fx_model.specs.Sets.{policy_uses}
use Rattle.fx_model.specs.Views.{policy_entry}
use Rattle.fx_wanted.proofs.policies.put_policies.Given as goal

-- with the policies that are left put in, all of them are
abbrev pub invariant-loop-id : goal.invariant-loop-id
invariant-loop-id g l = record {
  policies :
      extended l.policies (map (policy_entry g.R.DigestRule.digest_of) (filter (λ x. is_active l.resources x.1) l.id-iterator))
      ≡ extended l.fn.policies (map (policy_entry g.R.DigestRule.digest_of) (active_policies l.resources));
  uses :
      l.uses.items ++ flat_map (λ x. policy_uses x.1) (filter (λ x. is_active l.resources x.1) l.id-iterator)
      ≡ l.fn.uses.items ++ flat_map (λ x. policy_uses x.1) (active_policies l.resources);
}
