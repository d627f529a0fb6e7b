-- `==` tells all parts of a view apart, and a clone is its source.
use Rattle.std.specs.Prelude.{◌≡◌, true}
use Rattle.fx_base.specs.Same.{same_bytes, same_list, same_truths, both_pass}
use Rattle.fx_model.specs.SameIds.{same_policy_id}
use Rattle.fx_model.specs.SameRules.{same_view_rule}
use Rattle.fx_model.specs.declared.view.ViewTier.{ViewTier}
use Rattle.fx_model.specs.contracts.view.ViewTierPartialEq.TheImpl as tier
use Rattle.fx_model.specs.declared.view.ViewPolicy.{ViewPolicy}
use Rattle.fx_model.specs.contracts.view.ViewPolicyPartialEq.TheImpl as policy
use Rattle.fx_model.specs.declared.view.ViewProfile.{ViewProfile}
use Rattle.fx_model.specs.contracts.view.ViewProfilePartialEq.TheImpl as profile
use Rattle.fx_model.specs.declared.view.ViewEndpoint.{ViewEndpoint}
use Rattle.fx_model.specs.contracts.view.ViewEndpointPartialEq.TheImpl as endpoint

pub same_tier : (x y : ViewTier) → tier.eq-value.it x y ≡ true → x ≡ y
same_tier x y e =
    let p = both_pass _ _ e in
    let q = both_pass _ _ p.1 in
    λ i. record {
      name = same_bytes x.name y.name p.0 i;
      pass_at_end = same_truths x.pass_at_end y.pass_at_end q.0 i;
      policies = same_list _ same_bytes x.policies y.policies q.1 i;
    }

pub same_policy : (x y : ViewPolicy) → policy.eq-value.it x y ≡ true → x ≡ y
same_policy x y e =
    let p = both_pass _ _ e in
    let q = both_pass _ _ p.1 in
    λ i. record { id = same_policy_id x.id y.id p.0 i; ingress = same_list _ same_view_rule x.ingress y.ingress q.0 i; egress = same_list _ same_view_rule x.egress y.egress q.1 i }

pub same_profile : (x y : ViewProfile) → profile.eq-value.it x y ≡ true → x ≡ y
same_profile x y e =
    let p = both_pass _ _ e in
    let q = both_pass _ _ p.1 in
    let r = both_pass _ _ q.1 in
    λ i. record {
      name = same_bytes x.name y.name p.0 i;
      missing = same_truths x.missing y.missing q.0 i;
      ingress = same_list _ same_view_rule x.ingress y.ingress r.0 i;
      egress = same_list _ same_view_rule x.egress y.egress r.1 i;
    }

pub same_endpoint : (x y : ViewEndpoint) → endpoint.eq-value.it x y ≡ true → x ≡ y
same_endpoint x y e =
    let p = both_pass _ _ e in
    let q = both_pass _ _ p.1 in
    let r = both_pass _ _ q.1 in
    let s = both_pass _ _ r.1 in
    λ i. record {
      ns = same_bytes x.ns y.ns p.0 i;
      name = same_bytes x.name y.name q.0 i;
      ingress = same_list _ same_tier x.ingress y.ingress r.0 i;
      egress = same_list _ same_tier x.egress y.egress s.0 i;
      profiles = same_list _ same_bytes x.profiles y.profiles s.1 i;
    }
