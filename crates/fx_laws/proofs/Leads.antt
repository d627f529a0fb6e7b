-- Where the rules of a view's policies, profiles and endpoints lead, and that their chains can be written.
use Rattle.std.proofs.Common.{◌≡◌, ◌<◌, ℕ, Bool, true, false, List, [], ◌∷◌, ◌++◌, refl, sym, subst, arith}
use Rattle.std.specs.FinMap as maps
use Rattle.fx_base.specs.Same.{both_pass}
use Rattle.fx_base.proofs.KeyCases.{there_insert}
use Rattle.fx_model.specs.declared.view.View.{View}
use Rattle.fx_model.specs.declared.view.ViewPolicy.{ViewPolicy}
use Rattle.fx_model.specs.declared.view.ViewProfile.{ViewProfile}
use Rattle.fx_model.specs.declared.view.ViewTier.{ViewTier}
use Rattle.fx_model.specs.declared.view.ViewEndpoint.{ViewEndpoint}
use Rattle.fx_model.specs.declared.chain.Reason.{Reason}
use Rattle.fx_model.specs.declared.chain.Reason.TheVariants as reason
use Rattle.fx_model.specs.declared.chain.Target.TheVariants as target
use Rattle.fx_model.specs.declared.chain.ChainRule.{ChainRule}
use Rattle.fx_model.specs.Directions.{Direction, Ingress, Egress}
use Rattle.fx_model.specs.Tables.{ChainName, Chains, Sets, policy_chain, profile_chain, policy_side, profile_side, policy_rules, profile_rules, present_or_missing, endpoint_chain, policy_jumps, pass_or_drop, tier_rules, profile_jumps, tiers_side, endpoint_rules}
use Rattle.fx_model.specs.ViewTables.{policy_chains, profile_chains, endpoint_chains}
use Rattle.fx_model.specs.Rendering.{plain, tagged, is_set, accept_mark}
use Rattle.fx_model.specs.Ranks.{LeadsBelow, AllLeadBelow, rank_of}
use Rattle.fx_model.specs.Shapes.{has_shape, have_shape}
use Rattle.fx_model.specs.Closed.{AreThere, TiersAreThere, EndpointIsClosed, NameSets, LeadsThere, MatchesNameThere}
use Rattle.fx_model.specs.Writing.{IsWritable, CanBeWritten}
use Rattle.fx_laws.proofs.Removing.{both}
use Rattle.fx_laws.proofs.Shaping.{Lead, leaf_lead, rules_leaf}

-- ---- rules of policies and profiles lead nowhere

module _ (sets : Sets) (chains : Chains) (rank : ℕ) where
  pub tagged_drop : (why : Reason) → Lead sets chains rank (tagged [] target.Drop why ∷ [])
  tagged_drop why = record { there = (tt, tt); below = (tt, tt); named = (tt, tt); shaped = refl }

  present_lead : (missing : Bool) (name : List ℕ) (rules : List ChainRule) → Lead sets chains rank rules → Lead sets chains rank (present_or_missing missing name rules)
  present_lead true name rules h = tagged_drop (reason.MissingProfile name)
  present_lead false name rules h = h

  pub policy_lead : (d : Direction) (p : ViewPolicy) → NameSets sets (policy_side d p) → Lead sets chains rank (policy_rules d p)
  policy_lead d p there = leaf_lead sets chains rank (policy_rules d p) (rules_leaf sets (reason.Policy p.id) 1 (policy_side d p) there)

  pub profile_lead : (d : Direction) (p : ViewProfile) → NameSets sets (profile_side d p) → Lead sets chains rank (profile_rules d p)
  profile_lead d p there = present_lead p.missing p.name _ (leaf_lead sets chains rank _ (rules_leaf sets (reason.Profile p.name) 1 (profile_side d p) there))

  -- a rule before others
  pub lead_more : (r : ChainRule) (rs : List ChainRule) → LeadsThere chains r.target → LeadsBelow rank r.target → MatchesNameThere sets r.matches → has_shape r ≡ true → Lead sets chains rank rs → Lead sets chains rank (r ∷ rs)
  lead_more r rs there below named shaped h = record {
    there = (there, h.there);
    below = (below, h.below);
    named = (named, h.named);
    shaped = both (has_shape r) (have_shape rs) shaped h.shaped;
  }

  -- rules before others
  pub lead-append : (rs ts : List ChainRule) → Lead sets chains rank rs → Lead sets chains rank ts → Lead sets chains rank (rs ++ ts)
  lead-append [] ts h g = g
  lead-append (r ∷ rs) ts h g =
      let shaped = both_pass (has_shape r) (have_shape rs) h.shaped in
      let rest : Lead sets chains rank rs = record { there = h.there.1; below = h.below.1; named = h.named.1; shaped = shaped.1 } in
      lead_more r (rs ++ ts) h.there.0 h.below.0 h.named.0 shaped.0 (lead-append rs ts rest g)

  return_lead : (rs : List ChainRule) → Lead sets chains rank rs → Lead sets chains rank (plain (is_set accept_mark ∷ []) target.Return ∷ rs)
  return_lead rs h = lead_more _ rs tt tt (tt, tt) refl h

-- ---- rules of endpoints lead to chains of policies and profiles

-- the chains of a view's policies and profiles are there
pub record HasLower (v : View) (chains : Chains) : Type 0 where
  pub policies : (d : Direction) (k : List ℕ) → maps.contains_key v.policies k ≡ true → maps.contains_key chains (policy_chain d k) ≡ true
  pub profiles : (d : Direction) (k : List ℕ) → maps.contains_key v.profiles k ≡ true → maps.contains_key chains (profile_chain d k) ≡ true

has_insert : (v : View) (chains : Chains) (name : ChainName) (rules : List ChainRule) → HasLower v chains → HasLower v (maps.insert chains name rules)
has_insert v chains name rules has = record {
  policies = λ d k h. there_insert chains name rules (policy_chain d k) (has.policies d k h);
  profiles = λ d k h. there_insert chains name rules (profile_chain d k) (has.profiles d k h);
}

policy_below : (d : Direction) (k : List ℕ) → rank_of (policy_chain d k) < 1
policy_below Ingress k = omega arith
policy_below Egress k = omega arith

profile_below : (d : Direction) (k : List ℕ) → rank_of (profile_chain d k) < 1
profile_below Ingress k = omega arith
profile_below Egress k = omega arith

module _ (v : View) (sets : Sets) (chains : Chains) (has : HasLower v chains) (d : Direction) where
  policy_jumps_lead : (keys : List (List ℕ)) → AreThere v.policies keys → (rest : List ChainRule) → Lead sets chains 1 rest → Lead sets chains 1 (policy_jumps d keys ++ rest)
  policy_jumps_lead [] there rest h = h
  policy_jumps_lead (k ∷ ks) there rest h =
      lead_more sets chains 1 _ _ (has.policies d k there.0) (policy_below d k) (tt, tt) refl
      (return_lead sets chains 1 _ (policy_jumps_lead ks there.1 rest h))

  profile_jumps_lead : (keys : List (List ℕ)) → AreThere v.profiles keys → Lead sets chains 1 (profile_jumps d keys)
  profile_jumps_lead [] there = tagged_drop sets chains 1 reason.NoProfileRule
  profile_jumps_lead (k ∷ ks) there =
      lead_more sets chains 1 _ _ (has.profiles d k there.0) (profile_below d k) tt refl
      (return_lead sets chains 1 _ (profile_jumps_lead ks there.1))

  end_leads : (b : Bool) (name : List ℕ) (rest : List ChainRule) → Lead sets chains 1 rest → Lead sets chains 1 (pass_or_drop b name ++ rest)
  end_leads true name rest h = h
  end_leads false name rest h = lead_more sets chains 1 _ _ tt tt (tt, tt) refl h

  tiers_lead : (ts : List ViewTier) → TiersAreThere v.policies ts → (rest : List ChainRule) → Lead sets chains 1 rest → Lead sets chains 1 (tier_rules d ts rest)
  tiers_lead [] there rest h = h
  tiers_lead (t ∷ ts) there rest h =
      lead_more sets chains 1 _ _ tt tt tt refl
      (policy_jumps_lead t.policies there.0 _ (end_leads t.pass_at_end t.name _ (tiers_lead ts there.1 rest h)))

  sides_there : (e : ViewEndpoint) → EndpointIsClosed v e → TiersAreThere v.policies (tiers_side d e)
  sides_there e h = elim d as (λ d. TiersAreThere v.policies (tiers_side d e)) [ Ingress ↦ h.ingress | Egress ↦ h.egress ]

  pub endpoint_lead : (e : ViewEndpoint) → EndpointIsClosed v e → Lead sets chains 1 (endpoint_rules d e)
  endpoint_lead e closed =
      lead_more sets chains 1 _ _ tt tt (tt, tt) refl
      (lead_more sets chains 1 _ _ tt tt (tt, tt) refl
      (lead_more sets chains 1 _ _ tt tt tt refl
      (tiers_lead (tiers_side d e) (sides_there e closed) (profile_jumps d e.profiles) (profile_jumps_lead e.profiles closed.profiles))))

-- ---- two chains can be written one after the other

policy_rank : (d : Direction) (k : List ℕ) → rank_of (policy_chain d k) ≡ 0
policy_rank Ingress k = refl
policy_rank Egress k = refl

profile_rank : (d : Direction) (k : List ℕ) → rank_of (profile_chain d k) ≡ 0
profile_rank Ingress k = refl
profile_rank Egress k = refl

pub endpoint_rank : (d : Direction) (k : List ℕ) → rank_of (endpoint_chain d k) ≡ 1
endpoint_rank Ingress k = refl
endpoint_rank Egress k = refl

-- a chain whose rules lead below its rank can be written
pub writable : (sets : Sets) (chains : Chains) (name : ChainName) (rank : ℕ) (rules : List ChainRule) → rank_of name ≡ rank → Lead sets chains rank rules → IsWritable sets chains name rules
writable sets chains name rank rules e h = record { there = h.there; below = subst (λ k. AllLeadBelow k rules) (sym e) h.below; named = h.named; shaped = h.shaped }

pub policy_writable : (sets : Sets) (chains : Chains) (k : List ℕ) (p : ViewPolicy) → ((d : Direction) → NameSets sets (policy_side d p)) → CanBeWritten sets chains (policy_chains (k, p))
policy_writable sets chains k p names =
    let more = maps.insert chains (policy_chain Ingress k) (policy_rules Ingress p) in (
      writable sets chains (policy_chain Ingress k) 0 (policy_rules Ingress p) (policy_rank Ingress k) (policy_lead sets chains 0 Ingress p (names Ingress)),
      (writable sets more (policy_chain Egress k) 0 (policy_rules Egress p) (policy_rank Egress k) (policy_lead sets more 0 Egress p (names Egress)), tt),
    )

pub profile_writable : (sets : Sets) (chains : Chains) (k : List ℕ) (p : ViewProfile) → ((d : Direction) → NameSets sets (profile_side d p)) → CanBeWritten sets chains (profile_chains (k, p))
profile_writable sets chains k p names =
    let more = maps.insert chains (profile_chain Ingress k) (profile_rules Ingress p) in (
      writable sets chains (profile_chain Ingress k) 0 (profile_rules Ingress p) (profile_rank Ingress k) (profile_lead sets chains 0 Ingress p (names Ingress)),
      (writable sets more (profile_chain Egress k) 0 (profile_rules Egress p) (profile_rank Egress k) (profile_lead sets more 0 Egress p (names Egress)), tt),
    )

pub endpoint_writable : (v : View) (sets : Sets) (chains : Chains) (k : List ℕ) (e : ViewEndpoint) → HasLower v chains → EndpointIsClosed v e → CanBeWritten sets chains (endpoint_chains (k, e))
endpoint_writable v sets chains k e has closed =
    let more = maps.insert chains (endpoint_chain Ingress k) (endpoint_rules Ingress e) in
    let still = has_insert v chains (endpoint_chain Ingress k) (endpoint_rules Ingress e) has in (
      writable sets chains (endpoint_chain Ingress k) 1 (endpoint_rules Ingress e) (endpoint_rank Ingress k) (endpoint_lead v sets chains has Ingress e closed),
      (writable sets more (endpoint_chain Egress k) 1 (endpoint_rules Egress e) (endpoint_rank Egress k) (endpoint_lead v sets more still Egress e closed), tt),
    )
