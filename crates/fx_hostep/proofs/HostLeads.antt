-- The chains of the host tables can be written one after another.
use Rattle.std.proofs.Common.{◌≡◌, ◌<◌, ℕ, Bool, true, false, cond, ◌&&◌, List, [], ◌∷◌, ◌++◌, filter, map, Option, Some, None, refl, sym, ap, ◌∙◌, subst, lit<}
use Rattle.std.specs.Prelude.{◌==◌, ◌+◌, nat_le, if◌then◌else◌}
use Rattle.std.specs.List.{AllByRecursion, flat_map}
use Rattle.std.specs.Cmp.Lexicographic.{nat_list_cmp_total}
use Rattle.std.specs.FinMap as maps
use Rattle.fx_base.specs.Extended.{extended}
use Rattle.fx_base.specs.Same.{both_pass}
use Rattle.fx_base.proofs.AtKey.{get_empty}
use Rattle.fx_base.proofs.KeyCases.{there_insert, there_inserted}
use Rattle.fx_base.proofs.ExtendedKeys.{is_among, among_first, among_later, there_extended, there_by_name}
use Rattle.fx_base.proofs.Found.{each, entries_found}
use Rattle.fx_model.specs.declared.view.View.{View}
use Rattle.fx_model.specs.declared.view.ViewPolicy.{ViewPolicy}
use Rattle.fx_model.specs.declared.view.ViewProfile.{ViewProfile}
use Rattle.fx_model.specs.declared.view.ViewEndpoint.{ViewEndpoint}
use Rattle.fx_model.specs.declared.chain.End.TheVariants.{Dest}
use Rattle.fx_model.specs.declared.chain.Match.TheVariants as match
use Rattle.fx_model.specs.declared.chain.ChainRule.{ChainRule}
use Rattle.fx_model.specs.Closed.{AreClosedTables, EndpointIsClosed, IsClosedView}
use Rattle.fx_model.specs.Directions.{Direction, Ingress, Egress}
use Rattle.fx_model.specs.Ranks.{IsRanked, rank_of}
use Rattle.fx_model.specs.Rendering.{accept_mark, clear_mark, plain}
use Rattle.fx_model.specs.Shapes.{AreOfKinds, AreShaped, fits_slots, has_shape, have_shape}
use Rattle.fx_model.specs.Tables.{ChainName, Chains, Sets, Tables, policy_chain, policy_rules, profile_chain, profile_rules, profile_jumps, tier_rules, tiers_side, host_endpoint_chain, host_root_of, host_hook}
use Rattle.fx_model.specs.ViewTables.{policy_chains, profile_chains, endpoint_chains, dispatch_chains}
use Rattle.fx_model.specs.Writing.{CanBeWritten}
use Rattle.fx_model.proofs.ChainWrites.{ranked-empty, closed-empty, ranked-write, closed-write, shaped-write}
use Rattle.fx_tables.specs.Invariant.{AreKept}
use Rattle.fx_laws.proofs.Shaping.{Lead}
use Rattle.fx_laws.proofs.Leads.{HasLower, endpoint_lead, lead_more, writable}
use Rattle.fx_laws.proofs.TreeWritten.{written-append}
use Rattle.fx_laws.proofs.Writable.{chains_can_be_written}
use Rattle.fx_hostep.specs.declared.failsafe.FailsafePort.{FailsafePort}
use Rattle.fx_hostep.specs.declared.failsafe.Failsafe.{Failsafe}
use Rattle.fx_hostep.specs.HostTables.{Written, failsafe_chain, port_alone, failsafe_rule, failsafe_rules, failsafe_chains, is_host, host_endpoints, to_failsafe, host_rules, host_chains, way_to, ways_to, roots_for, hook_rules, hook_chains, host_chains_of, host_tables_of}

-- ---- chains before others

first_written : (sets : Sets) (chains : Chains) (es fs : List Written) → CanBeWritten sets chains (es ++ fs) → CanBeWritten sets chains es
first_written sets chains [] fs h = tt
first_written sets chains (e ∷ es) fs h = (h.0, first_written sets (maps.insert chains e.0 e.1) es fs h.1)

later_written : (sets : Sets) (chains : Chains) (es fs : List Written) → CanBeWritten sets chains (es ++ fs) → CanBeWritten sets (extended chains es) fs
later_written sets chains [] fs h = h
later_written sets chains (e ∷ es) fs h = later_written sets (maps.insert chains e.0 e.1) es fs h.1

-- ---- failsafe ports

one_slot_fits : (n : ℕ) → fits_slots (match.Ports Dest (port_alone n ∷ []) false) ≡ true
one_slot_fits n = by_test (n == n)
  where
    by_test : (b : Bool) → nat_le ((if b then 1 else 2) + 0) 15 ≡ true
    by_test true = refl
    by_test false = refl

failsafe_shape : (p : FailsafePort) → has_shape (failsafe_rule p) ≡ true
failsafe_shape p = ap (λ b. b && true) (one_slot_fits p.number)

failsafe_lead : (sets : Sets) (chains : Chains) (rank : ℕ) (ps : List FailsafePort) → Lead sets chains rank (map failsafe_rule ps)
failsafe_lead sets chains rank [] = record { there = tt; below = tt; named = tt; shaped = refl }
failsafe_lead sets chains rank (p ∷ ps) =
    lead_more sets chains rank (failsafe_rule p) (map failsafe_rule ps) tt tt (tt, (tt, tt)) (failsafe_shape p) (failsafe_lead sets chains rank ps)

failsafe_written : (sets : Sets) (chains : Chains) (f : Failsafe) → CanBeWritten sets chains (failsafe_chains f)
failsafe_written sets chains f =
    let more : Chains = maps.insert chains (failsafe_chain Ingress) (failsafe_rules Ingress f) in (
      writable sets chains (failsafe_chain Ingress) 0 (failsafe_rules Ingress f) refl (failsafe_lead sets chains 0 f.inbound),
      (writable sets more (failsafe_chain Egress) 0 (failsafe_rules Egress f) refl (failsafe_lead sets more 0 f.outbound), tt),
    )

-- ---- host endpoints

-- the chains of failsafe ports are there
abbrev HasFailsafe : Chains → Type 0
HasFailsafe chains = (d : Direction) → maps.contains_key chains (failsafe_chain d) ≡ true

failsafe_below : (d : Direction) → rank_of (failsafe_chain d) < 1
failsafe_below Ingress = lit< tt
failsafe_below Egress = lit< tt

lead_later : (sets : Sets) (chains : Chains) (rank : ℕ) (r : ChainRule) (rs : List ChainRule) → Lead sets chains rank (r ∷ rs) → Lead sets chains rank rs
lead_later sets chains rank r rs h = record {
  there = h.there.1;
  below = h.below.1;
  named = h.named.1;
  shaped = (both_pass (has_shape r) (have_shape rs) h.shaped).1;
}

lead_behind_two : (sets : Sets) (chains : Chains) (rank : ℕ) (r s : ChainRule) (rs : List ChainRule) → Lead sets chains rank (r ∷ s ∷ rs) → Lead sets chains rank rs
lead_behind_two sets chains rank r s rs h = lead_later sets chains rank s rs (lead_later sets chains rank r (s ∷ rs) h)

host_rank : (d : Direction) (k : List ℕ) → rank_of (host_endpoint_chain d k) ≡ 1
host_rank Ingress k = refl
host_rank Egress k = refl

module _ (v : View) (sets : Sets) (chains : Chains) (has : HasLower v chains) (failsafe : HasFailsafe chains) (d : Direction) (e : ViewEndpoint) (closed : EndpointIsClosed v e) where
  -- an endpoint's rules behind those for connections that are known or invalid
  abbrev behind_states : List ChainRule
  behind_states = plain [] (clear_mark accept_mark) ∷ tier_rules d (tiers_side d e) (profile_jumps d e.profiles)

  behind_lead : Lead sets chains 1 behind_states
  behind_lead = lead_behind_two sets chains 1 _ _ behind_states (endpoint_lead v sets chains has d e closed)

  host_lead : Lead sets chains 1 (host_rules d e)
  host_lead =
      lead_more sets chains 1 _ _ tt tt (tt, tt) refl
      (lead_more sets chains 1 _ _ tt tt (tt, tt) refl
      (lead_more sets chains 1 (to_failsafe d) behind_states (failsafe d) (failsafe_below d) tt refl behind_lead))

has_insert : (v : View) (chains : Chains) (name : ChainName) (rules : List ChainRule) → HasLower v chains → HasLower v (maps.insert chains name rules)
has_insert v chains name rules has = record {
  policies = λ d k h. there_insert chains name rules (policy_chain d k) (has.policies d k h);
  profiles = λ d k h. there_insert chains name rules (profile_chain d k) (has.profiles d k h);
}

has-extended : (v : View) (chains : Chains) (es : List Written) → HasLower v chains → HasLower v (extended chains es)
has-extended v chains es has = record {
  policies = λ d k h. there_extended chains es (policy_chain d k) (has.policies d k h);
  profiles = λ d k h. there_extended chains es (profile_chain d k) (has.profiles d k h);
}

host_written : (v : View) (chains : Chains) → HasLower v chains → HasFailsafe chains → (x : List ℕ × ViewEndpoint) → EndpointIsClosed v x.1 → CanBeWritten v.sets chains (host_chains x)
host_written v chains has failsafe x closed =
    let name : ChainName = host_endpoint_chain Ingress x.0 in
    let rules : List ChainRule = host_rules Ingress x.1 in
    let more : Chains = maps.insert chains name rules in (
      writable v.sets chains name 1 rules (host_rank Ingress x.0) (host_lead v v.sets chains has failsafe Ingress x.1 closed),
      (
        writable v.sets more (host_endpoint_chain Egress x.0) 1 (host_rules Egress x.1) (host_rank Egress x.0)
            (host_lead v v.sets more (has_insert v chains name rules has) (λ d. there_insert chains name rules (failsafe_chain d) (failsafe d)) Egress x.1 closed),
        tt,
      ),
    )

hosts_written : (v : View) (chains : Chains) → HasLower v chains → HasFailsafe chains → (xs : List (List ℕ × ViewEndpoint)) → AllByRecursion (λ x. EndpointIsClosed v x.1) xs → CanBeWritten v.sets chains (flat_map host_chains xs)
hosts_written v chains has failsafe [] h = tt
hosts_written v chains has failsafe (x ∷ xs) h =
    written-append v.sets chains (host_chains x) (flat_map host_chains xs) (host_written v chains has failsafe x h.0)
    (hosts_written v (extended chains (host_chains x)) (has-extended v chains (host_chains x) has) (λ d. there_extended chains (host_chains x) (failsafe_chain d) (failsafe d)) xs h.1)

-- ---- the ways to them

-- the chains of the host endpoints on these interfaces are there
abbrev HaveHosts : Chains → List (List ℕ) → Type 0
HaveHosts chains ks = (d : Direction) (k : List ℕ) → is_among k ks ≡ true → maps.contains_key chains (host_endpoint_chain d k) ≡ true

host_below : (d : Direction) (k : List ℕ) → rank_of (host_endpoint_chain d k) < 3
host_below Ingress k = lit< tt
host_below Egress k = lit< tt

way_shape : (d : Direction) (k : List ℕ) → has_shape (way_to d k) ≡ true
way_shape Ingress k = refl
way_shape Egress k = refl

ways_lead : (sets : Sets) (chains : Chains) (ks : List (List ℕ)) → HaveHosts chains ks → (d : Direction) (xs : List (List ℕ × ViewEndpoint)) → AllByRecursion (λ x. is_among x.0 ks ≡ true) xs → Lead sets chains 3 (ways_to d xs)
ways_lead sets chains ks have d [] among = record { there = tt; below = tt; named = tt; shaped = refl }
ways_lead sets chains ks have d (x ∷ xs) among =
    lead_more sets chains 3 (way_to d x.0) (ways_to d xs) (have d x.0 among.0) (host_below d x.0) (tt, tt) (way_shape d x.0) (ways_lead sets chains ks have d xs among.1)

abbrev ifaces : List (List ℕ × ViewEndpoint) → List (List ℕ)
ifaces xs = map (λ x. x.0) xs

each_among : (ks : List (List ℕ)) (xs : List (List ℕ × ViewEndpoint)) → ((k : List ℕ) → is_among k (ifaces xs) ≡ true → is_among k ks ≡ true) → AllByRecursion (λ x. is_among x.0 ks ≡ true) xs
each_among ks [] h = tt
each_among ks (x ∷ xs) h = (h x.0 (among_first x.0 (ifaces xs)), each_among ks xs (λ k later. h k (among_later k x.0 (ifaces xs) later)))

root_rank : (d : Direction) → rank_of (host_root_of d) ≡ 3
root_rank Ingress = refl
root_rank Egress = refl

roots_written : (sets : Sets) (chains : Chains) (xs : List (List ℕ × ViewEndpoint)) → HaveHosts chains (ifaces xs) → CanBeWritten sets chains (roots_for xs)
roots_written sets chains xs have =
    let name : ChainName = host_root_of Ingress in
    let rules : List ChainRule = ways_to Ingress xs in
    let more : Chains = maps.insert chains name rules in
    let among : AllByRecursion (λ (x : List ℕ × ViewEndpoint). is_among x.0 (ifaces xs) ≡ true) xs = each_among (ifaces xs) xs (λ k h. h) in (
      writable sets chains name 3 rules (root_rank Ingress) (ways_lead sets chains (ifaces xs) have Ingress xs among),
      (
        writable sets more (host_root_of Egress) 3 (ways_to Egress xs) (root_rank Egress)
            (ways_lead sets more (ifaces xs) (λ d k h. there_insert chains name rules (host_endpoint_chain d k) (have d k h)) Egress xs among),
        tt,
      ),
    )

root_below : (d : Direction) → rank_of (host_root_of d) < 4
root_below Ingress = lit< tt
root_below Egress = lit< tt

-- both roots are there
abbrev HasRoots : Chains → Type 0
HasRoots chains = (d : Direction) → maps.contains_key chains (host_root_of d) ≡ true

hook_lead : (sets : Sets) (chains : Chains) → HasRoots chains → (d : Direction) → Lead sets chains 4 (hook_rules d)
hook_lead sets chains roots d =
    lead_more sets chains 4 _ _ tt tt tt refl
    (lead_more sets chains 4 _ [] (roots d) (root_below d) tt refl (record { there = tt; below = tt; named = tt; shaped = refl }))

hook_rank : (d : Direction) → rank_of (host_hook d) ≡ 4
hook_rank Ingress = refl
hook_rank Egress = refl

hooks_written : (sets : Sets) (chains : Chains) → HasRoots chains → CanBeWritten sets chains hook_chains
hooks_written sets chains roots =
    let name : ChainName = host_hook Ingress in
    let more : Chains = maps.insert chains name (hook_rules Ingress) in (
      writable sets chains name 4 (hook_rules Ingress) (hook_rank Ingress) (hook_lead sets chains roots Ingress),
      (
        writable sets more (host_hook Egress) 4 (hook_rules Egress) (hook_rank Egress)
            (hook_lead sets more (λ d. there_insert chains name (hook_rules Ingress) (host_root_of d) (roots d)) Egress),
        tt,
      ),
    )

-- ---- what is there once they are written

-- of two chains that are put in, both are there
pair_there : (chains : Chains) (m n : ChainName) (rs ss : List ChainRule) → (maps.contains_key (extended chains ((m, rs) ∷ (n, ss) ∷ [])) m ≡ true) × (maps.contains_key (extended chains ((m, rs) ∷ (n, ss) ∷ [])) n ≡ true)
pair_there chains m n rs ss = (
  there_insert (maps.insert chains m rs) n ss m (there_inserted chains m rs),
  there_inserted (maps.insert chains m rs) n ss,
)

policies_give : (d : Direction) (chains : Chains) (e : List ℕ × ViewPolicy) → maps.contains_key (extended chains (policy_chains e)) (policy_chain d e.0) ≡ true
policies_give Ingress chains e = (pair_there chains (policy_chain Ingress e.0) (policy_chain Egress e.0) (policy_rules Ingress e.1) (policy_rules Egress e.1)).0
policies_give Egress chains e = (pair_there chains (policy_chain Ingress e.0) (policy_chain Egress e.0) (policy_rules Ingress e.1) (policy_rules Egress e.1)).1

profiles_give : (d : Direction) (chains : Chains) (e : List ℕ × ViewProfile) → maps.contains_key (extended chains (profile_chains e)) (profile_chain d e.0) ≡ true
profiles_give Ingress chains e = (pair_there chains (profile_chain Ingress e.0) (profile_chain Egress e.0) (profile_rules Ingress e.1) (profile_rules Egress e.1)).0
profiles_give Egress chains e = (pair_there chains (profile_chain Ingress e.0) (profile_chain Egress e.0) (profile_rules Ingress e.1) (profile_rules Egress e.1)).1

hosts_give : (d : Direction) (chains : Chains) (x : List ℕ × ViewEndpoint) → maps.contains_key (extended chains (host_chains x)) (host_endpoint_chain d x.0) ≡ true
hosts_give Ingress chains x = (pair_there chains (host_endpoint_chain Ingress x.0) (host_endpoint_chain Egress x.0) (host_rules Ingress x.1) (host_rules Egress x.1)).0
hosts_give Egress chains x = (pair_there chains (host_endpoint_chain Ingress x.0) (host_endpoint_chain Egress x.0) (host_rules Ingress x.1) (host_rules Egress x.1)).1

failsafe_there : (chains : Chains) (f : Failsafe) → HasFailsafe (extended chains (failsafe_chains f))
failsafe_there chains f Ingress = (pair_there chains (failsafe_chain Ingress) (failsafe_chain Egress) (failsafe_rules Ingress f) (failsafe_rules Egress f)).0
failsafe_there chains f Egress = (pair_there chains (failsafe_chain Ingress) (failsafe_chain Egress) (failsafe_rules Ingress f) (failsafe_rules Egress f)).1

roots_there : (chains : Chains) (xs : List (List ℕ × ViewEndpoint)) → HasRoots (extended chains (roots_for xs))
roots_there chains xs Ingress = (pair_there chains (host_root_of Ingress) (host_root_of Egress) (ways_to Ingress xs) (ways_to Egress xs)).0
roots_there chains xs Egress = (pair_there chains (host_root_of Ingress) (host_root_of Egress) (ways_to Ingress xs) (ways_to Egress xs)).1

-- ---- all of them

all_filtered : {A : Type 0} (P : A → Type 0) (p : A → Bool) (xs : List A) → AllByRecursion P xs → AllByRecursion P (filter p xs)
all_filtered P p [] h = tt
all_filtered P p (x ∷ xs) h =
    elim (p x) as (λ b. AllByRecursion P (cond b (x ∷ filter p xs) (filter p xs))) [
      | true ↦ (h.0, all_filtered P p xs h.1)
      | false ↦ all_filtered P p xs h.1
    ]

module _ (v : View) (f : Failsafe) (closed : IsClosedView v) where
  abbrev policies : List Written
  policies = flat_map policy_chains (maps.entries v.policies)

  abbrev profiles : List Written
  profiles = flat_map profile_chains (maps.entries v.profiles)

  abbrev others : List Written
  others = flat_map endpoint_chains (maps.entries v.endpoints) ++ dispatch_chains v

  abbrev hosts : List (List ℕ × ViewEndpoint)
  hosts = host_endpoints v

  abbrev with_policies : Chains
  with_policies = extended maps.empty policies

  abbrev with_profiles : Chains
  with_profiles = extended with_policies profiles

  abbrev with_failsafe : Chains
  with_failsafe = extended with_profiles (failsafe_chains f)

  abbrev with_hosts : Chains
  with_hosts = extended with_failsafe (flat_map host_chains hosts)

  has_lower : HasLower v with_profiles
  has_lower = record {
    policies = λ d k h. there_extended with_policies profiles (policy_chain d k)
        (there_by_name policy_chains (policy_chain d) (policies_give d) maps.empty (maps.entries v.policies) k (sym (maps.contains_key-keys v.policies k) ∙ h));
    profiles = λ d k h. there_by_name profile_chains (profile_chain d) (profiles_give d) with_policies (maps.entries v.profiles) k (sym (maps.contains_key-keys v.profiles k) ∙ h);
  }

  each_closed : AllByRecursion (λ x. EndpointIsClosed v x.1) hosts
  each_closed =
      all_filtered (λ x. EndpointIsClosed v x.1) is_host (maps.entries v.endpoints)
      (each (λ x. maps.get v.endpoints x.0 ≡ Some x.1) (λ x. EndpointIsClosed v x.1) (λ x h. closed.endpoints x.0 x.1 h) (maps.entries v.endpoints) (entries_found nat_list_cmp_total v.endpoints))

  pub host_chains_can_be_written : CanBeWritten v.sets maps.empty (host_chains_of v f)
  host_chains_can_be_written =
      let all = chains_can_be_written v closed in
      written-append v.sets maps.empty policies _ (first_written v.sets maps.empty policies (profiles ++ others) all)
      (written-append v.sets with_policies profiles _ (first_written v.sets with_policies profiles others (later_written v.sets maps.empty policies (profiles ++ others) all))
      (written-append v.sets with_profiles (failsafe_chains f) _ (failsafe_written v.sets with_profiles f)
      (written-append v.sets with_failsafe (flat_map host_chains hosts) _
      (hosts_written v with_failsafe (has-extended v with_profiles (failsafe_chains f) has_lower) (failsafe_there with_profiles f) hosts each_closed)
      (written-append v.sets with_hosts (roots_for hosts) hook_chains
      (roots_written v.sets with_hosts hosts (λ d k h. there_by_name host_chains (host_endpoint_chain d) (hosts_give d) with_failsafe hosts k h))
      (hooks_written v.sets (extended with_hosts (roots_for hosts)) (roots_there with_hosts hosts))))))

-- ---- what the host tables keep

-- rules lead to lower ranks, what they name is there, and they have the shapes of rules
record AreLed (sets : Sets) (chains : Chains) : Type 0 where
  ranked : IsRanked chains
  closed : AreClosedTables (record { sets = sets; chains = chains })
  shaped : AreShaped chains

led-written : (sets : Sets) (chains : Chains) (es : List Written) → AreLed sets chains → CanBeWritten sets chains es → AreLed sets (extended chains es)
led-written sets chains [] was h = was
led-written sets chains (e ∷ es) was h =
    led-written sets (maps.insert chains e.0 e.1) es
    (record {
      ranked = ranked-write chains e.0 e.1 was.ranked h.0.below;
      closed = closed-write chains e.0 e.1 sets was.closed h.0.there h.0.named;
      shaped = shaped-write chains e.0 e.1 was.shaped h.0.shaped;
    }) h.1

no_rules : {A : Type 0} (rules : List ChainRule) → ◌≡◌ {A = Option (List ChainRule)} None (Some rules) → A
no_rules rules e = cc

led-empty : (sets : Sets) → AreLed sets maps.empty
led-empty sets = record { ranked = ranked-empty; closed = closed-empty sets; shaped = λ name rules e. no_rules rules (sym (get_empty name) ∙ e) }

host-led : (v : View) (f : Failsafe) → IsClosedView v → AreLed v.sets (host_tables_of v f).chains
host-led v f closed = led-written v.sets maps.empty (host_chains_of v f) (led-empty v.sets) (host_chains_can_be_written v f closed)

pub host-ranked : (v : View) (f : Failsafe) → IsClosedView v → IsRanked (host_tables_of v f).chains
host-ranked v f closed = (host-led v f closed).ranked

pub host-kept : (v : View) (f : Failsafe) → IsClosedView v → AreOfKinds v.sets → AreKept (host_tables_of v f)
host-kept v f closed kinds =
    let led = host-led v f closed in
    record { ranked = led.ranked; closed = led.closed; shaped = led.shaped; kinds = kinds }

-- ---- writing them

-- chains are written: those that are left can be written, and with them all are
pub record IsWriting (first now : Tables) (all left : List Written) : Type 0 where
  pub writable : CanBeWritten now.sets now.chains left
  pub whole : record now { chains = extended now.chains left } ≡ record first { chains = extended first.chains all }

-- into tables that have the view's sets alone
pub goal_writable : (v : View) (f : Failsafe) (t : Tables) (ws : List Written) → IsClosedView v → t ≡ record { sets = v.sets; chains = maps.empty } → ws ≡ host_chains_of v f → CanBeWritten t.sets t.chains ws
goal_writable v f t ws closed alone all =
    subst (λ (u : Tables). CanBeWritten u.sets u.chains ws) (sym alone)
    (subst (λ (es : List Written). CanBeWritten v.sets maps.empty es) (sym all) (host_chains_can_be_written v f closed))
