-- What the host tables have at the name of each chain that a packet of a process comes to.
use Rattle.std.proofs.Common.{◌≡◌, ℕ, Bool, true, false, cond, List, [], ◌∷◌, ◌++◌, filter, Option, Some, None, is_some, option_map, refl, sym, ap, ◌∙◌}
use Rattle.std.specs.List.{AllByRecursion, flat_map}
use Rattle.std.specs.Cmp.Lexicographic.{nat_list_cmp_total}
use Rattle.std.specs.FinMap as maps
use Rattle.fx_base.proofs.Found.{each, entries_found}
use Rattle.fx_model.specs.declared.view.View.{View}
use Rattle.fx_model.specs.declared.view.ViewEndpoint.{ViewEndpoint}
use Rattle.fx_model.specs.declared.chain.ChainRule.{ChainRule}
use Rattle.fx_model.specs.Directions.{Direction, Ingress, Egress}
use Rattle.fx_model.specs.Machine.{rules_found, rules_in}
use Rattle.fx_model.specs.Tables.{ChainName, policy_chain, policy_rules, profile_chain, profile_rules, host_hook, host_root_of, host_endpoint_chain}
use Rattle.fx_model.specs.ViewTables.{policy_chains, profile_chains}
use Rattle.fx_laws.proofs.EntryLookups.{is, last, last-append, is_same, get-collected, last-entries}
use Rattle.fx_laws.proofs.NamesApart.{policy_same, profile_same, policy_profile, profile_policy}
use Rattle.fx_laws.proofs.ChainPairs.{past, at_key}
use Rattle.fx_walk.proofs.Families.{rules_or_none, RendersRules}
use Rattle.fx_hostep.specs.declared.failsafe.Failsafe.{Failsafe}
use Rattle.fx_hostep.specs.HostRuns.{HasHooks}
use Rattle.fx_hostep.specs.HostTables.{Written, failsafe_chain, failsafe_rules, failsafe_chains, is_host, host_endpoints, host_rules, host_chains, ways_to, roots_for, hook_rules, hook_chains, host_chains_of, host_tables_of}
use Rattle.fx_hostep.specs.HostVerdict.{is_no_namespace}

-- ---- names apart

host_same : (d : Direction) (k l : List ℕ) → is (host_endpoint_chain d k) (host_endpoint_chain d l) ≡ is k l
host_same Ingress k l = refl
host_same Egress k l = refl

policy_host : (d e : Direction) (k l : List ℕ) → is (policy_chain d k) (host_endpoint_chain e l) ≡ false
policy_host Ingress Ingress k l = refl
policy_host Ingress Egress k l = refl
policy_host Egress Ingress k l = refl
policy_host Egress Egress k l = refl

profile_host : (d e : Direction) (k l : List ℕ) → is (profile_chain d k) (host_endpoint_chain e l) ≡ false
profile_host Ingress Ingress k l = refl
profile_host Ingress Egress k l = refl
profile_host Egress Ingress k l = refl
profile_host Egress Egress k l = refl

host_policy : (d e : Direction) (k l : List ℕ) → is (host_endpoint_chain d k) (policy_chain e l) ≡ false
host_policy Ingress Ingress k l = refl
host_policy Ingress Egress k l = refl
host_policy Egress Ingress k l = refl
host_policy Egress Egress k l = refl

host_profile : (d e : Direction) (k l : List ℕ) → is (host_endpoint_chain d k) (profile_chain e l) ≡ false
host_profile Ingress Ingress k l = refl
host_profile Ingress Egress k l = refl
host_profile Egress Ingress k l = refl
host_profile Egress Egress k l = refl

failsafe_host : (d e : Direction) (l : List ℕ) → is (failsafe_chain d) (host_endpoint_chain e l) ≡ false
failsafe_host Ingress Ingress l = refl
failsafe_host Ingress Egress l = refl
failsafe_host Egress Ingress l = refl
failsafe_host Egress Egress l = refl

-- ---- what stands at a key among some entries of a map

not_so : (b : Bool) → (b ≡ true → false ≡ true) → b ≡ false
not_so true h = sym (h refl)
not_so false h = refl

no_so : (b : Bool) → (b ≡ true → true ≡ false) → b ≡ false
no_so true h = h refl
no_so false h = refl

module _ {X : Type 0} (test : List ℕ × X → Bool) (q : List ℕ) where
  -- entries of the key that all pass
  kept_last : (xs : List (List ℕ × X)) (p : Option X) → AllByRecursion (λ x. is q x.0 ≡ true → test x ≡ true) xs → last (filter test xs) q p ≡ last xs q p
  kept_last [] p h = refl
  kept_last (x ∷ xs) p h =
      elim (test x) as (λ b. (is q x.0 ≡ true → b ≡ true) → last (cond b (x ∷ filter test xs) (filter test xs)) q p ≡ last xs q (cond (is q x.0) (Some x.1) p)) [
        | true ↦ λ passes. kept_last xs (cond (is q x.0) (Some x.1) p) h.1
        | false ↦ λ passes. kept_last xs p h.1 ∙ ap (λ b. last xs q (cond b (Some x.1) p)) (sym (not_so (is q x.0) passes))
      ] h.0

  -- or that all fail
  dropped_last : (xs : List (List ℕ × X)) (p : Option X) → AllByRecursion (λ x. is q x.0 ≡ true → test x ≡ false) xs → last (filter test xs) q p ≡ p
  dropped_last [] p h = refl
  dropped_last (x ∷ xs) p h =
      elim (test x) as (λ b. (is q x.0 ≡ true → b ≡ false) → last (cond b (x ∷ filter test xs) (filter test xs)) q p ≡ p) [
        | true ↦ λ fails. ap (λ b. last (filter test xs) q (cond b (Some x.1) p)) (no_so (is q x.0) fails) ∙ dropped_last xs p h.1
        | false ↦ λ fails. dropped_last xs p h.1
      ] h.0

-- ---- host endpoints

abbrev pub if_hosted : Bool → ViewEndpoint → Option ViewEndpoint
if_hosted true e = Some e
if_hosted false e = None

-- the endpoint, if it is one of the node itself
abbrev pub hosted : Option ViewEndpoint → Option ViewEndpoint
hosted None = None
hosted (Some e) = if_hosted (is_no_namespace e.ns) e

no_entry : {A : Type 0} (y : ViewEndpoint) → ◌≡◌ {A = Option ViewEndpoint} None (Some y) → A
no_entry y e = cc

same_entry : (x y : ViewEndpoint) → ◌≡◌ {A = Option ViewEndpoint} (Some x) (Some y) → x ≡ y
same_entry x y e = cc

module _ (v : View) (q : List ℕ) where
  abbrev IsEntry : List ℕ × ViewEndpoint → Type 0
  IsEntry x = maps.get v.endpoints x.0 ≡ Some x.1

  at_same : (x : List ℕ × ViewEndpoint) → IsEntry x → is q x.0 ≡ true → maps.get v.endpoints q ≡ Some x.1
  at_same x h e = ap (maps.get v.endpoints) (is_same q x.0 e) ∙ h

  all_entries : AllByRecursion IsEntry (maps.entries v.endpoints)
  all_entries = entries_found nat_list_cmp_total v.endpoints

  -- the host endpoint at an interface
  pub host_at_key : (o : Option ViewEndpoint) → maps.get v.endpoints q ≡ o → last (host_endpoints v) q None ≡ hosted o
  host_at_key None at =
      kept_last is_host q (maps.entries v.endpoints) None
      (each IsEntry (λ x. is q x.0 ≡ true → is_host x ≡ true) (λ x h e. no_entry x.1 (sym at ∙ at_same x h e)) (maps.entries v.endpoints) all_entries)
      ∙ last-entries nat_list_cmp_total v.endpoints q ∙ at
  host_at_key (Some y) at = by_host (is_no_namespace y.ns) refl
    where
      its_host : (x : List ℕ × ViewEndpoint) → IsEntry x → is q x.0 ≡ true → is_host x ≡ is_no_namespace y.ns
      its_host x h e = ap (λ (z : ViewEndpoint). is_no_namespace z.ns) (same_entry x.1 y (sym (at_same x h e) ∙ at))

      by_host : (b : Bool) → is_no_namespace y.ns ≡ b → last (host_endpoints v) q None ≡ if_hosted (is_no_namespace y.ns) y
      by_host true t =
          kept_last is_host q (maps.entries v.endpoints) None
          (each IsEntry (λ x. is q x.0 ≡ true → is_host x ≡ true) (λ x h e. its_host x h e ∙ t) (maps.entries v.endpoints) all_entries)
          ∙ last-entries nat_list_cmp_total v.endpoints q ∙ at ∙ ap (λ b. if_hosted b y) (sym t)
      by_host false t =
          dropped_last is_host q (maps.entries v.endpoints) None
          (each IsEntry (λ x. is q x.0 ≡ true → is_host x ≡ false) (λ x h e. its_host x h e ∙ t) (maps.entries v.endpoints) all_entries)
          ∙ ap (λ b. if_hosted b y) (sym t)

-- ---- chains of host endpoints

newer : (d : Direction) (b : Bool) (y : ViewEndpoint) (p : Option ViewEndpoint) → cond b (Some (host_rules d y)) (option_map (host_rules d) p) ≡ option_map (host_rules d) (cond b (Some y) p)
newer d true y p = refl
newer d false y p = refl

hosts_last : (d : Direction) (xs : List (List ℕ × ViewEndpoint)) (k : List ℕ) (p : Option ViewEndpoint) → last (flat_map host_chains xs) (host_endpoint_chain d k) (option_map (host_rules d) p) ≡ option_map (host_rules d) (last xs k p)
hosts_last d [] k p = refl
hosts_last Ingress (x ∷ xs) k p =
    ap (λ b. last (flat_map host_chains xs) (host_endpoint_chain Ingress k) (cond b (Some (host_rules Ingress x.1)) (option_map (host_rules Ingress) p))) (host_same Ingress k x.0)
    ∙ ap (last (flat_map host_chains xs) (host_endpoint_chain Ingress k)) (newer Ingress (is k x.0) x.1 p)
    ∙ hosts_last Ingress xs k (cond (is k x.0) (Some x.1) p)
hosts_last Egress (x ∷ xs) k p =
    ap (λ b. last (flat_map host_chains xs) (host_endpoint_chain Egress k) (cond b (Some (host_rules Egress x.1)) (option_map (host_rules Egress) p))) (host_same Egress k x.0)
    ∙ ap (last (flat_map host_chains xs) (host_endpoint_chain Egress k)) (newer Egress (is k x.0) x.1 p)
    ∙ hosts_last Egress xs k (cond (is k x.0) (Some x.1) p)

-- ---- all chains

-- what is there before the ways and the hooks are written
abbrev Held : Type 0
Held = Option (List ChainRule)

module _ (v : View) (f : Failsafe) where
  abbrev policies : List Written
  policies = flat_map policy_chains (maps.entries v.policies)

  abbrev profiles : List Written
  profiles = flat_map profile_chains (maps.entries v.profiles)

  abbrev hosts : List Written
  hosts = flat_map host_chains (host_endpoints v)

  -- what the ways and the hooks leave at a name
  abbrev above : ChainName → Held → Held
  above q o = last hook_chains q (last (roots_for (host_endpoints v)) q o)

  abbrev below : ChainName → Held
  below q = last (failsafe_chains f) q (last profiles q (last policies q None))

  chain_at : (q : ChainName) → maps.get (host_tables_of v f).chains q ≡ above q (last hosts q (below q))
  chain_at q =
      get-collected nat_list_cmp_total (host_chains_of v f) q
      ∙ last-append policies (profiles ++ (failsafe_chains f ++ (hosts ++ (roots_for (host_endpoints v) ++ hook_chains)))) q None
      ∙ last-append profiles (failsafe_chains f ++ (hosts ++ (roots_for (host_endpoints v) ++ hook_chains))) q (last policies q None)
      ∙ last-append (failsafe_chains f) (hosts ++ (roots_for (host_endpoints v) ++ hook_chains)) q (last profiles q (last policies q None))
      ∙ last-append hosts (roots_for (host_endpoints v) ++ hook_chains) q (below q)
      ∙ last-append (roots_for (host_endpoints v)) hook_chains q (last hosts q (below q))

  no_hosts : (q : ChainName) (o : Held) → ((d : Direction) (k : List ℕ) → is q (host_endpoint_chain d k) ≡ false) → last hosts q o ≡ o
  no_hosts q o other = past host_endpoint_chain host_rules (host_endpoints v) q o other

  -- the chains of policies and profiles, which no other name hides
  policy_hidden : (d : Direction) (k : List ℕ) (o : Held) → above (policy_chain d k) o ≡ o
  policy_hidden Ingress k o = refl
  policy_hidden Egress k o = refl

  profile_hidden : (d : Direction) (k : List ℕ) (o : Held) → above (profile_chain d k) o ≡ o
  profile_hidden Ingress k o = refl
  profile_hidden Egress k o = refl

  policy_past : (d : Direction) (k : List ℕ) (o : Held) → last (failsafe_chains f) (policy_chain d k) o ≡ o
  policy_past Ingress k o = refl
  policy_past Egress k o = refl

  profile_past : (d : Direction) (k : List ℕ) (o : Held) → last (failsafe_chains f) (profile_chain d k) o ≡ o
  profile_past Ingress k o = refl
  profile_past Egress k o = refl

  policy_at : (d : Direction) (k : List ℕ) → maps.get (host_tables_of v f).chains (policy_chain d k) ≡ option_map (policy_rules d) (maps.get v.policies k)
  policy_at d k =
      let q = policy_chain d k in
      chain_at q ∙ policy_hidden d k (last hosts q (below q))
      ∙ no_hosts q (below q) (λ e l. policy_host d e k l)
      ∙ policy_past d k (last profiles q (last policies q None))
      ∙ past profile_chain profile_rules (maps.entries v.profiles) q (last policies q None) (λ e l. policy_profile d e k l)
      ∙ at_key policy_chain policy_rules policy_same (λ k l. refl) (λ k l. refl) v.policies d k

  no_policies : (q : ChainName) → ((d : Direction) (k : List ℕ) → is q (policy_chain d k) ≡ false) → last policies q None ≡ None
  no_policies q other = past policy_chain policy_rules (maps.entries v.policies) q None other

  profile_at : (d : Direction) (k : List ℕ) → maps.get (host_tables_of v f).chains (profile_chain d k) ≡ option_map (profile_rules d) (maps.get v.profiles k)
  profile_at d k =
      let q = profile_chain d k in
      chain_at q ∙ profile_hidden d k (last hosts q (below q))
      ∙ no_hosts q (below q) (λ e l. profile_host d e k l)
      ∙ profile_past d k (last profiles q (last policies q None))
      ∙ ap (last profiles q) (no_policies q (λ e l. profile_policy d e k l))
      ∙ at_key profile_chain profile_rules profile_same (λ k l. refl) (λ k l. refl) v.profiles d k

  pub host_tables_render : RendersRules v (host_tables_of v f).chains
  host_tables_render = record {
    at_policy = λ d key. ap rules_found (policy_at d key) ∙ rules_or_none (policy_rules d) (maps.get v.policies key);
    at_profile = λ d key. ap rules_found (profile_at d key) ∙ rules_or_none (profile_rules d) (maps.get v.profiles key);
  }

  -- ---- hooks, roots and failsafe ports

  hook_found : (d : Direction) (o : Held) → above (host_hook d) o ≡ Some (hook_rules d)
  hook_found Ingress o = refl
  hook_found Egress o = refl

  hook_there : (d : Direction) → maps.contains_key (host_tables_of v f).chains (host_hook d) ≡ true
  hook_there d = ap is_some (chain_at (host_hook d) ∙ hook_found d (last hosts (host_hook d) (below (host_hook d))))

  pub hooks_there : HasHooks (host_tables_of v f).chains
  hooks_there = record { inbound = hook_there Ingress; outbound = hook_there Egress }

  pub hook_at : (d : Direction) → rules_in (host_tables_of v f).chains (host_hook d) ≡ hook_rules d
  hook_at d = ap rules_found (chain_at (host_hook d) ∙ hook_found d (last hosts (host_hook d) (below (host_hook d))))

  root_found : (d : Direction) (o : Held) → above (host_root_of d) o ≡ Some (ways_to d (host_endpoints v))
  root_found Ingress o = refl
  root_found Egress o = refl

  pub root_at : (d : Direction) → rules_in (host_tables_of v f).chains (host_root_of d) ≡ ways_to d (host_endpoints v)
  root_at d = ap rules_found (chain_at (host_root_of d) ∙ root_found d (last hosts (host_root_of d) (below (host_root_of d))))

  failsafe_hidden : (d : Direction) (o : Held) → above (failsafe_chain d) o ≡ o
  failsafe_hidden Ingress o = refl
  failsafe_hidden Egress o = refl

  failsafe_found : (d : Direction) (o : Held) → last (failsafe_chains f) (failsafe_chain d) o ≡ Some (failsafe_rules d f)
  failsafe_found Ingress o = refl
  failsafe_found Egress o = refl

  pub failsafe_at : (d : Direction) → rules_in (host_tables_of v f).chains (failsafe_chain d) ≡ failsafe_rules d f
  failsafe_at d =
      let q = failsafe_chain d in
      ap rules_found (chain_at q ∙ failsafe_hidden d (last hosts q (below q)) ∙ no_hosts q (below q) (λ e l. failsafe_host d e l) ∙ failsafe_found d (last profiles q (last policies q None)))

  -- ---- host endpoints

  host_hidden : (d : Direction) (k : List ℕ) (o : Held) → above (host_endpoint_chain d k) o ≡ o
  host_hidden Ingress k o = refl
  host_hidden Egress k o = refl

  host_past : (d : Direction) (k : List ℕ) (o : Held) → last (failsafe_chains f) (host_endpoint_chain d k) o ≡ o
  host_past Ingress k o = refl
  host_past Egress k o = refl

  nothing_below : (d : Direction) (k : List ℕ) → below (host_endpoint_chain d k) ≡ None
  nothing_below d k =
      let q = host_endpoint_chain d k in
      host_past d k (last profiles q (last policies q None))
      ∙ past profile_chain profile_rules (maps.entries v.profiles) q (last policies q None) (λ e l. host_profile d e k l)
      ∙ no_policies q (λ e l. host_policy d e k l)

  host_chain_at : (d : Direction) (k : List ℕ) → maps.get (host_tables_of v f).chains (host_endpoint_chain d k) ≡ option_map (host_rules d) (last (host_endpoints v) k None)
  host_chain_at d k =
      let q = host_endpoint_chain d k in
      chain_at q ∙ host_hidden d k (last hosts q (below q))
      ∙ ap (last hosts q) (nothing_below d k)
      ∙ hosts_last d (host_endpoints v) k None

  -- the chain of a host endpoint that the view has
  pub host_at : (d : Direction) (k : List ℕ) (e : ViewEndpoint) → maps.get v.endpoints k ≡ Some e → is_no_namespace e.ns ≡ true → rules_in (host_tables_of v f).chains (host_endpoint_chain d k) ≡ host_rules d e
  host_at d k e at host =
      ap rules_found (host_chain_at d k ∙ ap (option_map (host_rules d)) (host_at_key v k (Some e) at ∙ ap (λ b. if_hosted b e) host))
