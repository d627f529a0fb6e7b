-- What a driver that holds a view's tables may do, and that it holds the next view's tables then.
use Rattle.std.proofs.Common.{◌≡◌, ◌≤◌, ℕ, true, List, length, Some, None, refl, sym, ap, ◌∙◌, subst}
use Rattle.std.proofs.lemmas.Bool.{leb-true}
use Rattle.std.specs.Cmp.Lexicographic.{nat_list_cmp_total}
use Rattle.std.specs.FinMap as maps
use Rattle.fx_base.specs.Extended.{extended}
use Rattle.fx_base.specs.Same.{both_pass}
use Rattle.fx_base.specs.Set as set
use Rattle.fx_base.proofs.KeyCases.{bytes_exact}
use Rattle.fx_model.specs.declared.member.Member.{Member}
use Rattle.fx_model.specs.declared.view.View.{View}
use Rattle.fx_model.specs.declared.view.ViewPolicy.{ViewPolicy}
use Rattle.fx_model.specs.declared.view.ViewProfile.{ViewProfile}
use Rattle.fx_model.specs.declared.view.ViewEndpoint.{ViewEndpoint}
use Rattle.fx_model.specs.Directions.{Direction, Ingress, Egress}
use Rattle.fx_model.specs.Closed.{IsClosedView}
use Rattle.fx_model.specs.Formed.{is_formed_view, is_formed_view_endpoint}
use Rattle.fx_model.specs.Messages.{members_of, Change, SetAdd, SetDelta, PolicyPut, ProfilePut, EndpointPut, EndpointGone, ProfileGone, PolicyGone, SetGone, step, step_at}
use Rattle.fx_model.specs.Tables.{ChainName, Chains, Tables, policy_chain, profile_chain, endpoint_chain}
use Rattle.fx_model.specs.ViewTables.{policy_chains, profile_chains, endpoint_chains}
use Rattle.fx_model.specs.Writing.{CanBeWritten}
use Rattle.fx_model.specs.Tree.{HoldsTree}
use Rattle.fx_tables.specs.Leads.{NoneLeadsTo}
use Rattle.fx_laws.proofs.Removing.{found_passes}
use Rattle.fx_laws.proofs.StepClosed.{step-closed}
use Rattle.fx_dispatch.specs.Plans.{Replaces, AreWritable, AreDeletable, CanBeDeleted, applied}
use Rattle.fx_dispatch.specs.Plans as plans
use Rattle.fx_driver.specs.declared.driver.Driver.{Driver}
use Rattle.fx_model.specs.ViewTables.{tables_of}
use Rattle.fx_driver.specs.Driven.{driven_chains}
use Rattle.fx_driver.specs.Stepping.{IsStep}
use Rattle.fx_driver.specs.Drives.{Drives, Follows}
use Rattle.fx_driver.specs.Members.{with_members, without_members}
use Rattle.fx_driver.proofs.Interfaces.{Names, HasKeys, keys_put, keys_gone}
use Rattle.fx_driver.proofs.Stepped.{with_endpoint}
use Rattle.fx_laws.proofs.Leads.{HasLower, endpoint_writable}
use Rattle.fx_driver.proofs.Elsewhere.{HasTree, own_tree}
use Rattle.fx_driver.proofs.Told.{told, by_value}
use Rattle.fx_driver.proofs.Steps.{stepped, has_lower, policy_put_tables, policy_gone_tables, profile_put_tables, profile_gone_tables, set_add_tables, set_delta_tables, set_gone_tables}
use Rattle.fx_driver.proofs.EndpointSteps.{holds_tree, others_elsewhere, planned, ends_there, whole_again, endpoint_written, left_within, left_keys, endpoint_unused, endpoint_deleted}

-- where the step is none of an endpoint
same_interfaces : (driver : Driver) (s w : View) (c : Change) → Drives driver s → IsStep s w c → (step_at c s w).endpoints ≡ s.endpoints → (j : List ℕ) → set.contains driver.dispatch j ≡ maps.contains_key (step s w).endpoints j
same_interfaces driver s w c drives is same j =
    drives.interfaces j ∙ ap (λ (m : maps.FinMap _ ViewEndpoint). maps.contains_key m j) (sym same)
    ∙ ap (λ (v : View). maps.contains_key v.endpoints j) (sym (stepped s w c is.next))

module _ (driver : Driver) (t : Tables) where
  abbrev moved : Driver
  moved = record driver { tables = t }

  pub follows_policy_put : (k : List ℕ) (p : ViewPolicy) → t ≡ record driver.tables { chains = extended driver.tables.chains (policy_chains (k, p)) } → Follows driver moved (PolicyPut k p)
  follows_policy_put k p now s w drives is = record {
    tables = now ∙ ap (λ (u : Tables). record u { chains = extended u.chains (policy_chains (k, p)) }) drives.tables ∙ policy_put_tables s w k p is;
    interfaces = same_interfaces driver s w (PolicyPut k p) drives is refl;
  }

  pub follows_policy_gone : (k : List ℕ) → t ≡ record driver.tables { chains = maps.remove (maps.remove driver.tables.chains (policy_chain Ingress k)) (policy_chain Egress k) } → Follows driver moved (PolicyGone k)
  follows_policy_gone k now s w drives is = record {
    tables = now ∙ ap (λ (u : Tables). record u { chains = maps.remove (maps.remove u.chains (policy_chain Ingress k)) (policy_chain Egress k) }) drives.tables ∙ policy_gone_tables s w k is;
    interfaces = same_interfaces driver s w (PolicyGone k) drives is refl;
  }

  pub follows_profile_put : (k : List ℕ) (p : ViewProfile) → t ≡ record driver.tables { chains = extended driver.tables.chains (profile_chains (k, p)) } → Follows driver moved (ProfilePut k p)
  follows_profile_put k p now s w drives is = record {
    tables = now ∙ ap (λ (u : Tables). record u { chains = extended u.chains (profile_chains (k, p)) }) drives.tables ∙ profile_put_tables s w k p is;
    interfaces = same_interfaces driver s w (ProfilePut k p) drives is refl;
  }

  pub follows_profile_gone : (k : List ℕ) → t ≡ record driver.tables { chains = maps.remove (maps.remove driver.tables.chains (profile_chain Ingress k)) (profile_chain Egress k) } → Follows driver moved (ProfileGone k)
  follows_profile_gone k now s w drives is = record {
    tables = now ∙ ap (λ (u : Tables). record u { chains = maps.remove (maps.remove u.chains (profile_chain Ingress k)) (profile_chain Egress k) }) drives.tables ∙ profile_gone_tables s w k is;
    interfaces = same_interfaces driver s w (ProfileGone k) drives is refl;
  }

  pub follows_set_add : (k : List ℕ) (ms : List Member) → t ≡ record driver.tables { sets = maps.insert driver.tables.sets k (with_members set.empty ms) } → Follows driver moved (SetAdd k ms)
  follows_set_add k ms now s w drives is = record {
    tables = now ∙ ap (λ (u : Tables). record u { sets = maps.insert u.sets k (with_members set.empty ms) }) drives.tables ∙ set_add_tables s w k ms is;
    interfaces = same_interfaces driver s w (SetAdd k ms) drives is refl;
  }

  pub follows_set_delta : (k : List ℕ) (adds removes : List Member) → t ≡ record driver.tables { sets = maps.insert driver.tables.sets k (without_members (with_members (members_of (maps.get driver.tables.sets k)) adds) removes) } → Follows driver moved (SetDelta k adds removes)
  follows_set_delta k adds removes now s w drives is = record {
    tables = now ∙ ap (λ (u : Tables). record u { sets = maps.insert u.sets k (without_members (with_members (members_of (maps.get u.sets k)) adds) removes) }) drives.tables ∙ set_delta_tables s w k adds removes is;
    interfaces = same_interfaces driver s w (SetDelta k adds removes) drives is refl;
  }

  pub follows_set_gone : (k : List ℕ) → t ≡ record driver.tables { sets = maps.remove driver.tables.sets k } → Follows driver moved (SetGone k)
  follows_set_gone k now s w drives is = record {
    tables = now ∙ ap (λ (u : Tables). record u { sets = maps.remove u.sets k }) drives.tables ∙ set_gone_tables s w k is;
    interfaces = same_interfaces driver s w (SetGone k) drives is refl;
  }

-- what holds of a view's tables holds of the driver's
pub of_driven : (P : Tables → Type 0) (driver : Driver) (s : View) → Drives driver s → P (tables_of s) → P driver.tables
of_driven P driver s drives h = subst P (sym drives.tables) h

-- ---- endpoints

formed_endpoint : (v : View) → is_formed_view v ≡ true → (k : List ℕ) (e : ViewEndpoint) → maps.get v.endpoints k ≡ Some e → is_formed_view_endpoint (k, e) ≡ true
formed_endpoint v formed k e at = found_passes nat_list_cmp_total bytes_exact is_formed_view_endpoint v.endpoints (both_pass _ _ formed).0 k e at

pub short_name : (k : List ℕ) (e : ViewEndpoint) → is_formed_view_endpoint (k, e) ≡ true → length k ≤ 15
short_name k e h = leb-true (length k) 15 (both_pass _ _ h).0

module _ (driver : Driver) (s w : View) (drives : Drives driver s) (k : List ℕ) (e : ViewEndpoint) (is : IsStep s w (EndpointPut k e)) where
  wanted : maps.get w.endpoints k ≡ Some e
  wanted = (told s w (EndpointPut k e) is.next).wanted

  pub endpoint_put_formed : is_formed_view_endpoint (k, e) ≡ true
  endpoint_put_formed = formed_endpoint w is.to.formed k e wanted

  put_lower : HasLower w (driven_chains s)
  put_lower = let t = told s w (EndpointPut k e) is.next in let h = has_lower s in record {
    policies = λ d j there. h.policies d j (t.policies j there);
    profiles = λ d j there. h.profiles d j (t.profiles j there);
  }

  pub endpoint_put_writable : CanBeWritten driver.tables.sets driver.tables.chains (endpoint_chains (k, e))
  endpoint_put_writable =
      of_driven (λ t. CanBeWritten t.sets t.chains (endpoint_chains (k, e))) driver s drives
      (endpoint_writable w s.sets (driven_chains s) k e put_lower (is.to.closed.endpoints k e wanted))

  abbrev after : View
  after = with_endpoint s w k

  pub keys_after_put : HasKeys (set.insert driver.dispatch k) (step s w).endpoints
  keys_after_put j =
      keys_put driver.dispatch s.endpoints w.endpoints k e drives.interfaces wanted j
      ∙ ap (λ (v : View). maps.contains_key v.endpoints j) (sym (stepped s w (EndpointPut k e) is.next))

  after_closed : IsClosedView after
  after_closed = step-closed s w is.from.closed is.to.closed (EndpointPut k e) is.next

  abbrev written : Chains
  written = extended (driven_chains s) (endpoint_chains (k, e))

  -- the tables with the endpoint's chains hold the tree as it was
  pub put_holds : (t : Tables) → t ≡ record driver.tables { chains = extended driver.tables.chains (endpoint_chains (k, e)) } → HoldsTree (set.items driver.dispatch) t.chains
  put_holds t first =
      subst (λ (u : Tables). HoldsTree (set.items driver.dispatch) u.chains)
      (sym (first ∙ ap (λ (u : Tables). record u { chains = extended u.chains (endpoint_chains (k, e)) }) drives.tables))
      (holds_tree s after after_closed written (endpoint_written s w k e wanted) driver.dispatch drives.interfaces)

  module _ (t : Tables) (first : t ≡ record driver.tables { chains = extended driver.tables.chains (endpoint_chains (k, e)) }) (new : Names) (more : new ≡ set.insert driver.dispatch k) (writes : plans.Writes) (deletes : List ChainName) where
    written_is : t ≡ record { sets = s.sets; chains = written }
    written_is = first ∙ ap (λ (u : Tables). record u { chains = extended u.chains (endpoint_chains (k, e)) }) drives.tables

    new_keys : HasKeys new after.endpoints
    new_keys j = ap (λ (n : Names). set.contains n j) more ∙ keys_put driver.dispatch s.endpoints w.endpoints k e drives.interfaces wanted j

    pub put_plan_writable : Replaces driver.dispatch new writes deletes → AreWritable driver.dispatch new writes → CanBeWritten t.sets t.chains writes
    put_plan_writable replaces writable =
        subst (λ (u : Tables). CanBeWritten u.sets u.chains writes) (sym written_is)
        (writable s.sets written
        (holds_tree s after after_closed written (endpoint_written s w k e wanted) driver.dispatch drives.interfaces)
        (ends_there s after after_closed written (endpoint_written s w k e wanted) driver.dispatch drives.interfaces after.endpoints new writes deletes new_keys replaces (λ j h. h)))

    pub put_plan_unused : AreDeletable driver.dispatch writes deletes → CanBeDeleted (extended t.chains writes) deletes
    put_plan_unused deletable =
        subst (λ (u : Tables). CanBeDeleted (extended u.chains writes) deletes) (sym written_is)
        (deletable written
        (holds_tree s after after_closed written (endpoint_written s w k e wanted) driver.dispatch drives.interfaces)
        (others_elsewhere s after after_closed written (endpoint_written s w k e wanted) driver.dispatch drives.interfaces))

    pub put_driven : (u : Tables) → Replaces driver.dispatch new writes deletes → u ≡ record t { chains = applied writes deletes t.chains } → Drives (record driver { tables = u; dispatch = new }) (step s w)
    put_driven u replaces last =
        let to = sym (stepped s w (EndpointPut k e) is.next) in
        record {
          tables = last ∙ ap (λ (x : Tables). record x { chains = applied writes deletes x.chains }) written_is
              ∙ ap (λ (m : Chains). record { sets = s.sets; chains = m })
              (whole_again after (applied writes deletes written)
              (planned s after after_closed written (endpoint_written s w k e wanted) driver.dispatch drives.interfaces after.endpoints new writes deletes new_keys replaces))
              ∙ ap tables_of to;
          interfaces = λ j. new_keys j ∙ ap (λ (v : View). maps.contains_key v.endpoints j) to;
        }

module _ (driver : Driver) (s w : View) (drives : Drives driver s) (k : List ℕ) (is : IsStep s w (EndpointGone k)) where
  gone : maps.get w.endpoints k ≡ None
  gone = (told s w (EndpointGone k) is.next).gone

  pub endpoint_gone_short : length k ≤ 15
  endpoint_gone_short = by_value (maps.get s.endpoints k) (told s w (EndpointGone k) is.next).there (λ e at. short_name k e (formed_endpoint s is.from.formed k e at))

  abbrev left : View
  left = with_endpoint s w k

  pub keys_after_gone : HasKeys (set.remove driver.dispatch k) (step s w).endpoints
  keys_after_gone j =
      keys_gone driver.dispatch s.endpoints w.endpoints k drives.interfaces gone j
      ∙ ap (λ (v : View). maps.contains_key v.endpoints j) (sym (stepped s w (EndpointGone k) is.next))

  pub gone_holds : HoldsTree (set.items driver.dispatch) driver.tables.chains
  gone_holds =
      of_driven (λ t. HoldsTree (set.items driver.dispatch) t.chains) driver s drives
      (holds_tree s s is.from.closed (driven_chains s) (own_tree s) driver.dispatch drives.interfaces)

  module _ (new : Names) (fewer : new ≡ set.remove driver.dispatch k) (writes : plans.Writes) (deletes : List ChainName) where
    left_names : HasKeys new left.endpoints
    left_names j = ap (λ (n : Names). set.contains n j) fewer ∙ keys_gone driver.dispatch s.endpoints w.endpoints k drives.interfaces gone j

    pub gone_plan_writable : Replaces driver.dispatch new writes deletes → AreWritable driver.dispatch new writes → CanBeWritten driver.tables.sets driver.tables.chains writes
    gone_plan_writable replaces writable =
        of_driven (λ t. CanBeWritten t.sets t.chains writes) driver s drives
        (writable s.sets (driven_chains s)
        (holds_tree s s is.from.closed (driven_chains s) (own_tree s) driver.dispatch drives.interfaces)
        (ends_there s s is.from.closed (driven_chains s) (own_tree s) driver.dispatch drives.interfaces left.endpoints new writes deletes left_names replaces (left_within s w k gone)))

    pub gone_plan_unused : AreDeletable driver.dispatch writes deletes → CanBeDeleted (extended driver.tables.chains writes) deletes
    gone_plan_unused deletable =
        of_driven (λ t. CanBeDeleted (extended t.chains writes) deletes) driver s drives
        (deletable (driven_chains s)
        (holds_tree s s is.from.closed (driven_chains s) (own_tree s) driver.dispatch drives.interfaces)
        (others_elsewhere s s is.from.closed (driven_chains s) (own_tree s) driver.dispatch drives.interfaces))

    module _ (t : Tables) (replaces : Replaces driver.dispatch new writes deletes) (first : t ≡ record driver.tables { chains = applied writes deletes driver.tables.chains }) where
      planned_is : t ≡ record { sets = s.sets; chains = applied writes deletes (driven_chains s) }
      planned_is = first ∙ ap (λ (u : Tables). record u { chains = applied writes deletes u.chains }) drives.tables

      has_left : HasTree s (left_keys s w k gone) (applied writes deletes (driven_chains s))
      has_left = planned s s is.from.closed (driven_chains s) (own_tree s) driver.dispatch drives.interfaces left.endpoints new writes deletes left_names replaces

      pub gone_unused : (d : Direction) → NoneLeadsTo t.chains (endpoint_chain d k)
      gone_unused d = subst (λ (u : Tables). NoneLeadsTo u.chains (endpoint_chain d k)) (sym planned_is) (endpoint_unused s w k gone is.from.closed (applied writes deletes (driven_chains s)) has_left d)

      pub gone_driven : (u : Tables) → u ≡ record t { chains = maps.remove (maps.remove t.chains (endpoint_chain Ingress k)) (endpoint_chain Egress k) } → Drives (record driver { tables = u; dispatch = new }) (step s w)
      gone_driven u last =
          let to = sym (stepped s w (EndpointGone k) is.next) in
          record {
            tables = last ∙ ap (λ (x : Tables). record x { chains = maps.remove (maps.remove x.chains (endpoint_chain Ingress k)) (endpoint_chain Egress k) }) planned_is
                ∙ ap (λ (m : Chains). record { sets = s.sets; chains = m }) (endpoint_deleted s w k gone is.from.closed (applied writes deletes (driven_chains s)) has_left)
                ∙ ap tables_of to;
            interfaces = λ j. left_names j ∙ ap (λ (v : View). maps.contains_key v.endpoints j) to;
          }
