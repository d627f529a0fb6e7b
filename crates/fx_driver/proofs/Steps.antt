-- What each kind of message asks of a driver's tables, and what it makes of them: sets, policies and profiles.
use Rattle.std.proofs.Common.{◌≡◌, ◌≢◌, ◌≤◌, ℕ, true, false, List, [], ◌∷◌, length, Option, Some, None, is_some, option_map, refl, sym, ap, ◌∙◌, subst}
use Rattle.std.specs.List.{AllByRecursion}
use Rattle.std.proofs.lemmas.Bool.{leb-true}
use Rattle.std.specs.Cmp.Lexicographic.{nat_list_cmp_total}
use Rattle.std.specs.FinMap as maps
use Rattle.fx_base.specs.Extended.{extended, put_or_removed}
use Rattle.fx_base.specs.Same.{both_pass}
use Rattle.fx_base.specs.Set as set
use Rattle.fx_base.proofs.AtKey.{get_empty}
use Rattle.fx_base.proofs.KeyCases.{bytes_exact}
use Rattle.fx_model.specs.declared.member.Member.{Member}
use Rattle.fx_model.specs.declared.view.View.{View}
use Rattle.fx_model.specs.declared.view.ViewPolicy.{ViewPolicy}
use Rattle.fx_model.specs.declared.view.ViewProfile.{ViewProfile}
use Rattle.fx_model.specs.declared.view_rule.ViewRule.{ViewRule}
use Rattle.fx_model.specs.Directions.{Direction, Ingress, Egress}
use Rattle.fx_model.specs.Closed.{AreThere, NameSets, IsClosedView, sets_of_rules}
use Rattle.fx_model.specs.Formed.{is_formed_view_profile, is_formed_view}
use Rattle.fx_model.specs.Messages.{Named, Members, members_of, Change, SetAdd, SetDelta, PolicyPut, ProfilePut, ProfileGone, PolicyGone, SetGone, next_message, step, step_by, step_at}
use Rattle.fx_model.specs.Shapes.{is_member_of}
use Rattle.fx_model.specs.Tables.{ChainName, Chains, Sets, policy_chain, profile_chain, policy_rules, profile_rules, policy_side, profile_side, endpoint_chain, endpoint_rules, forward, root_of}
use Rattle.fx_model.specs.ViewTables.{policy_chains, profile_chains}
use Rattle.fx_model.specs.Writing.{CanBeWritten}
use Rattle.fx_tables.specs.Leads.{AllLeadElsewhere, NoneLeadsTo}
use Rattle.fx_tables.specs.Names.{AllNameElse, NoneNames}
use Rattle.fx_laws.proofs.Removing.{found_passes}
use Rattle.fx_laws.proofs.StepClosed.{step-closed}
use Rattle.fx_model.specs.Tree.{child_chain}
use Rattle.fx_model.specs.ViewTables.{tables_of}
use Rattle.fx_driver.specs.Driven.{driven_chains}
use Rattle.fx_driver.specs.Stepping.{IsStep}
use Rattle.fx_driver.specs.Members.{AreNew, AreHeld, with_members, without_members}
use Rattle.fx_dispatch.proofs.Once.{apart}
use Rattle.fx_laws.proofs.TablesAt.{policy_at, profile_at}
use Rattle.fx_driver.proofs.Stepped.{with_policy, with_profile, with_set, policy_step, profile_step, taken_here}
use Rattle.fx_driver.proofs.SetMembers.{between, items_new, items_whole, items_are, all_filtered, added_new, gone_held, changed_whole}
use Rattle.fx_driver.proofs.Told.{told, by_value, KeysAreThere}
use Rattle.fx_laws.proofs.Leads.{HasLower, policy_lead, profile_lead, endpoint_lead, policy_writable, profile_writable}
use Rattle.fx_driver.proofs.Elsewhere.{there_elsewhere, named_else, own_tree, all_rules, tree_elsewhere, tree_no_set}

-- ---- what the message tells

pub stepped : (s w : View) (c : Change) → next_message s w ≡ Some c → step s w ≡ step_at c s w
stepped s w c is = ap (λ o. step_by o s w) is

keys_there : {X : Type 0} (m n : Named X) → KeysAreThere n m → (ks : List (List ℕ)) → AreThere n ks → AreThere m ks
keys_there m n kept [] h = tt
keys_there m n kept (k ∷ ks) h = (kept k h.0, keys_there m n kept ks h.1)

names_there : (m n : Sets) → KeysAreThere n m → (rules : List ViewRule) → NameSets n rules → NameSets m rules
names_there m n kept rules h = record { there = keys_there m n kept (sets_of_rules rules) h.there; kinds = h.kinds }

-- rules that lead nowhere lead elsewhere, and a policy's and a profile's do
pub policy_elsewhere : (s : View) → IsClosedView s → (n : ChainName) (d : Direction) (k : List ℕ) (p : ViewPolicy) → maps.get s.policies k ≡ Some p → AllLeadElsewhere n (policy_rules d p)
policy_elsewhere s closed n d k p is = there_elsewhere maps.empty n (get_empty n) (policy_rules d p) (policy_lead s.sets maps.empty 0 d p (closed.policies d k p is)).there

pub profile_elsewhere : (s : View) → IsClosedView s → (n : ChainName) (d : Direction) (k : List ℕ) (p : ViewProfile) → maps.get s.profiles k ≡ Some p → AllLeadElsewhere n (profile_rules d p)
profile_elsewhere s closed n d k p is = there_elsewhere maps.empty n (get_empty n) (profile_rules d p) (profile_lead s.sets maps.empty 0 d p (closed.profiles d k p is)).there

-- a view's chains have those of its policies and profiles
policies_there : {X Y : Type 0} (f : X → Y) (o : Option X) → is_some o ≡ true → is_some (option_map f o) ≡ true
policies_there f None h = cc
policies_there f (Some x) h = refl

pub has_lower : (v : View) → HasLower v (driven_chains v)
has_lower v = record {
  policies = λ d k h. ap is_some (policy_at v d k) ∙ policies_there (policy_rules d) (maps.get v.policies k) h;
  profiles = λ d k h. ap is_some (profile_at v d k) ∙ policies_there (profile_rules d) (maps.get v.profiles k) h;
}

-- ---- names of chains

pub first_no_policy : (d : Direction) (k : List ℕ) → forward ≢ policy_chain d k
first_no_policy Ingress k = apart forward (policy_chain Ingress k) refl
first_no_policy Egress k = apart forward (policy_chain Egress k) refl

pub first_no_profile : (d : Direction) (k : List ℕ) → forward ≢ profile_chain d k
first_no_profile Ingress k = apart forward (profile_chain Ingress k) refl
first_no_profile Egress k = apart forward (profile_chain Egress k) refl

pub first_no_endpoint : (d : Direction) (k : List ℕ) → forward ≢ endpoint_chain d k
first_no_endpoint Ingress k = apart forward (endpoint_chain Ingress k) refl
first_no_endpoint Egress k = apart forward (endpoint_chain Egress k) refl

-- a chain of a policy or a profile is none that a tree leads to
pub record IsLow (n : ChainName) : Type 0 where
  pub roots : (d : Direction) → root_of d ≢ n
  pub children : (d : Direction) (byte : List ℕ) → child_chain d byte ≢ n
  pub endpoints : (d : Direction) (k : List ℕ) → endpoint_chain d k ≢ n

policy_low : (d : Direction) (k : List ℕ) → IsLow (policy_chain d k)
policy_low Ingress k = record {
  roots = λ e. elim e as (λ e. root_of e ≢ policy_chain Ingress k) [ Ingress ↦ apart (root_of Ingress) (policy_chain Ingress k) refl | Egress ↦ apart (root_of Egress) (policy_chain Ingress k) refl ];
  children = λ e b. elim e as (λ e. child_chain e b ≢ policy_chain Ingress k) [ Ingress ↦ apart (child_chain Ingress b) (policy_chain Ingress k) refl | Egress ↦ apart (child_chain Egress b) (policy_chain Ingress k) refl ];
  endpoints = λ e j. elim e as (λ e. endpoint_chain e j ≢ policy_chain Ingress k) [ Ingress ↦ apart (endpoint_chain Ingress j) (policy_chain Ingress k) refl | Egress ↦ apart (endpoint_chain Egress j) (policy_chain Ingress k) refl ];
}
policy_low Egress k = record {
  roots = λ e. elim e as (λ e. root_of e ≢ policy_chain Egress k) [ Ingress ↦ apart (root_of Ingress) (policy_chain Egress k) refl | Egress ↦ apart (root_of Egress) (policy_chain Egress k) refl ];
  children = λ e b. elim e as (λ e. child_chain e b ≢ policy_chain Egress k) [ Ingress ↦ apart (child_chain Ingress b) (policy_chain Egress k) refl | Egress ↦ apart (child_chain Egress b) (policy_chain Egress k) refl ];
  endpoints = λ e j. elim e as (λ e. endpoint_chain e j ≢ policy_chain Egress k) [ Ingress ↦ apart (endpoint_chain Ingress j) (policy_chain Egress k) refl | Egress ↦ apart (endpoint_chain Egress j) (policy_chain Egress k) refl ];
}

profile_low : (d : Direction) (k : List ℕ) → IsLow (profile_chain d k)
profile_low Ingress k = record {
  roots = λ e. elim e as (λ e. root_of e ≢ profile_chain Ingress k) [ Ingress ↦ apart (root_of Ingress) (profile_chain Ingress k) refl | Egress ↦ apart (root_of Egress) (profile_chain Ingress k) refl ];
  children = λ e b. elim e as (λ e. child_chain e b ≢ profile_chain Ingress k) [ Ingress ↦ apart (child_chain Ingress b) (profile_chain Ingress k) refl | Egress ↦ apart (child_chain Egress b) (profile_chain Ingress k) refl ];
  endpoints = λ e j. elim e as (λ e. endpoint_chain e j ≢ profile_chain Ingress k) [ Ingress ↦ apart (endpoint_chain Ingress j) (profile_chain Ingress k) refl | Egress ↦ apart (endpoint_chain Egress j) (profile_chain Ingress k) refl ];
}
profile_low Egress k = record {
  roots = λ e. elim e as (λ e. root_of e ≢ profile_chain Egress k) [ Ingress ↦ apart (root_of Ingress) (profile_chain Egress k) refl | Egress ↦ apart (root_of Egress) (profile_chain Egress k) refl ];
  children = λ e b. elim e as (λ e. child_chain e b ≢ profile_chain Egress k) [ Ingress ↦ apart (child_chain Ingress b) (profile_chain Egress k) refl | Egress ↦ apart (child_chain Egress b) (profile_chain Egress k) refl ];
  endpoints = λ e j. elim e as (λ e. endpoint_chain e j ≢ profile_chain Egress k) [ Ingress ↦ apart (endpoint_chain Ingress j) (profile_chain Egress k) refl | Egress ↦ apart (endpoint_chain Egress j) (profile_chain Egress k) refl ];
}

all_other : (n : ChainName) → IsLow n → (ks : List (List ℕ)) → AllByRecursion (λ k. (d : Direction) → endpoint_chain d k ≢ n) ks
all_other n low [] = tt
all_other n low (k ∷ ks) = (λ d. low.endpoints d k, all_other n low ks)

-- no chain of s leads to n, where r is s without n, and closed
none_leads : (s r : View) → IsClosedView s → IsClosedView r → s.endpoints ≡ r.endpoints → (n : ChainName) → IsLow n → maps.get (driven_chains r) n ≡ None → NoneLeadsTo (driven_chains s) n
none_leads s r closed later same n low absent =
    all_rules s (maps.keys s.endpoints) (driven_chains s) (AllLeadElsewhere n) (own_tree s) (record {
      policies = policy_elsewhere s closed n;
      profiles = profile_elsewhere s closed n;
      endpoints = λ d k e is.
          there_elsewhere (driven_chains r) n absent (endpoint_rules d e)
          (endpoint_lead r r.sets (driven_chains r) (has_lower r) d e (later.endpoints k e (ap (λ (m : Named _). maps.get m k) (sym same) ∙ is))).there;
      tree = tree_elsewhere n low.children (maps.keys s.endpoints) (all_other n low (maps.keys s.endpoints));
      first = (tt, (low.roots Egress, (low.roots Ingress, tt)));
    })

-- ---- policies

module _ (s w : View) (k : List ℕ) (p : ViewPolicy) (is : IsStep s w (PolicyPut k p)) where
  pub policy_put_writable : CanBeWritten s.sets (driven_chains s) (policy_chains (k, p))
  policy_put_writable =
      let t = told s w (PolicyPut k p) is.next in
      policy_writable s.sets (driven_chains s) k p (λ d. names_there s.sets w.sets t.sets (policy_side d p) (is.to.closed.policies d k p t.wanted))

  pub policy_put_tables : record { sets = s.sets; chains = extended (driven_chains s) (policy_chains (k, p)) } ≡ tables_of (step s w)
  policy_put_tables =
      let t = told s w (PolicyPut k p) is.next in
      ap (λ (m : Chains). record { sets = s.sets; chains = m })
      (ap (λ (o : Option ViewPolicy). put_or_removed (put_or_removed (driven_chains s) (policy_chain Ingress k) (option_map (policy_rules Ingress) o)) (policy_chain Egress k) (option_map (policy_rules Egress) o)) (sym t.wanted)
      ∙ sym (policy_step s w k))
      ∙ ap tables_of (sym (stepped s w (PolicyPut k p) is.next))

module _ (s w : View) (k : List ℕ) (is : IsStep s w (PolicyGone k)) where
  policy_absent : (d : Direction) → maps.get (driven_chains (with_policy s w k)) (policy_chain d k) ≡ None
  policy_absent d =
      policy_at (with_policy s w k) d k
      ∙ ap (option_map (policy_rules d)) (taken_here s.policies w.policies k ∙ (told s w (PolicyGone k) is.next).gone)

  pub policy_unused : (d : Direction) → NoneLeadsTo (driven_chains s) (policy_chain d k)
  policy_unused d =
      none_leads s (with_policy s w k) is.from.closed (step-closed s w is.from.closed is.to.closed (PolicyGone k) is.next) refl (policy_chain d k) (policy_low d k) (policy_absent d)

  pub policy_gone_tables : record { sets = s.sets; chains = maps.remove (maps.remove (driven_chains s) (policy_chain Ingress k)) (policy_chain Egress k) } ≡ tables_of (step s w)
  policy_gone_tables =
      let t = told s w (PolicyGone k) is.next in
      ap (λ (m : Chains). record { sets = s.sets; chains = m })
      (ap (λ (o : Option ViewPolicy). put_or_removed (put_or_removed (driven_chains s) (policy_chain Ingress k) (option_map (policy_rules Ingress) o)) (policy_chain Egress k) (option_map (policy_rules Egress) o)) (sym t.gone)
      ∙ sym (policy_step s w k))
      ∙ ap tables_of (sym (stepped s w (PolicyGone k) is.next))

-- ---- profiles

formed_profile : (v : View) → is_formed_view v ≡ true → (k : List ℕ) (p : ViewProfile) → maps.get v.profiles k ≡ Some p → is_formed_view_profile (k, p) ≡ true
formed_profile v formed k p is = found_passes nat_list_cmp_total bytes_exact is_formed_view_profile v.profiles (both_pass _ _ formed).1 k p is

module _ (s w : View) (k : List ℕ) (p : ViewProfile) (is : IsStep s w (ProfilePut k p)) where
  pub profile_put_writable : CanBeWritten s.sets (driven_chains s) (profile_chains (k, p))
  profile_put_writable =
      let t = told s w (ProfilePut k p) is.next in
      profile_writable s.sets (driven_chains s) k p (λ d. names_there s.sets w.sets t.sets (profile_side d p) (is.to.closed.profiles d k p t.wanted))

  pub profile_put_formed : is_formed_view_profile (k, p) ≡ true
  profile_put_formed = formed_profile w is.to.formed k p (told s w (ProfilePut k p) is.next).wanted

  pub profile_put_tables : record { sets = s.sets; chains = extended (driven_chains s) (profile_chains (k, p)) } ≡ tables_of (step s w)
  profile_put_tables =
      let t = told s w (ProfilePut k p) is.next in
      ap (λ (m : Chains). record { sets = s.sets; chains = m })
      (ap (λ (o : Option ViewProfile). put_or_removed (put_or_removed (driven_chains s) (profile_chain Ingress k) (option_map (profile_rules Ingress) o)) (profile_chain Egress k) (option_map (profile_rules Egress) o)) (sym t.wanted)
      ∙ sym (profile_step s w k))
      ∙ ap tables_of (sym (stepped s w (ProfilePut k p) is.next))

module _ (s w : View) (k : List ℕ) (is : IsStep s w (ProfileGone k)) where
  profile_absent : (d : Direction) → maps.get (driven_chains (with_profile s w k)) (profile_chain d k) ≡ None
  profile_absent d =
      profile_at (with_profile s w k) d k
      ∙ ap (option_map (profile_rules d)) (taken_here s.profiles w.profiles k ∙ (told s w (ProfileGone k) is.next).gone)

  pub profile_unused : (d : Direction) → NoneLeadsTo (driven_chains s) (profile_chain d k)
  profile_unused d =
      none_leads s (with_profile s w k) is.from.closed (step-closed s w is.from.closed is.to.closed (ProfileGone k) is.next) refl (profile_chain d k) (profile_low d k) (profile_absent d)

  pub profile_gone_short : length k ≤ 19
  profile_gone_short = by_value (maps.get s.profiles k) (told s w (ProfileGone k) is.next).there (λ p at. leb-true (length k) 19 (formed_profile s is.from.formed k p at))

  pub profile_gone_tables : record { sets = s.sets; chains = maps.remove (maps.remove (driven_chains s) (profile_chain Ingress k)) (profile_chain Egress k) } ≡ tables_of (step s w)
  profile_gone_tables =
      let t = told s w (ProfileGone k) is.next in
      ap (λ (m : Chains). record { sets = s.sets; chains = m })
      (ap (λ (o : Option ViewProfile). put_or_removed (put_or_removed (driven_chains s) (profile_chain Ingress k) (option_map (profile_rules Ingress) o)) (profile_chain Egress k) (option_map (profile_rules Egress) o)) (sym t.gone)
      ∙ sym (profile_step s w k))
      ∙ ap tables_of (sym (stepped s w (ProfileGone k) is.next))

-- ---- sets

set_tables : (s w : View) (k : List ℕ) (c : Change) → step s w ≡ with_set s w k → (o : Option Members) → maps.get w.sets k ≡ o → record { sets = put_or_removed s.sets k o; chains = driven_chains s } ≡ tables_of (step s w)
set_tables s w k c to o is =
    ap (λ (p : Option Members). record { sets = put_or_removed s.sets k p; chains = driven_chains s }) (sym is)
    ∙ ap tables_of (sym to)

module _ (s w : View) (k : List ℕ) (ms : List Member) (is : IsStep s w (SetAdd k ms)) where
  pub set_add_absent : maps.contains_key s.sets k ≡ false
  set_add_absent = (told s w (SetAdd k ms) is.next).absent

  pub set_add_apart : AreNew set.empty ms
  set_add_apart = let t = told s w (SetAdd k ms) is.next in subst (AreNew set.empty) (sym t.listed) (items_new t.members)

  pub set_add_fit : AllByRecursion (λ x. is_member_of k x ≡ true) ms
  set_add_fit =
      let t = told s w (SetAdd k ms) is.next in
      subst (AllByRecursion (λ x. is_member_of k x ≡ true)) (sym t.listed) (items_are t.members (λ x. is_member_of k x ≡ true) (is.to.kinds k t.members t.wanted))

  pub set_add_tables : record { sets = maps.insert s.sets k (with_members set.empty ms); chains = driven_chains s } ≡ tables_of (step s w)
  set_add_tables =
      let t = told s w (SetAdd k ms) is.next in
      ap (λ (m : Members). record { sets = maps.insert s.sets k m; chains = driven_chains s }) (ap (with_members set.empty) t.listed ∙ items_whole t.members)
      ∙ set_tables s w k (SetAdd k ms) (stepped s w (SetAdd k ms) is.next) (Some t.members) t.wanted

module _ (s w : View) (k : List ℕ) (adds removes : List Member) (is : IsStep s w (SetDelta k adds removes)) where
  abbrev before : Members
  before = members_of (maps.get s.sets k)

  pub set_delta_there : maps.contains_key s.sets k ≡ true
  set_delta_there = (told s w (SetDelta k adds removes) is.next).there

  pub set_delta_absent : AreNew before adds
  set_delta_absent = let t = told s w (SetDelta k adds removes) is.next in subst (AreNew before) (sym t.added) (added_new before t.members)

  pub set_delta_fit : AllByRecursion (λ x. is_member_of k x ≡ true) adds
  set_delta_fit =
      let t = told s w (SetDelta k adds removes) is.next in
      subst (AllByRecursion (λ x. is_member_of k x ≡ true)) (sym t.added)
      (all_filtered _ (λ x. is_member_of k x ≡ true) (set.items t.members) (items_are t.members (λ x. is_member_of k x ≡ true) (is.to.kinds k t.members t.wanted)))

  pub set_delta_within : AreHeld (with_members before adds) removes
  set_delta_within =
      let t = told s w (SetDelta k adds removes) is.next in
      subst (λ (xs : List Member). AreHeld (with_members before xs) removes) (sym t.added)
      (subst (AreHeld (between before t.members)) (sym t.removed) (gone_held before t.members))

  pub set_delta_tables : record { sets = maps.insert s.sets k (without_members (with_members before adds) removes); chains = driven_chains s } ≡ tables_of (step s w)
  set_delta_tables =
      let t = told s w (SetDelta k adds removes) is.next in
      ap (λ (m : Members). record { sets = maps.insert s.sets k m; chains = driven_chains s })
      (ap (λ (xs : List Member). without_members (with_members before xs) removes) t.added
      ∙ ap (without_members (between before t.members)) t.removed
      ∙ changed_whole before t.members)
      ∙ set_tables s w k (SetDelta k adds removes) (stepped s w (SetDelta k adds removes) is.next) (Some t.members) t.wanted

module _ (s w : View) (k : List ℕ) (is : IsStep s w (SetGone k)) where
  pub set_unused : NoneNames (driven_chains s) k
  set_unused =
      let t = told s w (SetGone k) is.next in
      all_rules s (maps.keys s.endpoints) (driven_chains s) (AllNameElse k) (own_tree s) (record {
        policies = λ d j p at.
            named_else w.sets k t.gone (policy_rules d p)
            (policy_lead w.sets maps.empty 0 d p (is.to.closed.policies d j p (ap (λ (m : Named ViewPolicy). maps.get m j) (sym t.policies) ∙ at))).named;
        profiles = λ d j p at.
            named_else w.sets k t.gone (profile_rules d p)
            (profile_lead w.sets maps.empty 0 d p (is.to.closed.profiles d j p (ap (λ (m : Named ViewProfile). maps.get m j) (sym t.profiles) ∙ at))).named;
        endpoints = λ d j e at.
            named_else w.sets k t.gone (endpoint_rules d e)
            (endpoint_lead s w.sets (driven_chains s) (has_lower s) d e (is.from.closed.endpoints j e at)).named;
        tree = tree_no_set k (maps.keys s.endpoints);
        first = (tt, ((tt, tt), ((tt, tt), tt)));
      })

  pub set_gone_tables : record { sets = maps.remove s.sets k; chains = driven_chains s } ≡ tables_of (step s w)
  set_gone_tables =
      let t = told s w (SetGone k) is.next in
      set_tables s w k (SetGone k) (stepped s w (SetGone k) is.next) None t.gone
