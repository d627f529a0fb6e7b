-- Which chains and sets the rules of a view's chains don't name.
use Rattle.std.proofs.Common.{◌≡◌, ◌≢◌, ℕ, Bool, true, false, cond, List, [], ◌∷◌, ◌++◌, map, filter, Option, Some, None, is_some, option_map, refl, sym, ap, ◌∙◌, subst}
use Rattle.std.specs.Prelude.{if◌then◌else◌}
use Rattle.std.specs.List.{AllByRecursion, flat_map}
use Rattle.std.specs.Ordering.{nat_cmp}
use Rattle.std.specs.Cmp.Lexicographic.{slice_cmp}
use Rattle.std.specs.declared.cmp.Ordering.TheVariants.{Less, Equal, Greater}
use Rattle.std.specs.Ordering.{eq_by_cmp}
use Rattle.std.specs.FinMap as maps
use Rattle.std.specs.FinMap.{put, find}
use Rattle.std.specs.FinMap.Entries.{by_order}
use Rattle.fx_base.proofs.AtKey.{get_empty}
use Rattle.fx_base.proofs.ExtendedKeys.{at_extended}
use Rattle.fx_model.specs.declared.chain.Match.{Match}
use Rattle.fx_model.specs.declared.chain.Match.TheVariants as match
use Rattle.fx_model.specs.declared.chain.Target.{Target}
use Rattle.fx_model.specs.declared.chain.Target.TheVariants as target
use Rattle.fx_model.specs.declared.chain.ChainRule.{ChainRule}
use Rattle.fx_model.specs.declared.view.View.{View}
use Rattle.fx_model.specs.declared.view.ViewEndpoint.{ViewEndpoint}
use Rattle.fx_model.specs.declared.view.ViewPolicy.{ViewPolicy}
use Rattle.fx_model.specs.declared.view.ViewProfile.{ViewProfile}
use Rattle.fx_model.specs.Directions.{Direction, Ingress, Egress}
use Rattle.fx_model.specs.Tables.{ChainName, Chains, Sets, policy_rules, profile_rules, endpoint_chain, endpoint_rules, forward_rules, root_of, dispatch_rules}
use Rattle.fx_model.specs.Closed.{LeadsThere, AllLeadThere, NamesThere, MatchesNameThere, AllNameThere}
use Rattle.fx_tables.specs.Leads.{LeadsElsewhere, AllLeadElsewhere}
use Rattle.fx_tables.specs.Names.{NamesElse, MatchesNameElse, AllNameElse}
use Rattle.fx_model.specs.Tree.{Branch, child_chain, child_entry, children, chains_towards, dispatch_chains_of, branches, shared_prefix, next_byte, names_found, has_child, own_rule, prefix_rule, branch_rules, root_rules}
use Rattle.fx_model.specs.Tree.{tree_of}
use Rattle.fx_driver.specs.Driven.{driven_chains}
use Rattle.fx_laws.specs.DispatchNames.{is_dispatch}
use Rattle.fx_laws.proofs.NamesApart.{by_name}
use Rattle.fx_laws.proofs.Uses.{all-append}
use Rattle.fx_laws.proofs.TablesAt.{policy_at, profile_at, endpoint_at, dispatch_at, first_at, nothing_at}

-- ---- what is absent is not named

absent_there : {X A : Type 0} (o : Option X) → o ≡ None → is_some o ≡ true → A
absent_there None e h = cc
absent_there (Some x) e h = cc

module _ (chains : Chains) (n : ChainName) (absent : maps.get chains n ≡ None) where
  other_chain : (to : ChainName) → maps.contains_key chains to ≡ true → to ≢ n
  other_chain to there same = absent_there (maps.get chains n) absent (ap (λ (q : ChainName). maps.contains_key chains q) (sym same) ∙ there)

  target_elsewhere : (t : Target) → LeadsThere chains t → LeadsElsewhere n t
  target_elsewhere target.Accept h = tt
  target_elsewhere target.Drop h = tt
  target_elsewhere target.Return h = tt
  target_elsewhere (target.Jump to) h = other_chain to h
  target_elsewhere (target.Goto to) h = other_chain to h
  target_elsewhere (target.Mark value mask) h = tt
  target_elsewhere target.Log h = tt

  -- rules that lead to chains that are there lead elsewhere than to one that isn't
  pub there_elsewhere : (rs : List ChainRule) → AllLeadThere chains rs → AllLeadElsewhere n rs
  there_elsewhere [] h = tt
  there_elsewhere (r ∷ rs) h = (target_elsewhere r.target h.0, there_elsewhere rs h.1)

module _ (sets : Sets) (n : List ℕ) (absent : maps.get sets n ≡ None) where
  other_set : (name : List ℕ) → maps.contains_key sets name ≡ true → name ≢ n
  other_set name there same = absent_there (maps.get sets n) absent (ap (λ (q : List ℕ). maps.contains_key sets q) (sym same) ∙ there)

  match_else : (m : Match) → NamesThere sets m → NamesElse n m
  match_else (match.Proto proto opposite) h = tt
  match_else (match.Net end net opposite) h = tt
  match_else (match.Iface end name wild) h = tt
  match_else (match.Mark value mask) h = tt
  match_else (match.State related_established) h = tt
  match_else (match.Set end name opposite) h = other_set name h
  match_else (match.Ports end list opposite) h = tt
  match_else (match.Icmp icmp opposite) h = tt

  matches_else : (ms : List Match) → MatchesNameThere sets ms → MatchesNameElse n ms
  matches_else [] h = tt
  matches_else (m ∷ ms) h = (match_else m h.0, matches_else ms h.1)

  -- rules that name sets that are there name none that isn't
  pub named_else : (rs : List ChainRule) → AllNameThere sets rs → AllNameElse n rs
  named_else [] h = tt
  named_else (r ∷ rs) h = (matches_else r.matches h.0, named_else rs h.1)

-- ---- what holds of the rules of each kind of chain holds of those of all

nothing : {A : Type 0} (rules : List ChainRule) → None ≡ Some rules → A
nothing rules e = cc

of_value : {Y : Type 0} (P : List ChainRule → Type 0) (f : Y → List ChainRule) (o : Option Y) (rules : List ChainRule) → ((y : Y) → o ≡ Some y → P (f y)) → option_map f o ≡ Some rules → P rules
of_value P f None rules h e = nothing rules e
of_value P f (Some y) rules h e = let is : f y ≡ rules = cc in subst P is (h y refl)

pub record RuleCases (v : View) (names : List (List ℕ)) (P : List ChainRule → Type 0) : Type 0 where
  pub policies : (d : Direction) (k : List ℕ) (p : ViewPolicy) → maps.get v.policies k ≡ Some p → P (policy_rules d p)
  pub profiles : (d : Direction) (k : List ℕ) (p : ViewProfile) → maps.get v.profiles k ≡ Some p → P (profile_rules d p)
  pub endpoints : (d : Direction) (k : List ℕ) (e : ViewEndpoint) → maps.get v.endpoints k ≡ Some e → P (endpoint_rules d e)
  pub tree : AllByRecursion (λ e. P e.1) (dispatch_chains_of names)
  pub first : P forward_rules

-- chains that are a view's, but with the tree of these interfaces
pub record HasTree (v : View) (names : List (List ℕ)) (chains : Chains) : Type 0 where
  pub tree : (q : ChainName) → is_dispatch q ≡ true → maps.get chains q ≡ maps.get (tree_of names) q
  pub others : (q : ChainName) → is_dispatch q ≡ false → maps.get chains q ≡ maps.get (driven_chains v) q

pub own_tree : (v : View) → HasTree v (maps.keys v.endpoints) (driven_chains v)
own_tree v = record { tree = dispatch_at v; others = λ q h. refl }

in_tree : (names : List (List ℕ)) (P : List ChainRule → Type 0) → AllByRecursion (λ e. P e.1) (dispatch_chains_of names) → (q : ChainName) (rules : List ChainRule) → maps.get (tree_of names) q ≡ Some rules → P rules
in_tree names P all q rules is = at_extended (λ k rs. P rs) maps.empty (dispatch_chains_of names) (λ k rs e. nothing rs (sym (get_empty k) ∙ e)) all q rules is

pub view_rules : (v : View) (names : List (List ℕ)) (P : List ChainRule → Type 0) → RuleCases v names P → (q : ChainName) → is_dispatch q ≡ false → (rules : List ChainRule) → maps.get (driven_chains v) q ≡ Some rules → P rules
view_rules v names P cases = by_name (λ q. is_dispatch q ≡ false → (rules : List ChainRule) → maps.get (driven_chains v) q ≡ Some rules → P rules) (record {
  policies = λ d k _ rules is. of_value P (policy_rules d) (maps.get v.policies k) rules (cases.policies d k) (sym (policy_at v d k) ∙ is);
  profiles = λ d k _ rules is. of_value P (profile_rules d) (maps.get v.profiles k) rules (cases.profiles d k) (sym (profile_at v d k) ∙ is);
  endpoints = λ d k _ rules is. of_value P (endpoint_rules d) (maps.get v.endpoints k) rules (cases.endpoints d k) (sym (endpoint_at v d k) ∙ is);
  dispatch = λ q h none rules is. absurd (both_ways (sym h ∙ none));
  first = λ _ rules is. same_rules rules (sym (first_at v) ∙ is);
  «else» = λ q h _ rules is. nothing rules (sym (nothing_at v q h) ∙ is);
})
  where
    both_ways : true ≡ false → ⊥
    both_ways e = cc

    same_rules : (rules : List ChainRule) → Some forward_rules ≡ Some rules → P rules
    same_rules rules e = let is : forward_rules ≡ rules = some_same forward_rules rules e in subst P is cases.first
      where
        some_same : (x y : List ChainRule) → Some x ≡ Some y → x ≡ y
        some_same x y e = cc

pub all_rules : (v : View) (names : List (List ℕ)) (chains : Chains) (P : List ChainRule → Type 0) → HasTree v names chains → RuleCases v names P → (q : ChainName) (rules : List ChainRule) → maps.get chains q ≡ Some rules → P rules
all_rules v names chains P has cases q rules is = by_test (is_dispatch q) refl
  where
    by_test : (b : Bool) → is_dispatch q ≡ b → P rules
    by_test true h = in_tree names P cases.tree q rules (sym (has.tree q h) ∙ is)
    by_test false h = view_rules v names P cases q h rules (sym (has.others q h) ∙ is)

-- ---- the rules of a tree

-- each name in the branches is one of the names
module _ (Q : List ℕ → Type 0) where
  abbrev AllIn : List Branch → Type 0
  AllIn bs = AllByRecursion (λ b. AllByRecursion Q b.1) bs

  put_all : (byte : List ℕ) (names : List (List ℕ)) (bs : List Branch) → AllByRecursion Q names → AllIn bs → AllIn (put (slice_cmp nat_cmp) byte names bs)
  put_all byte names [] h g = (h, tt)
  put_all byte names (b ∷ bs) h g =
      elim (slice_cmp nat_cmp byte b.0) as (λ r. AllIn (by_order r ((byte, names) ∷ b ∷ bs) ((b.0, names) ∷ bs) (b ∷ put (slice_cmp nat_cmp) byte names bs))) [
        | Less ↦ (h, g)
        | Equal ↦ (h, g.1)
        | Greater ↦ (g.0, put_all byte names bs h g.1)
      ]

  found_all : (byte : List ℕ) (bs : List Branch) → AllIn bs → AllByRecursion Q (names_found (find (slice_cmp nat_cmp) byte bs))
  found_all byte [] g = tt
  found_all byte (b ∷ bs) g =
      elim (eq_by_cmp (slice_cmp nat_cmp) byte b.0) as (λ t. AllByRecursion Q (names_found (cond t (Some b.1) (find (slice_cmp nat_cmp) byte bs)))) [
        | true ↦ g.0
        | false ↦ found_all byte bs g.1
      ]

  branches_all : (shared : List ℕ) (names : List (List ℕ)) → AllByRecursion Q names → AllIn (branches shared names)
  branches_all shared [] h = tt
  branches_all shared (name ∷ names) h =
      let rest = branches_all shared names h.1 in
      put_all (next_byte shared name) (name ∷ names_found (find (slice_cmp nat_cmp) (next_byte shared name) (branches shared names))) (branches shared names)
      (h.0, found_all (next_byte shared name) (branches shared names) rest) rest

  filtered_all : (bs : List Branch) → AllIn bs → AllIn (filter (λ b. has_child b.0 b.1) bs)
  filtered_all [] g = tt
  filtered_all (b ∷ bs) g =
      elim (has_child b.0 b.1) as (λ t. AllIn (cond t (b ∷ filter (λ b. has_child b.0 b.1) bs) (filter (λ b. has_child b.0 b.1) bs))) [
        | true ↦ (g.0, filtered_all bs g.1)
        | false ↦ filtered_all bs g.1
      ]

-- a property of rules that holds of each own rule, each prefix rule and the drop
pub record TreeCases (Q : List ℕ → Type 0) (P : List ChainRule → Type 0) : Type 0 where
  pub dispatch : (d : Direction) (names : List (List ℕ)) → AllByRecursion Q names → P (dispatch_rules d names)
  pub branch : (d : Direction) (shared : List ℕ) (b : Branch) → AllByRecursion Q b.1 → P (branch_rules d shared b)
  pub empty : P []
  pub append : (xs ys : List ChainRule) → P xs → P ys → P (xs ++ ys)

module _ (Q : List ℕ → Type 0) (P : List ChainRule → Type 0) (cases : TreeCases Q P) where
  flat_all : (d : Direction) (shared : List ℕ) (bs : List Branch) → AllByRecursion (λ b. AllByRecursion Q b.1) bs → P (flat_map (branch_rules d shared) bs)
  flat_all d shared [] h = cases.empty
  flat_all d shared (b ∷ bs) h = cases.append (branch_rules d shared b) (flat_map (branch_rules d shared) bs) (cases.branch d shared b h.0) (flat_all d shared bs h.1)

  children_all : (d : Direction) (bs : List Branch) → AllByRecursion (λ b. AllByRecursion Q b.1) bs → AllByRecursion (λ e. P e.1) (map (child_entry d) bs)
  children_all d [] h = tt
  children_all d (b ∷ bs) h = (cases.dispatch d b.1 h.0, children_all d bs h.1)

  towards_all : (d : Direction) (names : List (List ℕ)) → AllByRecursion Q names → AllByRecursion (λ e. P e.1) (chains_towards d names)
  towards_all d names h =
      let all = branches_all Q (shared_prefix names) names h in
      all-append (λ e. P e.1) (map (child_entry d) (children names)) ((root_of d, root_rules d names) ∷ [])
      (children_all d (children names) (filtered_all Q (branches (shared_prefix names) names) all))
      (cases.append (flat_map (branch_rules d (shared_prefix names)) (branches (shared_prefix names) names)) (dispatch_rules d []) (flat_all d (shared_prefix names) (branches (shared_prefix names) names) all) (cases.dispatch d [] tt), tt)

  pub tree_all : (names : List (List ℕ)) → AllByRecursion Q names → AllByRecursion (λ e. P e.1) (dispatch_chains_of names)
  tree_all names h = all-append (λ e. P e.1) (chains_towards Ingress names) (chains_towards Egress names) (towards_all Ingress names h) (towards_all Egress names h)

-- ---- a tree leads to the chains of its interfaces' endpoints, and to its own

module _ (n : ChainName) (no_child : (d : Direction) (byte : List ℕ) → child_chain d byte ≢ n) where
  abbrev IsOther : List ℕ → Type 0
  IsOther name = (d : Direction) → endpoint_chain d name ≢ n

  own_elsewhere : (d : Direction) (names : List (List ℕ)) → AllByRecursion IsOther names → AllLeadElsewhere n (map (own_rule d) names)
  own_elsewhere d [] h = tt
  own_elsewhere d (name ∷ names) h = (h.0 d, own_elsewhere d names h.1)

  dispatch_elsewhere : (d : Direction) (names : List (List ℕ)) → AllByRecursion IsOther names → AllLeadElsewhere n (dispatch_rules d names)
  dispatch_elsewhere d [] h = (tt, tt)
  dispatch_elsewhere d (name ∷ names) h = (h.0 d, dispatch_elsewhere d names h.1)

  branch_elsewhere : (d : Direction) (shared : List ℕ) (b : Branch) → AllByRecursion IsOther b.1 → AllLeadElsewhere n (branch_rules d shared b)
  branch_elsewhere d shared b h =
      elim (has_child b.0 b.1) as (λ t. AllLeadElsewhere n (if t then prefix_rule d (shared ++ b.0) b.0 ∷ [] else map (own_rule d) b.1)) [ true ↦ (no_child d b.0, tt) | false ↦ own_elsewhere d b.1 h ]

  append_elsewhere : (xs ys : List ChainRule) → AllLeadElsewhere n xs → AllLeadElsewhere n ys → AllLeadElsewhere n (xs ++ ys)
  append_elsewhere [] ys g h = h
  append_elsewhere (x ∷ xs) ys g h = (g.0, append_elsewhere xs ys g.1 h)

  pub tree_elsewhere : (names : List (List ℕ)) → AllByRecursion IsOther names → AllByRecursion (λ e. AllLeadElsewhere n e.1) (dispatch_chains_of names)
  tree_elsewhere = tree_all IsOther (AllLeadElsewhere n) (record { dispatch = dispatch_elsewhere; branch = branch_elsewhere; empty = tt; append = append_elsewhere })

-- ---- a tree names no set

module _ (n : List ℕ) where
  own_no_set : (d : Direction) (names : List (List ℕ)) → AllNameElse n (map (own_rule d) names)
  own_no_set d [] = tt
  own_no_set d (name ∷ names) = ((tt, tt), own_no_set d names)

  dispatch_no_set : (d : Direction) (names : List (List ℕ)) → AllNameElse n (dispatch_rules d names)
  dispatch_no_set d [] = (tt, tt)
  dispatch_no_set d (name ∷ names) = ((tt, tt), dispatch_no_set d names)

  branch_no_set : (d : Direction) (shared : List ℕ) (b : Branch) → AllNameElse n (branch_rules d shared b)
  branch_no_set d shared b =
      elim (has_child b.0 b.1) as (λ t. AllNameElse n (if t then prefix_rule d (shared ++ b.0) b.0 ∷ [] else map (own_rule d) b.1)) [ true ↦ ((tt, tt), tt) | false ↦ own_no_set d b.1 ]

  append_no_set : (xs ys : List ChainRule) → AllNameElse n xs → AllNameElse n ys → AllNameElse n (xs ++ ys)
  append_no_set [] ys g h = h
  append_no_set (x ∷ xs) ys g h = (g.0, append_no_set xs ys g.1 h)

  any_names : (names : List (List ℕ)) → AllByRecursion (λ (name : List ℕ). Unit {0}) names
  any_names [] = tt
  any_names (name ∷ names) = (tt, any_names names)

  pub tree_no_set : (names : List (List ℕ)) → AllByRecursion (λ e. AllNameElse n e.1) (dispatch_chains_of names)
  tree_no_set names =
      tree_all (λ (name : List ℕ). Unit {0}) (AllNameElse n) (record { dispatch = λ d names h. dispatch_no_set d names; branch = λ d shared b h. branch_no_set d shared b; empty = tt; append = append_no_set }) names (any_names names)
