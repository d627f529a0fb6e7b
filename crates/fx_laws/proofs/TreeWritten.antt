-- The chains of a tree can be written one after another, where the chains of its interfaces' endpoints are there.
use Rattle.std.proofs.Common.{◌≡◌, ◌<◌, ℕ, true, false, List, [], ◌∷◌, ◌++◌, cond, map, filter, is_some, refl, sym, ap, ◌∙◌, subst, arith}
use Rattle.std.specs.Prelude.{if◌then◌else◌}
use Rattle.std.specs.List.{AllByRecursion, flat_map}
use Rattle.std.specs.FinMap as maps
use Rattle.fx_base.specs.Extended.{extended}
use Rattle.fx_base.proofs.KeyCases.{there_insert, there_inserted}
use Rattle.fx_base.proofs.ExtendedKeys.{there_extended}
use Rattle.fx_model.specs.declared.chain.ChainRule.{ChainRule}
use Rattle.fx_model.specs.declared.chain.Reason.TheVariants as reason
use Rattle.fx_model.specs.Directions.{Direction, Ingress, Egress}
use Rattle.fx_model.specs.Tables.{ChainName, Chains, Sets, root_of, endpoint_chain, dispatch_rules}
use Rattle.fx_model.specs.Tree.{Branch, shared_prefix, branches, has_child, children, child_chain, child_entry, own_rule, prefix_rule, branch_rules, root_rules, chains_towards, dispatch_chains_of}
use Rattle.fx_model.specs.Ranks.{rank_of}
use Rattle.fx_model.specs.Shapes.{has_shape}
use Rattle.fx_model.specs.Writing.{IsWritable, CanBeWritten}
use Rattle.fx_laws.proofs.Shaping.{Lead}
use Rattle.fx_laws.proofs.Leads.{tagged_drop, lead_more, lead-append, endpoint_rank, writable}
use Rattle.fx_laws.proofs.Lines.{get-extended}
use Rattle.fx_laws.proofs.TreeAt.{tree-root-among}
use Rattle.fx_laws.proofs.BranchLemmas.{IsBranchOf, IsChildOf, branches_within, children_within, one_byte}

-- first these chains and then those
pub written-append : (sets : Sets) (chains : Chains) (es fs : List (ChainName × List ChainRule)) → CanBeWritten sets chains es → CanBeWritten sets (extended chains es) fs → CanBeWritten sets chains (es ++ fs)
written-append sets chains [] fs h g = g
written-append sets chains (e ∷ es) fs h g = (h.0, written-append sets (maps.insert chains e.0 e.1) es fs h.1 g)

-- ---- ranks and shapes

pub child_rank : (d : Direction) (n : ℕ) → rank_of (child_chain d (n ∷ [])) ≡ 2
child_rank Ingress n = refl
child_rank Egress n = refl

pub root_rank : (d : Direction) → rank_of (root_of d) ≡ 3
root_rank Ingress = refl
root_rank Egress = refl

own_shape : (d : Direction) (name : List ℕ) → has_shape (own_rule d name) ≡ true
own_shape Ingress name = refl
own_shape Egress name = refl

prefix_shape : (d : Direction) (prefix byte : List ℕ) → has_shape (prefix_rule d prefix byte) ≡ true
prefix_shape Ingress prefix byte = refl
prefix_shape Egress prefix byte = refl

-- the root of a tree that was written is there
pub root_there : (chains : Chains) (names : List (List ℕ)) (d : Direction) → maps.contains_key (extended chains (dispatch_chains_of names)) (root_of d) ≡ true
root_there chains names d = ap is_some (get-extended chains (dispatch_chains_of names) (root_of d) ∙ tree-root-among names d (maps.get chains (root_of d)))

module _ (Is : List ℕ → Type 0) where
  -- the endpoints' chains of these interfaces are there
  abbrev pub HaveChains : Chains → Type 0
  HaveChains chains = (d : Direction) (name : List ℕ) → Is name → maps.contains_key chains (endpoint_chain d name) ≡ true

  have_inserted : (chains : Chains) (name : ChainName) (rules : List ChainRule) → HaveChains chains → HaveChains (maps.insert chains name rules)
  have_inserted chains name rules there = λ d k h. there_insert chains name rules (endpoint_chain d k) (there d k h)

  have_extended : (chains : Chains) (es : List (ChainName × List ChainRule)) → HaveChains chains → HaveChains (extended chains es)
  have_extended chains es there = λ d k h. there_extended chains es (endpoint_chain d k) (there d k h)

  module _ (sets : Sets) (chains : Chains) (there : HaveChains chains) (d : Direction) where
    own_below : (rank : ℕ) → 1 < rank → (name : List ℕ) → rank_of (endpoint_chain d name) < rank
    own_below rank more name = subst (λ k. k < rank) (sym (endpoint_rank d name)) more

    -- rules that lead to endpoints' chains
    own_lead : (rank : ℕ) → 1 < rank → (names : List (List ℕ)) → AllByRecursion Is names → Lead sets chains rank (map (own_rule d) names)
    own_lead rank more [] h = record { there = tt; below = tt; named = tt; shaped = refl }
    own_lead rank more (name ∷ names) h = lead_more sets chains rank _ _ (there d name h.0) (own_below rank more name) (tt, tt) (own_shape d name) (own_lead rank more names h.1)

    -- and a last one that drops
    pub dispatch_lead : (rank : ℕ) → 1 < rank → (names : List (List ℕ)) → AllByRecursion Is names → Lead sets chains rank (dispatch_rules d names)
    dispatch_lead rank more [] h = tagged_drop sets chains rank reason.UnknownInterface
    dispatch_lead rank more (name ∷ names) h = lead_more sets chains rank _ _ (there d name h.0) (own_below rank more name) (tt, tt) (own_shape d name) (dispatch_lead rank more names h.1)

    pub child_writable : (b : Branch) → IsChildOf Is b → IsWritable sets chains (child_chain d b.0) (dispatch_rules d b.1)
    child_writable b h =
        one_byte (λ c. IsWritable sets chains (child_chain d c) (dispatch_rules d b.1)) b.0 b.1 h.branch.short h.has (λ n.
        writable sets chains (child_chain d (n ∷ [])) 2 (dispatch_rules d b.1) (child_rank d n) (dispatch_lead 2 (omega arith) b.1 h.branch.within))

    -- a branch that has a chain finds it there
    abbrev pub IsLed : Branch → Type 0
    IsLed b = has_child b.0 b.1 ≡ true → maps.contains_key chains (child_chain d b.0) ≡ true

    branch_lead : (shared : List ℕ) (b : Branch) → IsLed b → IsBranchOf Is b → Lead sets chains 3 (branch_rules d shared b)
    branch_lead shared b led h =
        elim (has_child b.0 b.1) as (λ t. has_child b.0 b.1 ≡ t → Lead sets chains 3 (if t then prefix_rule d (shared ++ b.0) b.0 ∷ [] else map (own_rule d) b.1)) [
          | true ↦ λ p.
              lead_more sets chains 3 (prefix_rule d (shared ++ b.0) b.0) [] (led p)
              (one_byte (λ c. rank_of (child_chain d c) < 3) b.0 b.1 h.short p (λ n. subst (λ k. k < 3) (sym (child_rank d n)) (omega arith)))
              (tt, tt) (prefix_shape d (shared ++ b.0) b.0) (record { there = tt; below = tt; named = tt; shaped = refl })
          | false ↦ λ p. own_lead 3 (omega arith) b.1 h.within
        ] refl

    branches_lead : (shared : List ℕ) (bs : List Branch) → AllByRecursion IsLed bs → AllByRecursion (IsBranchOf Is) bs → Lead sets chains 3 (flat_map (branch_rules d shared) bs)
    branches_lead shared [] led h = record { there = tt; below = tt; named = tt; shaped = refl }
    branches_lead shared (b ∷ bs) led h = lead-append sets chains 3 (branch_rules d shared b) _ (branch_lead shared b led.0 h.0) (branches_lead shared bs led.1 h.1)

    pub root_writable : (names : List (List ℕ)) → AllByRecursion Is names → AllByRecursion IsLed (branches (shared_prefix names) names) → IsWritable sets chains (root_of d) (root_rules d names)
    root_writable names h led =
        let shared = shared_prefix names in
        writable sets chains (root_of d) 3 (root_rules d names) (root_rank d)
        (lead-append sets chains 3 (flat_map (branch_rules d shared) (branches shared names)) (dispatch_rules d [])
        (branches_lead shared (branches shared names) led (branches_within Is shared names h)) (tagged_drop sets chains 3 reason.UnknownInterface))

  children_written : (sets : Sets) (chains : Chains) → HaveChains chains → (d : Direction) (bs : List Branch) → AllByRecursion (IsChildOf Is) bs → CanBeWritten sets chains (map (child_entry d) bs)
  children_written sets chains there d [] h = tt
  children_written sets chains there d (b ∷ bs) h = (
    child_writable sets chains there d b h.0,
    children_written sets (maps.insert chains (child_chain d b.0) (dispatch_rules d b.1)) (have_inserted chains (child_chain d b.0) (dispatch_rules d b.1) there) d bs h.1,
  )

  -- the branches that have chains find them there once these were written
  children_led : (chains : Chains) (d : Direction) (bs : List Branch) → AllByRecursion (λ b. has_child b.0 b.1 ≡ true → maps.contains_key (extended chains (map (child_entry d) (filter (λ c. has_child c.0 c.1) bs))) (child_chain d b.0) ≡ true) bs
  children_led chains d [] = tt
  children_led chains d (b ∷ bs) =
      let left = filter (λ (c : Branch). has_child c.0 c.1) bs in
      let more = maps.insert chains (child_chain d b.0) (dispatch_rules d b.1) in
      elim (has_child b.0 b.1) as (λ t. (t ≡ true → maps.contains_key (extended chains (map (child_entry d) (cond t (b ∷ left) left))) (child_chain d b.0) ≡ true) × AllByRecursion (λ c. has_child c.0 c.1 ≡ true → maps.contains_key (extended chains (map (child_entry d) (cond t (b ∷ left) left))) (child_chain d c.0) ≡ true) bs) [
        | true ↦ (λ p. there_extended more (map (child_entry d) left) (child_chain d b.0) (there_inserted chains (child_chain d b.0) (dispatch_rules d b.1)), children_led more d bs)
        | false ↦ (λ p. cc, children_led chains d bs)
      ]

  towards_written : (sets : Sets) (chains : Chains) → HaveChains chains → (d : Direction) (names : List (List ℕ)) → AllByRecursion Is names → CanBeWritten sets chains (chains_towards d names)
  towards_written sets chains there d names h =
      let lower = map (child_entry d) (children names) in
      written-append sets chains lower ((root_of d, root_rules d names) ∷ [])
      (children_written sets chains there d (children names) (children_within Is names h))
      (root_writable sets (extended chains lower) (have_extended chains lower there) d names h (children_led chains d (branches (shared_prefix names) names)), tt)

  pub tree_written : (sets : Sets) (chains : Chains) → HaveChains chains → (names : List (List ℕ)) → AllByRecursion Is names → CanBeWritten sets chains (dispatch_chains_of names)
  tree_written sets chains there names h =
      let first = chains_towards Ingress names in
      written-append sets chains first (chains_towards Egress names)
      (towards_written sets chains there Ingress names h)
      (towards_written sets (extended chains first) (have_extended chains first there) Egress names h)
