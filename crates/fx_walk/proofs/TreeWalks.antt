-- A packet that is walked over a tree of dispatch chains comes to the chain of its interface's endpoint, and where its interface
-- isn't there it is dropped as unknown: the same as over one chain with a rule for each interface.
use Rattle.std.proofs.Common.{◌≡◌, ◌⊎◌, inl, inr, ℕ, suc, Bool, true, false, ◌&&◌, ◌||◌, List, [], ◌∷◌, ◌++◌, map, take, Some, None, refl, sym, ap, ◌∙◌, append_assoc}
use Rattle.std.specs.Prelude.{nat_eq, if◌then◌else◌}
use Rattle.std.specs.List.{AllByRecursion, flat_map, list_any, starts_with}
use Rattle.std.specs.Ordering.{nat_cmp}
use Rattle.std.specs.Cmp.Lexicographic.{slice_cmp, texts_ties}
use Rattle.std.specs.Str.{bytes_eq}
use Rattle.std.specs.FinMap.{find}
use Rattle.fx_base.specs.Same.{same_bytes}
use Rattle.fx_model.specs.declared.packet.Packet.{Packet}
use Rattle.fx_model.specs.declared.chain.End.{End}
use Rattle.fx_model.specs.declared.chain.Match.TheVariants as match
use Rattle.fx_model.specs.declared.chain.Target.TheVariants as target
use Rattle.fx_model.specs.declared.chain.Reason.TheVariants as reason
use Rattle.fx_model.specs.declared.chain.ChainRule.{ChainRule}
use Rattle.fx_model.specs.Directions.{Direction, Ingress, Egress}
use Rattle.fx_model.specs.Rendering.{plain}
use Rattle.fx_model.specs.Tables.{ChainName, Chains, Sets, forward, endpoint_chain, end_of, root_of, dispatch_rules}
use Rattle.fx_model.specs.Machine.{holds, hold_all, iface_at, names_iface, rules_found, rules_in, Reasons, with_reason, last_reason}
use Rattle.fx_model.specs.Walk.{Onward, Ended, Accepted, Dropped, Left, Through, onward, after_goto, over_rules, over_chain}
use Rattle.fx_model.specs.Tree.{Branch, shared_prefix, next_byte, branches, has_child, child_chain, own_rule, prefix_rule, branch_rules, root_rules, HoldsTree}
use Rattle.fx_laws.proofs.Gathering.{is, bytes-refl}
use Rattle.fx_laws.proofs.Lines.{or_else, given}
use Rattle.fx_laws.proofs.TreeAt.{chain_of, tree-root, tree-child}
use Rattle.fx_laws.proofs.BranchLemmas.{IsBranchOf, branches_within, one_byte, each_found}
use Rattle.fx_laws.proofs.Beginnings.{Begins, shared-begins, one_of, starts, started, begins-next, next-begun, in_branches, has_branch}
use Rattle.fx_walk.proofs.Walks.{walk_hit}
use Rattle.fx_walk.proofs.Blocks.{only, noted_as, miss}
use Rattle.fx_walk.proofs.Rules.{tagged_drop}

goto_ends : {S : Type 0} (x : Ended S) (go : Onward S) → onward (after_goto x) go ≡ after_goto x
goto_ends (Accepted s) go = refl
goto_ends (Dropped s) go = refl
goto_ends (Left m s) go = refl
goto_ends (Through m s) go = refl

goto_twice : {S : Type 0} (x : Ended S) → after_goto (after_goto x) ≡ after_goto x
goto_twice (Accepted s) = refl
goto_twice (Dropped s) = refl
goto_twice (Left m s) = refl
goto_twice (Through m s) = refl

root_inner : (d : Direction) → bytes_eq (root_of d) forward ≡ false
root_inner Ingress = refl
root_inner Egress = refl

child_inner : (d : Direction) (c : List ℕ) → bytes_eq (child_chain d c) forward ≡ false
child_inner Ingress c = refl
child_inner Egress c = refl

module _ (sets : Sets) (a : Packet) (chains : Chains) (d : Direction) where
  abbrev pub call : ℕ → ChainName → Onward Reasons
  call n = over_chain last_reason (holds sets a) chains n

  -- the packet's interface
  abbrev pub own : List ℕ
  own = iface_at (end_of d) a

  abbrev walk : ℕ → ChainName → ℕ → List ChainRule → ℕ → Reasons → Ended Reasons
  walk n c p rs m s = over_rules last_reason (holds sets a) (call n) c p rs m s

  called : (n : ℕ) (c : ChainName) (rs : List ChainRule) (m : ℕ) (s : Reasons) → rules_in chains c ≡ rs → call (suc n) c m s ≡ walk n c 1 rs m s
  unfolding over_chain
  called n c rs m s e = ap (λ x. walk n c 1 x m s) e

  met : (m : ℕ) (end : End) (wild : Bool) (name : List ℕ) → holds sets a m (match.Iface end name wild) ≡ names_iface wild name (iface_at end a)
  unfolding holds
  met m end wild name = refl

  all_met : (m : ℕ) (name : List ℕ) (wild b : Bool) → names_iface wild name own ≡ b → hold_all (holds sets a) m (match.Iface (end_of d) name wild ∷ []) ≡ b
  all_met m name wild b e = only sets a m (match.Iface (end_of d) name wild) b (met m (end_of d) wild name ∙ e)

  -- within a chain that isn't the first one
  module _ (n : ℕ) (c : ChainName) (inner : bytes_eq c forward ≡ false) where
    abbrev goto : List ℕ → Bool → ChainName → ChainRule
    goto name wild to = plain (match.Iface (end_of d) name wild ∷ []) (target.Goto to)

    goes : (p : ℕ) (name : List ℕ) (wild : Bool) (to : ChainName) (rs : List ChainRule) (m : ℕ) (s : Reasons) → names_iface wild name own ≡ true → walk n c p (goto name wild to ∷ rs) m s ≡ after_goto (call n to m s)
    goes p name wild to rs m s e =
        walk_hit last_reason (holds sets a) (call n) c p (goto name wild to) rs m s (all_met m name wild true e)
        ∙ goto_ends (call n to m (last_reason c p (goto name wild to) s)) (over_rules last_reason (holds sets a) (call n) c (suc p) rs)
        ∙ ap (λ t. after_goto (call n to m t)) (noted_as sets a (call n) c inner p (goto name wild to) s)

    passes : (p : ℕ) (name : List ℕ) (wild : Bool) (to : ChainName) (rs : List ChainRule) (m : ℕ) (s : Reasons) → names_iface wild name own ≡ false → walk n c p (goto name wild to ∷ rs) m s ≡ walk n c (suc p) rs m s
    passes p name wild to rs m s e = miss sets a (call n) c inner p (goto name wild to) rs m s (all_met m name wild false e)

    unknown : (p m : ℕ) (s : Reasons) → walk n c p (dispatch_rules d []) m s ≡ Dropped (with_reason s.side reason.UnknownInterface s)
    unknown p m s = tagged_drop sets a (call n) c inner p [] reason.UnknownInterface [] m s refl

    -- where rules for single interfaces lead: to the endpoint's chain, or to the rules behind them
    own_there : (xs : List (List ℕ)) (rest : List ChainRule) (p m : ℕ) (s : Reasons) → list_any (bytes_eq own) xs ≡ true → walk n c p (map (own_rule d) xs ++ rest) m s ≡ after_goto (call n (endpoint_chain d own) m s)
    own_there [] rest p m s e = cc
    own_there (x ∷ xs) rest p m s e =
        elim (bytes_eq own x) as (λ t. bytes_eq own x ≡ t → (t || list_any (bytes_eq own) xs) ≡ true → walk n c p (map (own_rule d) (x ∷ xs) ++ rest) m s ≡ after_goto (call n (endpoint_chain d own) m s)) [
          | true ↦ λ h g. goes p x false (endpoint_chain d x) (map (own_rule d) xs ++ rest) m s h ∙ ap (λ k. after_goto (call n (endpoint_chain d k) m s)) (sym (same_bytes own x h))
          | false ↦ λ h g. passes p x false (endpoint_chain d x) (map (own_rule d) xs ++ rest) m s h ∙ own_there xs rest (suc p) m s g
        ] refl e

    own_absent : (xs : List (List ℕ)) (rest : List ChainRule) (p m : ℕ) (s : Reasons) → list_any (bytes_eq own) xs ≡ false → (k : ℕ) × (walk n c p (map (own_rule d) xs ++ rest) m s ≡ walk n c k rest m s)
    own_absent [] rest p m s e = (p, refl)
    own_absent (x ∷ xs) rest p m s e =
        elim (bytes_eq own x) as (λ t. bytes_eq own x ≡ t → (t || list_any (bytes_eq own) xs) ≡ false → (k : ℕ) × (walk n c p (map (own_rule d) (x ∷ xs) ++ rest) m s ≡ walk n c k rest m s)) [
          | true ↦ λ h g. let wrong : true ≡ false = g in cc
          | false ↦ λ h g. let later = own_absent xs rest (suc p) m s g in (later.0, passes p x false (endpoint_chain d x) (map (own_rule d) xs ++ rest) m s h ∙ later.1)
        ] refl e

  own_rules_all : (xs : List (List ℕ)) → dispatch_rules d xs ≡ map (own_rule d) xs ++ dispatch_rules d []
  own_rules_all [] = refl
  own_rules_all (x ∷ xs) = ap (λ rs. own_rule d x ∷ rs) (own_rules_all xs)

  -- the chain of a byte
  child_there : (n : ℕ) (c : List ℕ) (xs : List (List ℕ)) (m : ℕ) (s : Reasons) → rules_in chains (child_chain d c) ≡ dispatch_rules d xs → list_any (bytes_eq own) xs ≡ true → call (suc n) (child_chain d c) m s ≡ after_goto (call n (endpoint_chain d own) m s)
  child_there n c xs m s is e = called n (child_chain d c) _ m s (is ∙ own_rules_all xs) ∙ own_there n (child_chain d c) (child_inner d c) xs (dispatch_rules d []) 1 m s e

  child_absent : (n : ℕ) (c : List ℕ) (xs : List (List ℕ)) (m : ℕ) (s : Reasons) → rules_in chains (child_chain d c) ≡ dispatch_rules d xs → list_any (bytes_eq own) xs ≡ false → call (suc n) (child_chain d c) m s ≡ Dropped (with_reason s.side reason.UnknownInterface s)
  child_absent n c xs m s is e =
      let passed = own_absent n (child_chain d c) (child_inner d c) xs (dispatch_rules d []) 1 m s e in
      called n (child_chain d c) _ m s (is ∙ own_rules_all xs) ∙ passed.1 ∙ unknown n (child_chain d c) (child_inner d c) passed.0 m s

  -- ---- the root

  module _ (shared : List ℕ) (there : Bool) (n : ℕ) where
    -- what is known of a branch: the packet's interface is in it if its byte follows there and it is there at all
    record Known (b : Branch) : Type 0 where
      has : list_any (bytes_eq own) b.1 ≡ (is (next_byte shared own) b.0 && there)
      short : take 1 b.0 ≡ b.0
      chain : has_child b.0 b.1 ≡ true → rules_in chains (child_chain d b.0) ≡ dispatch_rules d b.1

    abbrev at_root : ℕ → List ChainRule → ℕ → Reasons → Ended Reasons
    at_root p rs m s = walk (suc n) (root_of d) p rs m s

    abbrev to_branches : List Branch → List ChainRule
    to_branches bs = flat_map (branch_rules d shared) bs ++ dispatch_rules d []

    -- with as many chains to go as are needed, the walk is that of the endpoint's chain
    abbrev Arrives : ℕ → Reasons → Ended Reasons → Type 0
    Arrives m s e = (k : ℕ) × ((k ≡ n) ⊎ (k ≡ suc n)) × (e ≡ after_goto (call k (endpoint_chain d own) m s))

    both_true : (s t : Bool) → s ≡ true → t ≡ true → (s && t) ≡ true
    both_true true t e f = f
    both_true false t e f = e

    left_false : (s t : Bool) → s ≡ false → (s && t) ≡ false
    left_false true t e = let wrong : true ≡ false = e in cc
    left_false false t e = refl

    right_false : (s t : Bool) → t ≡ false → (s && t) ≡ false
    right_false true t e = e
    right_false false t e = refl

    is_byte : (b : Branch) (wild : starts_with nat_eq own (shared ++ b.0) ≡ true) → take 1 b.0 ≡ b.0 → has_child b.0 b.1 ≡ true → is (next_byte shared own) b.0 ≡ true
    is_byte b wild short child =
        one_byte (λ c. starts_with nat_eq own (shared ++ c) ≡ true → is (next_byte shared own) c ≡ true) b.0 b.1 short child (λ k w.
        sym (texts_ties (next_byte shared own) (k ∷ [])) ∙ ap (λ z. bytes_eq z (k ∷ [])) (next-begun shared own k (started (shared ++ k ∷ []) own w)) ∙ bytes-refl (k ∷ [])) wild

    split : (b : Branch) (bs : List Branch) → to_branches (b ∷ bs) ≡ branch_rules d shared b ++ to_branches bs
    split b bs = append_assoc (branch_rules d shared b) (flat_map (branch_rules d shared) bs) (dispatch_rules d [])

    -- an interface that isn't there is unknown
    drops : (bs : List Branch) → AllByRecursion Known bs → there ≡ false → (p m : ℕ) (s : Reasons) → at_root p (to_branches bs) m s ≡ Dropped (with_reason s.side reason.UnknownInterface s)
    drops [] h absent p m s = unknown (suc n) (root_of d) (root_inner d) p m s
    drops (b ∷ bs) h absent p m s =
        let none : list_any (bytes_eq own) b.1 ≡ false = h.0.has ∙ right_false (is (next_byte shared own) b.0) there absent in
        ap (λ rs. at_root p rs m s) (split b bs)
        ∙ elim (has_child b.0 b.1) as (λ t. has_child b.0 b.1 ≡ t → at_root p ((if t then prefix_rule d (shared ++ b.0) b.0 ∷ [] else map (own_rule d) b.1) ++ to_branches bs) m s ≡ Dropped (with_reason s.side reason.UnknownInterface s)) [
          | true ↦ λ child. elim (starts_with nat_eq own (shared ++ b.0)) as (λ t. starts_with nat_eq own (shared ++ b.0) ≡ t → at_root p (prefix_rule d (shared ++ b.0) b.0 ∷ to_branches bs) m s ≡ Dropped (with_reason s.side reason.UnknownInterface s)) [
            | true ↦ λ wild. goes (suc n) (root_of d) (root_inner d) p (shared ++ b.0) true (child_chain d b.0) (to_branches bs) m s wild ∙ ap after_goto (child_absent n b.0 b.1 m s (h.0.chain child) none)
            | false ↦ λ wild. passes (suc n) (root_of d) (root_inner d) p (shared ++ b.0) true (child_chain d b.0) (to_branches bs) m s wild ∙ drops bs h.1 absent (suc p) m s
          ] refl
          | false ↦ λ child. let passed = own_absent (suc n) (root_of d) (root_inner d) b.1 (to_branches bs) p m s none in passed.1 ∙ drops bs h.1 absent passed.0 m s
        ] refl

    -- one that is there comes to its endpoint's chain
    arrives_by : (e f : Ended Reasons) (m : ℕ) (s : Reasons) → e ≡ f → Arrives m s f → Arrives m s e
    arrives_by e f m s is h = (h.0, h.1, is ∙ h.2)

    arrives : (bs : List Branch) → AllByRecursion Known bs → Begins shared own → there ≡ true → list_any (is (next_byte shared own)) (map (λ b. b.0) bs) ≡ true → (p m : ℕ) (s : Reasons) → Arrives m s (at_root p (to_branches bs) m s)
    arrives [] h begins present byte p m s = cc
    arrives (b ∷ bs) h begins present byte p m s =
        arrives_by _ _ m s (ap (λ rs. at_root p rs m s) (split b bs))
        (elim (is (next_byte shared own) b.0) as (λ t. is (next_byte shared own) b.0 ≡ t → (t || list_any (is (next_byte shared own)) (map (λ k. k.0) bs)) ≡ true → Arrives m s (at_root p (branch_rules d shared b ++ to_branches bs) m s)) [
          | true ↦ λ here g. into_branch here
          | false ↦ λ here g. past_branch here (λ k. arrives bs h.1 begins present g k m s)
        ] refl byte)
      where
        into_branch : is (next_byte shared own) b.0 ≡ true → Arrives m s (at_root p (branch_rules d shared b ++ to_branches bs) m s)
        into_branch here =
            let within : list_any (bytes_eq own) b.1 ≡ true = h.0.has ∙ both_true (is (next_byte shared own) b.0) there here present in
            elim (has_child b.0 b.1) as (λ t. has_child b.0 b.1 ≡ t → Arrives m s (at_root p ((if t then prefix_rule d (shared ++ b.0) b.0 ∷ [] else map (own_rule d) b.1) ++ to_branches bs) m s)) [
              | true ↦ λ child. (
                n,
                inl refl,
                goes (suc n) (root_of d) (root_inner d) p (shared ++ b.0) true (child_chain d b.0) (to_branches bs) m s (wild here)
                    ∙ ap after_goto (child_there n b.0 b.1 m s (h.0.chain child) within) ∙ goto_twice (call n (endpoint_chain d own) m s),
              )
              | false ↦ λ child. (suc n, inr refl, own_there (suc n) (root_of d) (root_inner d) b.1 (to_branches bs) p m s within)
            ] refl
          where
            wild : is (next_byte shared own) b.0 ≡ true → starts_with nat_eq own (shared ++ b.0) ≡ true
            wild e =
                ap (λ c. starts_with nat_eq own (shared ++ c)) (sym (same_bytes (next_byte shared own) b.0 (texts_ties (next_byte shared own) b.0 ∙ e)))
                ∙ starts (shared ++ next_byte shared own) own (begins-next shared own begins)

        past_branch : is (next_byte shared own) b.0 ≡ false → ((k : ℕ) → Arrives m s (at_root k (to_branches bs) m s)) → Arrives m s (at_root p (branch_rules d shared b ++ to_branches bs) m s)
        past_branch here later =
            let none : list_any (bytes_eq own) b.1 ≡ false = h.0.has ∙ left_false (is (next_byte shared own) b.0) there here in
            elim (has_child b.0 b.1) as (λ t. has_child b.0 b.1 ≡ t → Arrives m s (at_root p ((if t then prefix_rule d (shared ++ b.0) b.0 ∷ [] else map (own_rule d) b.1) ++ to_branches bs) m s)) [
              | true ↦ λ child. arrives_by _ _ m s (passes (suc n) (root_of d) (root_inner d) p (shared ++ b.0) true (child_chain d b.0) (to_branches bs) m s (no_wild child here)) (later (suc p))
              | false ↦ λ child. let passed = own_absent (suc n) (root_of d) (root_inner d) b.1 (to_branches bs) p m s none in arrives_by _ _ m s passed.1 (later passed.0)
            ] refl
          where
            no_wild : has_child b.0 b.1 ≡ true → is (next_byte shared own) b.0 ≡ false → starts_with nat_eq own (shared ++ b.0) ≡ false
            no_wild child e =
                elim (starts_with nat_eq own (shared ++ b.0)) as (λ t. starts_with nat_eq own (shared ++ b.0) ≡ t → t ≡ false) [
                  | true ↦ λ w. sym (is_byte b w h.0.short child) ∙ e
                  | false ↦ λ w. refl
                ] refl

  -- ---- the tree of these interfaces

  module _ (names : List (List ℕ)) (held : HoldsTree names chains) (n : ℕ) where
    abbrev shared : List ℕ
    shared = shared_prefix names

    abbrev present : Bool
    present = list_any (bytes_eq own) names

    in_chain : (b : Branch) → find (slice_cmp nat_cmp) b.0 (branches shared names) ≡ Some b.1 → has_child b.0 b.1 ≡ true → rules_in chains (child_chain d b.0) ≡ dispatch_rules d b.1
    in_chain b found child =
        ap rules_found (held.children d b.0 ∙ tree-child names d b.0 ∙ ap (λ o. given (chain_of d) b.0 o None) found
        ∙ ap (λ t. or_else (if t then Some (dispatch_rules d b.1) else None) None) child)

    every : (xs : List (List ℕ)) → AllByRecursion (λ _. Unit {0}) xs
    every [] = tt
    every (x ∷ xs) = (tt, every xs)

    all_known : AllByRecursion (Known shared present n) (branches shared names)
    all_known =
        over (branches shared names) (in_branches shared own names)
        (branches_within (λ _. Unit {0}) shared names (every names)) (each_found shared names)
      where
        over : (bs : List Branch) → AllByRecursion (λ b. list_any (bytes_eq own) b.1 ≡ (is (next_byte shared own) b.0 && present)) bs → AllByRecursion (IsBranchOf (λ _. Unit {0})) bs → AllByRecursion (λ b. find (slice_cmp nat_cmp) b.0 (branches shared names) ≡ Some b.1) bs → AllByRecursion (Known shared present n) bs
        over [] f g h = tt
        over (b ∷ bs) f g h = (record { has = f.0; short = g.0.short; chain = in_chain b h.0 }, over bs f.1 g.1 h.1)

    at_start : (m : ℕ) (s : Reasons) → call (suc (suc n)) (root_of d) m s ≡ walk (suc n) (root_of d) 1 (root_rules d names) m s
    at_start m s = called (suc n) (root_of d) (root_rules d names) m s (ap rules_found (held.roots d ∙ tree-root names d))

    -- an interface that isn't there is unknown
    pub root_drops : (m : ℕ) (s : Reasons) → present ≡ false → call (suc (suc n)) (root_of d) m s ≡ Dropped (with_reason s.side reason.UnknownInterface s)
    root_drops m s absent = at_start m s ∙ drops shared present n (branches shared names) all_known absent 1 m s

    -- one that is there comes to its endpoint's chain, with at least n chains to go
    pub root_arrives : (m : ℕ) (s : Reasons) → present ≡ true → (k : ℕ) × ((k ≡ n) ⊎ (k ≡ suc n)) × (call (suc (suc n)) (root_of d) m s ≡ after_goto (call k (endpoint_chain d own) m s))
    root_arrives m s there =
        let h = arrives shared present n (branches shared names) all_known (one_of (Begins shared) own names (shared-begins names) there) there (has_branch shared own names there) 1 m s in
        (h.0, h.1, at_start m s ∙ h.2)
