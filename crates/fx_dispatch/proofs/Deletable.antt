-- The chains that a plan deletes can be deleted one after another.
use Rattle.std.proofs.Common.{◌≡◌, ◌≢◌, ◌⊎◌, inl, inr, ℕ, Bool, true, false, cond, ◌&&◌, not, List, [], ◌∷◌, ◌++◌, map, Option, Some, None, refl, sym, ap, ◌∙◌, subst}
use Rattle.std.specs.Prelude.{if◌then◌else◌, nat_eq, codes}
use Rattle.std.specs.List.{AllByRecursion, flat_map}
use Rattle.std.specs.Ordering.{nat_cmp}
use Rattle.std.specs.Cmp.Lexicographic.{slice_cmp}
use Rattle.std.specs.Str.{bytes_eq}
use Rattle.std.specs.FinMap as maps
use Rattle.std.specs.FinMap.{find}
use Rattle.fx_base.specs.Extended.{extended}
use Rattle.fx_base.specs.Set as set
use Rattle.fx_base.specs.Same.{same_numbers, both_pass}
use Rattle.fx_base.proofs.KeyCases.{at_remove}
use Rattle.fx_base.proofs.Found.{each}
use Rattle.fx_model.specs.declared.chain.ChainRule.{ChainRule}
use Rattle.fx_model.specs.Directions.{Direction, Ingress, Egress}
use Rattle.fx_model.specs.Tables.{ChainName, Chains, root_of, endpoint_chain, dispatch_rules}
use Rattle.fx_tables.specs.Leads.{AllLeadElsewhere, NoneLeadsTo}
use Rattle.fx_dispatch.specs.declared.way.Way.{Way}
use Rattle.fx_dispatch.specs.declared.way.Way.TheVariants.{Own, Shared}
use Rattle.fx_model.specs.Tree.{Branch, shared_prefix, has_child, child_chain, root_rules, HoldsTree}
use Rattle.fx_dispatch.specs.Ways.{branch_ways, root_ways, way_rules}
use Rattle.fx_dispatch.specs.Differences.{has_chain_found, stands}
use Rattle.fx_dispatch.specs.Plans.{Names, OthersLeadElsewhere, CanBeDeleted, AreDeletable}
use Rattle.fx_laws.specs.DispatchNames.{IsElsewhere}
use Rattle.fx_laws.proofs.Lines.{or_else, given, names_where}
use Rattle.fx_laws.proofs.TreeAt.{child_same, chain_of}
use Rattle.fx_dispatch.proofs.TreeLookups.{is_deleted}
use Rattle.fx_dispatch.proofs.OwnWays.{own_ways, root-ways}
use Rattle.fx_dispatch.proofs.Written.{ob, nb, writes_between, deletes_between, for_child, root-written, child-written, elsewhere-written, old_root, old_child}
use Rattle.fx_laws.proofs.Uses.{all-append}
use Rattle.fx_dispatch.proofs.Changed.{not_both, same_child_chain}
use Rattle.fx_laws.proofs.BranchLemmas.{each_found}
use Rattle.fx_laws.proofs.Gathering.{bytes-refl}
use Rattle.fx_laws.proofs.BranchLemmas.{IsBranchOf, branches_within, one_byte}

-- ---- a name is a root's, a byte's chain's, or that of another chain

apart : (p q : ChainName) → bytes_eq p q ≡ false → p ≢ q
apart p q f e = let same : bytes_eq p q ≡ true = ap (bytes_eq p) (sym e) ∙ bytes-refl p in cc

no_and : (t : Bool) → (t && false) ≡ false
no_and true = refl
no_and false = refl

-- a name begins so, or it is no name that does
begins : (p q : List ℕ) → ((r : List ℕ) × (q ≡ p ++ r)) ⊎ ((r : List ℕ) → bytes_eq q (p ++ r) ≡ false)
begins [] q = inl (q, refl)
begins (x ∷ p) [] = inr (λ r. refl)
begins (x ∷ p) (y ∷ q) =
    elim (nat_eq y x) as (λ t. nat_eq y x ≡ t → ((r : List ℕ) × (y ∷ q ≡ x ∷ (p ++ r))) ⊎ ((r : List ℕ) → (nat_eq y x && bytes_eq q (p ++ r)) ≡ false)) [
      | true ↦ λ e. elim (begins p q) [
        | inl h ↦ inl (h.0, λ i. same_numbers y x e i ∷ h.1 i)
        | inr h ↦ inr (λ r. ap (λ t. nat_eq y x && t) (h r) ∙ no_and (nat_eq y x))
      ]
      | false ↦ λ e. inr (λ r. ap (λ t. t && bytes_eq q (p ++ r)) e)
    ] refl

or_same : (p q : ChainName) → (q ≡ p) ⊎ (bytes_eq q p ≡ false)
or_same p q =
    elim (bytes_eq q p) as (λ t. bytes_eq q p ≡ t → (q ≡ p) ⊎ (bytes_eq q p ≡ false)) [
      | true ↦ λ e. inl (same_text q p e)
      | false ↦ λ e. inr e
    ] refl
  where
    same_text : (x y : ChainName) → bytes_eq x y ≡ true → x ≡ y
    same_text [] [] e = refl
    same_text [] (y ∷ ys) e = cc
    same_text (x ∷ xs) [] e = cc
    same_text (x ∷ xs) (y ∷ ys) e = let h = both_pass _ _ e in λ i. same_numbers x y h.0 i ∷ same_text xs ys h.1 i

abbrev pub Place : ChainName → Type 0
Place q = ((d : Direction) × (q ≡ root_of d)) ⊎ (((d : Direction) × (c : List ℕ) × (q ≡ child_chain d c)) ⊎ IsElsewhere q)

else_where : (q : ChainName) → bytes_eq q (root_of Ingress) ≡ false → bytes_eq q (root_of Egress) ≡ false → ((r : List ℕ) → bytes_eq q (child_chain Ingress r) ≡ false) → ((r : List ℕ) → bytes_eq q (child_chain Egress r) ≡ false) → IsElsewhere q
else_where q a b f g = record {
  roots = λ d. elim d as (λ e. bytes_eq q (root_of e) ≡ false) [ Ingress ↦ a | Egress ↦ b ];
  children = λ d c. elim d as (λ e. bytes_eq q (child_chain e c) ≡ false) [ Ingress ↦ f c | Egress ↦ g c ];
}

-- where a name stands among dispatch chains
pub place_of : (q : ChainName) → Place q
place_of q =
    elim (or_same (root_of Ingress) q) as (λ _. Place q) [
      | inl e ↦ inl (Ingress, e)
      | inr a ↦ elim (or_same (root_of Egress) q) as (λ _. Place q) [
        | inl e ↦ inl (Egress, e)
        | inr b ↦ elim (begins (root_of Ingress ++ codes "-") q) as (λ _. Place q) [
          | inl h ↦ inr (inl (Ingress, h.0, h.1))
          | inr f ↦ elim (begins (root_of Egress ++ codes "-") q) as (λ _. Place q) [
            | inl h ↦ inr (inl (Egress, h.0, h.1))
            | inr g ↦ inr (inr (else_where q a b f g))
          ]
        ]
      ]
    ]

-- ---- where rules don't lead

pub endpoint_apart : (e d : Direction) (name c : List ℕ) → endpoint_chain e name ≢ child_chain d c
endpoint_apart Ingress Ingress name c = apart (endpoint_chain Ingress name) (child_chain Ingress c) refl
endpoint_apart Ingress Egress name c = apart (endpoint_chain Ingress name) (child_chain Egress c) refl
endpoint_apart Egress Ingress name c = apart (endpoint_chain Egress name) (child_chain Ingress c) refl
endpoint_apart Egress Egress name c = apart (endpoint_chain Egress name) (child_chain Egress c) refl

child_apart : (e d : Direction) (b c : List ℕ) → (b ≡ c → ⊥) → child_chain e b ≢ child_chain d c
child_apart Ingress Ingress b c other same = other (same_child_chain Ingress b c same)
child_apart Egress Egress b c other same = other (same_child_chain Egress b c same)
child_apart Ingress Egress b c other same = apart (child_chain Ingress b) (child_chain Egress c) refl same
child_apart Egress Ingress b c other same = apart (child_chain Egress b) (child_chain Ingress c) refl same

-- a way leads elsewhere than to the chain of this byte
abbrev WayElsewhere : List ℕ → Way → Type 0
WayElsewhere c (Own name) = Unit {0}
WayElsewhere c (Shared prefix byte) = byte ≡ c → ⊥

ways_elsewhere : (e d : Direction) (c : List ℕ) (ws : List Way) → AllByRecursion (WayElsewhere c) ws → AllLeadElsewhere (child_chain d c) (way_rules e ws)
ways_elsewhere e d c [] h = (tt, tt)
ways_elsewhere e d c (Own name ∷ ws) h = (endpoint_apart e d name c, ways_elsewhere e d c ws h.1)
ways_elsewhere e d c (Shared prefix byte ∷ ws) h = (child_apart e d byte c h.0, ways_elsewhere e d c ws h.1)

own_elsewhere : (c : List ℕ) (names : List (List ℕ)) → AllByRecursion (WayElsewhere c) (map Own names)
own_elsewhere c [] = tt
own_elsewhere c (name ∷ names) = (tt, own_elsewhere c names)

pub dispatch_elsewhere : (e d : Direction) (c : List ℕ) (names : List (List ℕ)) → AllLeadElsewhere (child_chain d c) (dispatch_rules e names)
dispatch_elsewhere e d c names = subst (AllLeadElsewhere (child_chain d c)) (own_ways e names) (ways_elsewhere e d c (map Own names) (own_elsewhere c names))

-- rules that lead elsewhere, if there are any
abbrev pub NoneThere : ChainName → Option (List ChainRule) → Type 0
NoneThere k None = Unit {0}
NoneThere k (Some rules) = AllLeadElsewhere k rules

pub none_there : (k : ChainName) (o : Option (List ChainRule)) (rules : List ChainRule) → NoneThere k o → o ≡ Some rules → AllLeadElsewhere k rules
none_there k None rules h e = cc
none_there k (Some before) rules h e = let same : before ≡ rules = cc in subst (AllLeadElsewhere k) same h

pub none_or : (k : ChainName) (a b : Option (List ChainRule)) → NoneThere k a → NoneThere k b → NoneThere k (or_else a b)
none_or k None b h g = g
none_or k (Some rules) b h g = h

pub none_if : (k : ChainName) (t : Bool) (rules : List ChainRule) → AllLeadElsewhere k rules → NoneThere k (if t then Some rules else None)
none_if k true rules h = h
none_if k false rules h = tt

module _ (old new : Names) (chains : Chains) (held : HoldsTree (set.items old) chains) (others : OthersLeadElsewhere chains) where
  abbrev os : List (List ℕ)
  os = set.items old

  abbrev ns : List (List ℕ)
  ns = set.items new

  abbrev written : Chains
  written = extended chains (writes_between os ns)

  -- the root leads to the chains of bytes that have one
  branch_elsewhere : (c : List ℕ) → has_chain_found c (find (slice_cmp nat_cmp) c (nb os ns)) ≡ false → (b : Branch) → find (slice_cmp nat_cmp) b.0 (nb os ns) ≡ Some b.1 → AllByRecursion (WayElsewhere c) (branch_ways (shared_prefix ns) b)
  branch_elsewhere c lacks b found =
      elim (has_child b.0 b.1) as (λ t. has_child b.0 b.1 ≡ t → AllByRecursion (WayElsewhere c) (if t then Shared (shared_prefix ns ++ b.0) b.0 ∷ [] else map Own b.1)) [
        | true ↦ λ p. (λ same. there p same, tt)
        | false ↦ λ p. own_elsewhere c b.1
      ] refl
    where
      there : has_child b.0 b.1 ≡ true → b.0 ≡ c → ⊥
      there p same =
          let has : has_chain_found b.0 (find (slice_cmp nat_cmp) b.0 (nb os ns)) ≡ true = ap (has_chain_found b.0) found ∙ p in
          let moved : has_chain_found b.0 (find (slice_cmp nat_cmp) b.0 (nb os ns)) ≡ false = ap (λ k. has_chain_found k (find (slice_cmp nat_cmp) k (nb os ns))) same ∙ lacks in
          cc

  root_elsewhere : (c : List ℕ) → has_chain_found c (find (slice_cmp nat_cmp) c (nb os ns)) ≡ false → (bs : List Branch) → AllByRecursion (λ b. find (slice_cmp nat_cmp) b.0 (nb os ns) ≡ Some b.1) bs → AllByRecursion (WayElsewhere c) (flat_map (branch_ways (shared_prefix ns)) bs)
  root_elsewhere c lacks [] h = tt
  root_elsewhere c lacks (b ∷ bs) h =
      all-append (WayElsewhere c) (branch_ways (shared_prefix ns) b) (flat_map (branch_ways (shared_prefix ns)) bs)
      (branch_elsewhere c lacks b h.0) (root_elsewhere c lacks bs h.1)

  at_root : (d : Direction) (n : ℕ) → has_chain_found (n ∷ []) (find (slice_cmp nat_cmp) (n ∷ []) (nb os ns)) ≡ false → (e : Direction) (rules : List ChainRule) → maps.get written (root_of e) ≡ Some rules → AllLeadElsewhere (child_chain d (n ∷ [])) rules
  at_root d n lacks e rules is =
      none_there (child_chain d (n ∷ [])) (Some (root_rules e ns)) rules
      (subst (AllLeadElsewhere (child_chain d (n ∷ []))) (root-ways e ns) (ways_elsewhere e d (n ∷ []) (root_ways ns) (root_elsewhere (n ∷ []) lacks (nb os ns) (each_found (shared_prefix ns) ns))))
      (sym (root-written os ns chains e (old_root old chains held e)) ∙ is)

  -- the chain of a byte leads to endpoints alone
  chain_none : (k : ChainName) (own : (e : Direction) (names : List (List ℕ)) → AllLeadElsewhere k (dispatch_rules e names)) (e : Direction) (c : List ℕ) (found : Option (List (List ℕ))) → NoneThere k (given (chain_of e) c found None)
  chain_none k own e c None = tt
  chain_none k own e c (Some names) = none_or k _ None (none_if k (has_child c names) (dispatch_rules e names) (own e names)) tt

  given_none : (k : ChainName) (own : (e : Direction) (names : List (List ℕ)) → AllLeadElsewhere k (dispatch_rules e names)) (e : Direction) (c : List ℕ) (found : Option (List (List ℕ))) (o : Option (List ChainRule)) → NoneThere k o → NoneThere k (given (for_child os ns e) c found o)
  given_none k own e c None o h = h
  given_none k own e c (Some names) o h = none_or k _ o (none_if k (has_child c names && not (stands (ob os ns) (c, names))) (dispatch_rules e names) (own e names)) h

  at_child : (d : Direction) (n : ℕ) (e : Direction) (c : List ℕ) (rules : List ChainRule) → maps.get written (child_chain e c) ≡ Some rules → AllLeadElsewhere (child_chain d (n ∷ [])) rules
  at_child d n e c rules is =
      let k = child_chain d (n ∷ []) in
      let own = λ (f : Direction) (names : List (List ℕ)). dispatch_elsewhere f d (n ∷ []) names in
      none_there k (given (for_child os ns e) c (find (slice_cmp nat_cmp) c (nb os ns)) (given (chain_of e) c (find (slice_cmp nat_cmp) c (ob os ns)) None)) rules
      (given_none k own e c (find (slice_cmp nat_cmp) c (nb os ns)) _ (chain_none k own e c (find (slice_cmp nat_cmp) c (ob os ns))))
      (sym (child-written os ns chains e c ∙ ap (given (for_child os ns e) c (find (slice_cmp nat_cmp) c (nb os ns))) (old_child old chains held e c)) ∙ is)

  none_leads : (d : Direction) (n : ℕ) → has_chain_found (n ∷ []) (find (slice_cmp nat_cmp) (n ∷ []) (nb os ns)) ≡ false → NoneLeadsTo written (child_chain d (n ∷ []))
  none_leads d n lacks other rules is =
      elim (place_of other) as (λ _. AllLeadElsewhere (child_chain d (n ∷ [])) rules) [
        | inl h ↦ at_root d n lacks h.0 rules (ap (maps.get written) (sym h.1) ∙ is)
        | inr g ↦ elim g as (λ _. AllLeadElsewhere (child_chain d (n ∷ [])) rules) [
          | inl h ↦ at_child d n h.0 h.1 rules (ap (maps.get written) (sym h.2) ∙ is)
          | inr h ↦ others other rules h (sym (elsewhere-written os ns chains other h) ∙ is) d n
        ]
      ]

  -- ---- one after another

  none_deleted : (d : Direction) (bs : List Branch) → AllByRecursion (IsBranchOf (λ _. Unit {0})) bs → AllByRecursion (NoneLeadsTo written) (names_where (child_chain d) (child_same d) (is_deleted (ob os ns) (nb os ns)) bs)
  none_deleted d [] h = tt
  none_deleted d (b ∷ bs) h =
      all-append (NoneLeadsTo written) _ (names_where (child_chain d) (child_same d) (is_deleted (ob os ns) (nb os ns)) bs)
      (elim (is_deleted (ob os ns) (nb os ns) b) as (λ t. is_deleted (ob os ns) (nb os ns) b ≡ t → AllByRecursion (NoneLeadsTo written) (cond t (child_chain d b.0 ∷ []) [])) [
        | true ↦ λ p. (
          one_byte (λ c. has_chain_found c (find (slice_cmp nat_cmp) c (nb os ns)) ≡ false → NoneLeadsTo written (child_chain d c)) b.0 b.1 h.0.short (both_pass _ _ p).0 (λ n. none_leads d n) (not_both _ _ p),
          tt,
        )
        | false ↦ λ p. tt
      ] refl)
      (none_deleted d bs h.1)

can_delete : (chains : Chains) (ks : List ChainName) → AllByRecursion (NoneLeadsTo chains) ks → CanBeDeleted chains ks
can_delete chains [] h = tt
can_delete chains (k ∷ ks) h =
    (h.0, can_delete (maps.remove chains k) ks (each (NoneLeadsTo chains) (NoneLeadsTo (maps.remove chains k)) (λ j none other rules is. none other rules (at_remove chains k other rules is)) ks h.1))

any : (xs : List (List ℕ)) → AllByRecursion (λ _. Unit {0}) xs
any [] = tt
any (x ∷ xs) = (tt, any xs)

pub are_deletable : (old new : Names) → AreDeletable old (writes_between (set.items old) (set.items new)) (deletes_between (set.items old) (set.items new))
are_deletable old new chains held others =
    let os = set.items old in
    let ns = set.items new in
    let written = extended chains (writes_between os ns) in
    let gone = λ (d : Direction). names_where (child_chain d) (child_same d) (is_deleted (ob os ns) (nb os ns)) (ob os ns) in
    let bs = branches_within (λ _. Unit {0}) (shared_prefix os) os (any os) in
    can_delete written (deletes_between os ns)
    (all-append (NoneLeadsTo written) (gone Ingress) (gone Egress) (none_deleted old new chains held others Ingress (ob os ns) bs) (none_deleted old new chains held others Egress (ob os ns) bs))
