-- A plan writes or deletes each chain that differs, once, and no other.
use Rattle.std.proofs.Common.{◌≡◌, ◌≢◌, inl, inr, ℕ, Bool, true, false, cond, ◌&&◌, ◌||◌, not, List, [], ◌∷◌, ◌++◌, map, Option, Some, None, is_some, refl, sym, ap, ◌∙◌, subst}
use Rattle.std.specs.Prelude.{T, if◌then◌else◌}
use Rattle.std.specs.List.{AllByRecursion}
use Rattle.std.specs.declared.cmp.Ordering.TheVariants.{Less, Equal, Greater}
use Rattle.std.specs.Ordering.{nat_cmp, is_eq}
use Rattle.std.specs.Cmp.{eq_by_cmp_equiv}
use Rattle.std.specs.Cmp.Lexicographic.{slice_cmp, pointwise, nat_list_cmp_total}
use Rattle.std.specs.FinMap as maps
use Rattle.std.specs.FinMap.{find, is_sorted}
use Rattle.std.specs.FinMap.Entries.{below_all}
use Rattle.fx_base.specs.Extended.{extended}
use Rattle.fx_base.specs.Set as set
use Rattle.fx_base.specs.Same.{both_pass}
use Rattle.fx_base.proofs.Found.{each}
use Rattle.fx_base.proofs.KeyCases.{bytes_exact}
use Rattle.fx_base.proofs.ExtendedKeys.{is_among}
use Rattle.fx_model.specs.declared.chain.ChainRule.{ChainRule}
use Rattle.fx_model.specs.Directions.{Direction, Ingress, Egress}
use Rattle.fx_model.specs.Tables.{ChainName, Chains, root_of, dispatch_rules}
use Rattle.fx_model.specs.Tree.{Branch, has_child, child_chain}
use Rattle.fx_dispatch.specs.contracts.way.WayPartialEq.TheImpl as way
use Rattle.fx_dispatch.specs.Ways.{root_ways, way_rules}
use Rattle.fx_dispatch.specs.Differences.{stands}
use Rattle.fx_dispatch.specs.Plans.{Names, Writes, tree_of, applied, AllOnce, AreApart, touched, IsExact}
use Rattle.fx_laws.proofs.BranchLemmas.{each_found}
use Rattle.fx_laws.proofs.EntryLookups.{is, last, first, second, not_equal}
use Rattle.fx_laws.proofs.Lines.{get-extended, or_else, entry_at, given, lines, names_where}
use Rattle.fx_laws.proofs.TreeAt.{child_same, towards, chain_of, in_order, tree-root, tree-child, tree-elsewhere}
use Rattle.fx_laws.proofs.Uses.{all-append}
use Rattle.fx_dispatch.proofs.Lookups.{get-without}
use Rattle.fx_dispatch.proofs.OwnWays.{root-ways}
use Rattle.fx_dispatch.proofs.TreeLookups.{writes-both, is_deleted}
use Rattle.fx_dispatch.proofs.Written.{ob, nb, writes_between, deletes_between, for_child, for_root, replaces}
use Rattle.fx_dispatch.proofs.Deletable.{place_of}
use Rattle.fx_dispatch.proofs.Once.{apart, changes_only}

-- ---- names that stand once

-- the name is another
abbrev Other : ChainName → ChainName → Type 0
Other k n = n ≢ k

pub no_equal : (q k : ChainName) → k ≢ q → is q k ≡ false
no_equal q k other =
    elim (slice_cmp nat_cmp q k) as (λ r. slice_cmp nat_cmp q k ≡ r → is_eq r ≡ false) [
      | Less ↦ λ e. refl
      | Equal ↦ λ e. absurd (other (sym (bytes_exact q k e)))
      | Greater ↦ λ e. refl
    ] refl

apart-append : (xs ys : List ChainName) → AreApart xs → AreApart ys → AllByRecursion (λ x. AllByRecursion (Other x) ys) xs → AreApart (xs ++ ys)
apart-append [] ys h g f = g
apart-append (x ∷ xs) ys h g f = (all-append (Other x) xs ys h.0 f.0, apart-append xs ys h.1 g f.1)

names_of : (P : ChainName → Type 0) (ws : Writes) → AllByRecursion (λ w. P w.0) ws → AllByRecursion P (map (λ w. w.0) ws)
names_of P [] h = tt
names_of P (w ∷ ws) h = (h.0, names_of P ws h.1)

written_once : (ws : Writes) → AllOnce ws → AreApart (map (λ w. w.0) ws)
written_once [] h = tt
written_once (w ∷ ws) h = (names_of (Other w.0) ws h.0, written_once ws h.1)

-- ---- what is deleted stands once

-- what holds of the names of branches that pass
all_named : (P : ChainName → Type 0) (d : Direction) (h : Branch → Bool) (bs : List Branch) → AllByRecursion (λ b. P (child_chain d b.0)) bs → AllByRecursion P (names_where (child_chain d) (child_same d) h bs)
all_named P d h [] g = tt
all_named P d h (b ∷ bs) g =
    all-append P (cond (h b) (child_chain d b.0 ∷ []) []) (names_where (child_chain d) (child_same d) h bs)
    (elim (h b) as (λ t. AllByRecursion P (cond t (child_chain d b.0 ∷ []) [])) [ true ↦ (g.0, tt) | false ↦ tt ])
    (all_named P d h bs g.1)

every : (P : Branch → Type 0) (bs : List Branch) → ((b : Branch) → P b) → AllByRecursion P bs
every P [] h = tt
every P (b ∷ bs) h = (h b, every P bs h)

behind : (d : Direction) (c : List ℕ) (bs : List Branch) → T (below_all (slice_cmp nat_cmp) c bs) → AllByRecursion (λ b. Other (child_chain d c) (child_chain d b.0)) bs
behind d c [] h = tt
behind d c (b ∷ bs) h = (
  apart (child_chain d b.0) (child_chain d c) (child_same d b.0 c ∙ (eq_by_cmp_equiv nat_list_cmp_total).symm b.0 c ∙ not_equal _ (first _ _ h)),
  behind d c bs (second _ _ h),
)

one_name : (t : Bool) (k : ChainName) → AreApart (cond t (k ∷ []) [])
one_name true k = (tt, tt)
one_name false k = tt

before_all : (t : Bool) (k : ChainName) (ns : List ChainName) → AllByRecursion (Other k) ns → AllByRecursion (λ n. AllByRecursion (Other n) ns) (cond t (k ∷ []) [])
before_all true k ns h = (h, tt)
before_all false k ns h = tt

deleted_once : (d : Direction) (h : Branch → Bool) (bs : List Branch) → T (is_sorted (slice_cmp nat_cmp) bs) → AreApart (names_where (child_chain d) (child_same d) h bs)
deleted_once d h [] s = tt
deleted_once d h (b ∷ bs) s =
    let later = names_where (child_chain d) (child_same d) h bs in
    apart-append (cond (h b) (child_chain d b.0 ∷ []) []) later (one_name (h b) (child_chain d b.0)) (deleted_once d h bs (second _ _ s))
    (before_all (h b) (child_chain d b.0) later (all_named (Other (child_chain d b.0)) d h bs (behind d b.0 bs (first _ _ s))))

-- ---- what is written is the new tree's

module _ (old new : Names) where
  abbrev os : List (List ℕ)
  os = set.items old

  abbrev ns : List (List ℕ)
  ns = set.items new

  abbrev Wanted : ChainName × List ChainRule → Type 0
  Wanted w = maps.get (tree_of new) w.0 ≡ Some w.1

  wanted_child : (d : Direction) (b : Branch) → find (slice_cmp nat_cmp) b.0 (nb os ns) ≡ Some b.1 → has_child b.0 b.1 ≡ true → Wanted (child_chain d b.0, dispatch_rules d b.1)
  wanted_child d b found has =
      tree-child ns d b.0 ∙ ap (λ f. given (chain_of d) b.0 f None) found
      ∙ ap (λ t. or_else (if t then Some (dispatch_rules d b.1) else None) None) has

  wanted_children : (d : Direction) (bs : List Branch) → AllByRecursion (λ b. find (slice_cmp nat_cmp) b.0 (nb os ns) ≡ Some b.1) bs → AllByRecursion Wanted (lines (child_chain d) (child_same d) (for_child os ns d) bs)
  wanted_children d [] h = tt
  wanted_children d (b ∷ bs) h =
      all-append Wanted (entry_at (child_chain d b.0) (for_child os ns d b)) (lines (child_chain d) (child_same d) (for_child os ns d) bs)
      (elim (has_child b.0 b.1 && not (stands (ob os ns) b)) as (λ t. (has_child b.0 b.1 && not (stands (ob os ns) b)) ≡ t → AllByRecursion Wanted (entry_at (child_chain d b.0) (if t then Some (dispatch_rules d b.1) else None))) [
        | true ↦ λ p. (wanted_child d b h.0 (both_pass _ _ p).0, tt)
        | false ↦ λ p. tt
      ] refl)
      (wanted_children d bs h.1)

  wanted_root : (d : Direction) → AllByRecursion Wanted (entry_at (root_of d) (for_root os ns d))
  wanted_root d =
      elim (pointwise way.eq-value.it (root_ways os) (root_ways ns)) as (λ t. AllByRecursion Wanted (entry_at (root_of d) (if t then None else Some (way_rules d (root_ways ns))))) [
        | true ↦ tt
        | false ↦ (tree-root ns d ∙ ap Some (sym (root-ways d ns)), tt)
      ]

  wanted_towards : (d : Direction) → AllByRecursion Wanted (towards (for_child os ns) (for_root os ns) (nb os ns) d)
  wanted_towards d =
      all-append Wanted (lines (child_chain d) (child_same d) (for_child os ns d) (nb os ns)) (entry_at (root_of d) (for_root os ns d))
      (wanted_children d (nb os ns) (each_found _ ns)) (wanted_root d)

  all_wanted : AllByRecursion Wanted (writes_between os ns)
  all_wanted =
      subst (AllByRecursion Wanted) (sym (writes-both (ob os ns) (nb os ns) (root_ways os) (root_ways ns)))
      (all-append Wanted (towards (for_child os ns) (for_root os ns) (nb os ns) Ingress) (towards (for_child os ns) (for_root os ns) (nb os ns) Egress) (wanted_towards Ingress) (wanted_towards Egress))

  -- ---- each once

  deletes_once : AreApart (deletes_between os ns)
  deletes_once =
      let names = λ (d : Direction). names_where (child_chain d) (child_same d) (is_deleted (ob os ns) (nb os ns)) (ob os ns) in
      apart-append (names Ingress) (names Egress) (deleted_once Ingress _ (ob os ns) (in_order os)) (deleted_once Egress _ (ob os ns) (in_order os))
      (all_named (λ n. AllByRecursion (Other n) (names Egress)) Ingress (is_deleted (ob os ns) (nb os ns)) (ob os ns)
      (every (λ b. AllByRecursion (Other (child_chain Ingress b.0)) (names Egress)) (ob os ns) (λ b.
      all_named (Other (child_chain Ingress b.0)) Egress (is_deleted (ob os ns) (nb os ns)) (ob os ns)
      (every (λ c. Other (child_chain Ingress b.0) (child_chain Egress c.0)) (ob os ns) (λ c. apart (child_chain Egress c.0) (child_chain Ingress b.0) refl)))))

  abbrev Gone : ChainName → Type 0
  Gone n = maps.contains_key (tree_of new) n ≡ false

  written_stays : (w : ChainName × List ChainRule) → Wanted w → (n : ChainName) → Gone n → n ≢ w.0
  written_stays w wanted n gone same =
      let there : maps.contains_key (tree_of new) n ≡ true = ap (λ (k : ChainName). maps.contains_key (tree_of new) k) same ∙ ap is_some wanted in
      cc

  all_once : AreApart (touched (writes_between os ns) (deletes_between os ns))
  all_once =
      let c = changes_only old new in
      apart-append (map (λ w. w.0) (writes_between os ns)) (deletes_between os ns) (written_once (writes_between os ns) c.once) deletes_once
      (names_of (λ k. AllByRecursion (Other k) (deletes_between os ns)) (writes_between os ns)
      (each Wanted (λ w. AllByRecursion (Other w.0) (deletes_between os ns)) (λ w wanted.
      each Gone (Other w.0) (written_stays w wanted) (deletes_between os ns) c.gone) (writes_between os ns) all_wanted))

  -- ---- each differs

  abbrev Differ : ChainName → Type 0
  Differ n = maps.get (tree_of old) n ≢ maps.get (tree_of new) n

  written_differ : (ws : Writes) → AllByRecursion Wanted ws → AllByRecursion (λ w. maps.get (tree_of old) w.0 ≢ Some w.1) ws → AllByRecursion (λ w. Differ w.0) ws
  written_differ [] h g = tt
  written_differ (w ∷ ws) h g = (λ same. g.0 (same ∙ h.0), written_differ ws h.1 g.1)

  deleted_differ : (ks : List ChainName) → AllByRecursion (λ n. maps.contains_key (tree_of old) n ≡ true) ks → AllByRecursion Gone ks → AllByRecursion Differ ks
  deleted_differ [] h g = tt
  deleted_differ (k ∷ ks) h g = (λ same. differ k (ap is_some same) h.0 g.0, deleted_differ ks h.1 g.1)
    where
      differ : (k : ChainName) → maps.contains_key (tree_of old) k ≡ maps.contains_key (tree_of new) k → maps.contains_key (tree_of old) k ≡ true → Gone k → ⊥
      differ k same there gone = cc

  all_differ : AllByRecursion Differ (touched (writes_between os ns) (deletes_between os ns))
  all_differ =
      let c = changes_only old new in
      all-append Differ (map (λ w. w.0) (writes_between os ns)) (deletes_between os ns)
      (names_of Differ (writes_between os ns) (written_differ (writes_between os ns) all_wanted c.differ))
      (deleted_differ (deletes_between os ns) c.stood c.gone)

  -- ---- no other differs

  past_writes : (q : ChainName) (ws : Writes) (o : Option (List ChainRule)) → AllByRecursion (λ n. n ≢ q) (map (λ w. w.0) ws) → last ws q o ≡ o
  past_writes q [] o h = refl
  past_writes q (w ∷ ws) o h = ap (λ t. last ws q (cond t (Some w.1) o)) (no_equal q w.0 h.0) ∙ past_writes q ws o h.1

  none_among : (q : ChainName) (ks : List ChainName) → AllByRecursion (λ n. n ≢ q) ks → is_among q ks ≡ false
  none_among q [] h = refl
  none_among q (k ∷ ks) h = ap (λ t. t || is_among q ks) (no_equal q k h.0) ∙ none_among q ks h.1

  first_part : (P : ChainName → Type 0) (xs ys : List ChainName) → AllByRecursion P (xs ++ ys) → AllByRecursion P xs × AllByRecursion P ys
  first_part P [] ys h = (tt, h)
  first_part P (x ∷ xs) ys h = let rest = first_part P xs ys h.1 in ((h.0, rest.0), rest.1)

  -- a plan leaves a chain that it doesn't touch
  left : (q : ChainName) (ws : Writes) (ks : List ChainName) (chains : Chains) → AllByRecursion (λ n. n ≢ q) (touched ws ks) → maps.get (applied ws ks chains) q ≡ maps.get chains q
  left q ws ks chains h =
      let parts = first_part (λ n. n ≢ q) (map (λ w. w.0) ws) ks h in
      get-without (extended chains ws) ks q
      ∙ ap (λ t. cond t None (maps.get (extended chains ws) q)) (none_among q ks parts.1)
      ∙ get-extended chains ws q ∙ past_writes q ws (maps.get chains q) parts.0

  others_same : (q : ChainName) → AllByRecursion (λ n. n ≢ q) (touched (writes_between os ns) (deletes_between os ns)) → maps.get (tree_of old) q ≡ maps.get (tree_of new) q
  others_same q h =
      let after = (replaces old new).tree (tree_of old) (record { roots = λ d. refl; children = λ d c. refl }) in
      let same = sym (left q (writes_between os ns) (deletes_between os ns) (tree_of old) h) in
      elim (place_of q) as (λ _. maps.get (tree_of old) q ≡ maps.get (tree_of new) q) [
        | inl a ↦ same ∙ ap (maps.get (applied (writes_between os ns) (deletes_between os ns) (tree_of old))) a.1 ∙ after.roots a.0 ∙ ap (maps.get (tree_of new)) (sym a.1)
        | inr rest ↦ elim rest as (λ _. maps.get (tree_of old) q ≡ maps.get (tree_of new) q) [
          | inl b ↦ same ∙ ap (maps.get (applied (writes_between os ns) (deletes_between os ns) (tree_of old))) b.2 ∙ after.children b.0 b.1 ∙ ap (maps.get (tree_of new)) (sym b.2)
          | inr e ↦ tree-elsewhere os q e ∙ sym (tree-elsewhere ns q e)
        ]
      ]

  pub is_exact : IsExact old new (writes_between os ns) (deletes_between os ns)
  is_exact = record { once = all_once; differ = all_differ; others = others_same }
