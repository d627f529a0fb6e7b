-- Selectors that are made of label selectors hold where those do.
use Rattle.std.proofs.Common.{◌≡◌, ℕ, Bool, true, false, not, ◌&&◌, ◌||◌, List, [], ◌∷◌, ◌++◌, map, Option, Some, None, refl, sym, ap, ◌∙◌, codes}
use Rattle.std.specs.Prelude.{is_some}
use Rattle.std.specs.List.{list_any, list_all, AllByRecursion}
use Rattle.std.specs.Option.{option_map_or}
use Rattle.std.specs.Ordering.{nat_cmp, match_ordering}
use Rattle.std.specs.Str.{bytes_eq}
use Rattle.std.specs.declared.cmp.Ordering.TheVariants.{Less, Equal, Greater}
use Rattle.std.specs.Cmp.Lexicographic.{slice_cmp}
use Rattle.std.specs.FinMap as maps
use Rattle.std.proofs.lemmas.List.Folds.{list_all-append}
use Rattle.fx_base.proofs.KeyCases.{bytes_exact}
use Rattle.fx_base.specs.Same.{both_pass}
use Rattle.fx_selector.specs.Rewriting.{namespace_tree}
use Rattle.fx_selector.specs.Tree.{Tree, many, and_of, put, set_of}
use Rattle.fx_selector.specs.Truth.{LabelMap, is_among, holds, hold_all}
use Rattle.fx_model.specs.declared.resources.Resources.{Resources}
use Rattle.fx_fields.specs.Selectors.{of_namespace}
use Rattle.fx_k8s.specs.declared.expressions.Expression.{Expression}
use Rattle.fx_k8s.specs.declared.expressions.Expression.TheVariants.{In, NotIn, Exists, DoesNotExist}
use Rattle.fx_k8s.specs.declared.label_selectors.LabelPair.{LabelPair}
use Rattle.fx_k8s.specs.declared.label_selectors.LabelSelector.{LabelSelector}
use Rattle.fx_k8s.specs.Clusters.{is_plain_key, key_of, asks_plainly_given}
use Rattle.fx_k8s.specs.Conversion.{pair_tree, expression_tree, selector_trees, given_trees, orchestrated, some_namespace, namespace_trees}
use Rattle.fx_k8s.specs.KubeVerdict.{Pod, Cluster, is_listed, pair_holds, expression_holds, selects, selects_given, namespace_labels, in_namespaces}
use Rattle.fx_kube_laws.proofs.Chain.{labels_among, HasLabels, SelectorsAreKept, PoliciesSelectTheSame, PeersAreTheSame}
use Rattle.fx_kube_laws.proofs.Lists.{unmoved_and, all-same, all-map, every, tested, each}

-- ---- parts together

abbrev all_hold : LabelMap → List Tree → Bool
all_hold m ts = list_all (λ t. holds t m) ts

many-hold : (ts : List Tree) (m : LabelMap) → hold_all (many ts) m ≡ all_hold m ts
many-hold [] m = refl
many-hold (t ∷ ts) m = ap (λ b. holds t m && b) (many-hold ts m)

pub and-holds : (ts : List Tree) (m : LabelMap) → holds (and_of ts) m ≡ all_hold m ts
and-holds [] m = refl
and-holds (t ∷ []) m = sym (unmoved_and (holds t m))
and-holds (t ∷ u ∷ us) m = many-hold (t ∷ u ∷ us) m

-- ---- values

twice : (a b : Bool) → (a || b) ≡ (a || (a || b))
twice true b = refl
twice false b = refl

swapped : (a b c : Bool) → (a || (b || c)) ≡ (b || (a || c))
swapped true true c = refl
swapped true false c = refl
swapped false b c = refl

module _ (q : List ℕ → Bool) where
  any-put : (v : List ℕ) (ws : List (List ℕ)) → list_any q (put v ws) ≡ (q v || list_any q ws)
  any-put v [] = refl
  any-put v (w ∷ ws) =
      elim (slice_cmp nat_cmp v w) as (λ r. slice_cmp nat_cmp v w ≡ r → list_any q (match_ordering r (v ∷ w ∷ ws) (w ∷ ws) (w ∷ put v ws)) ≡ (q v || (q w || list_any q ws))) [
        | Less ↦ λ e. refl
        | Equal ↦ λ e. twice (q w) (list_any q ws) ∙ ap (λ (x : List ℕ). q x || (q w || list_any q ws)) (sym (bytes_exact v w e))
        | Greater ↦ λ e. ap (λ b. q w || b) (any-put v ws) ∙ swapped (q w) (q v) (list_any q ws)
      ] refl

  any-set : (vs : List (List ℕ)) → list_any q (set_of vs) ≡ list_any q vs
  any-set [] = refl
  any-set (v ∷ vs) = any-put v (set_of vs) ∙ ap (λ b. q v || b) (any-set vs)

among-listed : (vs : List (List ℕ)) (x : List ℕ) → is_among (set_of vs) x ≡ is_listed vs x
among-listed vs x = any-set (λ v. bytes_eq v x) vs

listed-same : (vs : List (List ℕ)) (o : Option (List ℕ)) → option_map_or (is_among (set_of vs)) o false ≡ option_map_or (is_listed vs) o false
listed-same vs None = refl
listed-same vs (Some x) = among-listed vs x

unlisted-same : (vs : List (List ℕ)) (o : Option (List ℕ)) → option_map_or (λ x. not (is_among (set_of vs) x)) o true ≡ option_map_or (λ x. not (is_listed vs x)) o true
unlisted-same vs None = refl
unlisted-same vs (Some x) = ap not (among-listed vs x)

-- ---- label selectors

module _ (m n : LabelMap) where
  -- the labels n have at this key what m have
  abbrev IsSame : List ℕ → Type 0
  IsSame k = maps.get n k ≡ maps.get m k

  pair-same : (p : LabelPair) → IsSame p.key → holds (pair_tree p) n ≡ pair_holds m p
  pair-same p e = ap (λ (o : Option (List ℕ)). option_map_or (λ x. bytes_eq x p.value) o false) e

  expression-same : (x : Expression) → IsSame (key_of x) → holds (expression_tree x) n ≡ expression_holds m x
  expression-same (In k vs) e = ap (λ (o : Option (List ℕ)). option_map_or (is_among (set_of vs)) o false) e ∙ listed-same vs (maps.get m k)
  expression-same (NotIn k vs) e = ap (λ (o : Option (List ℕ)). option_map_or (λ x. not (is_among (set_of vs) x)) o true) e ∙ unlisted-same vs (maps.get m k)
  expression-same (Exists k) e = ap is_some e
  expression-same (DoesNotExist k) e = ap (λ (o : Option (List ℕ)). not (is_some o)) e

  selector-same : (s : LabelSelector) → AllByRecursion (λ (p : LabelPair). IsSame p.key) s.labels → AllByRecursion (λ x. IsSame (key_of x)) s.expressions → all_hold n (selector_trees s) ≡ selects s m
  selector-same s h g =
      list_all-append (λ t. holds t n) (map pair_tree s.labels) (map expression_tree s.expressions)
      ∙ (λ i. (all-map (λ t. holds t n) pair_tree s.labels ∙ all-same (λ p. holds (pair_tree p) n) (pair_holds m) s.labels (each (λ (p : LabelPair). IsSame p.key) (λ p. holds (pair_tree p) n ≡ pair_holds m p) pair-same s.labels h)) i
      && (all-map (λ t. holds t n) expression_tree s.expressions ∙ all-same (λ x. holds (expression_tree x) n) (expression_holds m) s.expressions (each (λ x. IsSame (key_of x)) (λ x. holds (expression_tree x) n ≡ expression_holds m x) expression-same s.expressions g)) i)

  -- at the keys of namespaces, the labels n have what m have
  module _ (inherits : (k : List ℕ) → maps.get n (codes "pcns." ++ k) ≡ maps.get m k) where
    pair-inherited : (p : LabelPair) → holds (namespace_tree (pair_tree p)) n ≡ pair_holds m p
    pair-inherited p = ap (λ (o : Option (List ℕ)). option_map_or (λ x. bytes_eq x p.value) o false) (inherits p.key)

    expression-inherited : (x : Expression) → holds (namespace_tree (expression_tree x)) n ≡ expression_holds m x
    expression-inherited (In k vs) = ap (λ (o : Option (List ℕ)). option_map_or (is_among (set_of vs)) o false) (inherits k) ∙ listed-same vs (maps.get m k)
    expression-inherited (NotIn k vs) = ap (λ (o : Option (List ℕ)). option_map_or (λ x. not (is_among (set_of vs) x)) o true) (inherits k) ∙ unlisted-same vs (maps.get m k)
    expression-inherited (Exists k) = ap is_some (inherits k)
    expression-inherited (DoesNotExist k) = ap (λ (o : Option (List ℕ)). not (is_some o)) (inherits k)

    selector-inherited : (s : LabelSelector) → all_hold n (map namespace_tree (selector_trees s)) ≡ selects s m
    selector-inherited s =
        all-map (λ t. holds t n) namespace_tree (selector_trees s)
        ∙ list_all-append (λ t. holds (namespace_tree t) n) (map pair_tree s.labels) (map expression_tree s.expressions)
        ∙ (λ i. (all-map (λ t. holds (namespace_tree t) n) pair_tree s.labels ∙ all-same (λ p. holds (namespace_tree (pair_tree p)) n) (pair_holds m) s.labels (every (λ p. holds (namespace_tree (pair_tree p)) n ≡ pair_holds m p) pair-inherited s.labels)) i
        && (all-map (λ t. holds (namespace_tree t) n) expression_tree s.expressions ∙ all-same (λ x. holds (namespace_tree (expression_tree x)) n) (expression_holds m) s.expressions (every (λ x. holds (namespace_tree (expression_tree x)) n ≡ expression_holds m x) expression-inherited s.expressions)) i)

-- where keys are plain
pub selectors_are_kept : SelectorsAreKept
selectors_are_kept s m n plain same =
    let tests = both_pass (list_all (λ p. is_plain_key p.key) s.labels) (list_all (λ e. is_plain_key (key_of e)) s.expressions) plain in
    selector-same m n s
    (each (λ p. is_plain_key p.key ≡ true) (λ (p : LabelPair). IsSame m n p.key) (λ p h. same p.key h) s.labels (tested (λ p. is_plain_key p.key) s.labels tests.0))
    (each (λ e. is_plain_key (key_of e) ≡ true) (λ x. IsSame m n (key_of x)) (λ x h. same (key_of x) h) s.expressions (tested (λ e. is_plain_key (key_of e)) s.expressions tests.1))

-- ---- pods

module _ (K : Cluster) (R : Resources) (pod : Pod) (has : HasLabels K R pod) where
  abbrev n : LabelMap
  n = labels_among R pod

  orchestrated-holds : holds orchestrated n ≡ true
  orchestrated-holds = ap (λ (o : Option (List ℕ)). option_map_or (λ x. bytes_eq x (codes "k8s")) o false) has.orchestrator

  of_namespace-holds : (ns : List ℕ) → holds (of_namespace ns) n ≡ bytes_eq pod.ns ns
  of_namespace-holds ns = ap (λ (o : Option (List ℕ)). option_map_or (λ x. bytes_eq x ns) o false) has.namespace

  given-same : (o : Option LabelSelector) → asks_plainly_given o ≡ true → all_hold n (given_trees o) ≡ selects_given o pod.labels
  given-same None h = refl
  given-same (Some s) h = selectors_are_kept s pod.labels n h has.given

  namespaces-same : (own : List ℕ) (o : Option LabelSelector) → is_some (namespace_labels K pod.ns) ≡ true → all_hold n (namespace_trees own o) ≡ in_namespaces K own o pod.ns
  namespaces-same own None h = unmoved_and (holds (of_namespace own) n) ∙ of_namespace-holds own
  namespaces-same own (Some s) h = by (namespace_labels K pod.ns) refl h
    where
      -- where nothing is asked, there is a namespace
      some-holds : (ts : List Tree) → all_hold n (some_namespace ts) ≡ all_hold n ts
      some-holds [] = ap (λ (o : Option (List ℕ)). is_some o && true) has.namespace
      some-holds (t ∷ ts) = refl

      by : (o : Option LabelMap) → namespace_labels K pod.ns ≡ o → is_some o ≡ true → all_hold n (some_namespace (map namespace_tree (selector_trees s))) ≡ option_map_or (selects s) o false
      by None e g = cc
      by (Some m) e g = some-holds (map namespace_tree (selector_trees s)) ∙ selector-inherited m n (has.inherited m e) s

pub policies_select_the_same : PoliciesSelectTheSame
policies_select_the_same K R pod ns s has plain =
    and-holds (selector_trees s ++ orchestrated ∷ of_namespace ns ∷ []) (labels_among R pod)
    ∙ list_all-append (λ t. holds t (labels_among R pod)) (selector_trees s) (orchestrated ∷ of_namespace ns ∷ [])
    ∙ (λ i. selectors_are_kept s pod.labels (labels_among R pod) plain has.given i && (orchestrated-holds K R pod has i && (of_namespace-holds K R pod has ns i && true)))
    ∙ ap (λ b. selects s pod.labels && b) (unmoved_and (bytes_eq pod.ns ns))

pub peers_are_the_same : PeersAreTheSame
peers_are_the_same K R pod own p is has plain =
    and-holds (given_trees p.pods ++ orchestrated ∷ namespace_trees own p.namespaces) (labels_among R pod)
    ∙ list_all-append (λ t. holds t (labels_among R pod)) (given_trees p.pods) (orchestrated ∷ namespace_trees own p.namespaces)
    ∙ (λ i. given-same K R pod has p.pods plain i && (orchestrated-holds K R pod has i && namespaces-same K R pod has own p.namespaces is.namespace i))
