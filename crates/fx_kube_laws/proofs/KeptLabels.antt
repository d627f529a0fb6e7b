-- What a pod's labels and those of its namespace are among the resources.
use Rattle.std.proofs.Common.{◌≡◌, ℕ, Bool, true, false, not, ◌&&◌, ◌||◌, cond, List, [], ◌∷◌, ◌++◌, map, Option, Some, None, refl, sym, ap, ◌∙◌, subst, codes}
use Rattle.std.specs.Prelude.{nat_eq, option_map, is_some, if◌then◌else◌}
use Rattle.std.specs.Option.{option_or}
use Rattle.std.specs.List.{list_all, starts_with, AllByRecursion}
use Rattle.std.specs.Str.{bytes_eq}
use Rattle.std.specs.Cmp.Lexicographic.{nat_list_cmp_total}
use Rattle.std.specs.FinMap as maps
use Rattle.fx_base.proofs.AtKey.{get_insert, get_insert_same, get_empty}
use Rattle.fx_base.proofs.Found.{entries_found, of_entries}
use Rattle.fx_base.proofs.KeyCases.{bytes_exact}
use Rattle.fx_base.specs.Same.{same_bytes}
use Rattle.fx_selector.specs.Prefixed.{prefixed}
use Rattle.fx_selector.specs.Truth.{LabelMap}
use Rattle.fx_model.specs.declared.resources.Profile.{Profile}
use Rattle.fx_model.specs.declared.resources.Resources.{Resources}
use Rattle.fx_model.specs.Labels.{over, over_others, inherited}
use Rattle.fx_fields.specs.declared.names.NamespacedName.{NamespacedName}
use Rattle.fx_fields.specs.Labels.{in_namespace, with_given, own_labels}
use Rattle.fx_json.specs.Kubernetes as kubernetes
use Rattle.fx_k8s.specs.Clusters.{namespace_entry, account_entry, IsConverted, is_plain_key, begin_with}
use Rattle.fx_k8s.specs.KubeVerdict.{Pod, Cluster, labels_in, namespace_labels}
use Rattle.fx_k8s.specs.Profiles.{namespace_profile}
use Rattle.fx_laws.proofs.EntryLookups.{is, is_same}
use Rattle.fx_kube_laws.proofs.Chain.{labels_among, HasLabels, LabelsAreKept}
use Rattle.fx_kube_laws.proofs.Lists.{every, tested, all-first, of_map, to_map, to_both, or_none, get-over, get-behind, get-none}

-- ---- names of keys

no_or_first : (a b : Bool) → not (a || b) ≡ true → a ≡ false
no_or_first true b h = cc
no_or_first false b h = refl

no_or_second : (a b : Bool) → not (a || b) ≡ true → not b ≡ true
no_or_second true b h = cc
no_or_second false b h = h

no : (a : Bool) → not a ≡ true → a ≡ false
no true h = cc
no false h = refl

module _ (k : List ℕ) (plain : is_plain_key k ≡ true) where
  abbrev of_namespaces : Bool
  of_namespaces = starts_with nat_eq k (codes "pcns.")

  abbrev of_accounts : Bool
  of_accounts = starts_with nat_eq k (codes "pcsa.")

  abbrev of_calico : Bool
  of_calico = starts_with nat_eq k (codes "projectcalico.org/")

  pub not_of_namespaces : starts_with nat_eq k (codes "pcns.") ≡ false
  not_of_namespaces = no_or_first of_namespaces (of_accounts || of_calico) plain

  pub not_of_accounts : starts_with nat_eq k (codes "pcsa.") ≡ false
  not_of_accounts = no_or_first of_accounts of_calico (no_or_second of_namespaces (of_accounts || of_calico) plain)

  -- it is none of a key that isn't plain
  other_key : (q : List ℕ) → is_plain_key q ≡ false → is k q ≡ false
  other_key q h = by (is k q) refl
    where
      by : (b : Bool) → is k q ≡ b → b ≡ false
      by false e = refl
      by true e = sym plain ∙ ap is_plain_key (is_same k q e) ∙ h

-- ---- the labels that a pod has of its own

module _ (given : LabelMap) (ns : List ℕ) where
  with_account : (account : Option (List ℕ)) (k : List ℕ) → is k (codes "projectcalico.org/serviceaccount") ≡ false → maps.get (with_given (codes "projectcalico.org/serviceaccount") account (in_namespace ns given)) k ≡ maps.get (in_namespace ns given) k
  with_account None k h = refl
  with_account (Some a) k h =
      get_insert (in_namespace ns given) (codes "projectcalico.org/serviceaccount") a k ∙ ap (λ b. cond b (Some a) (maps.get (in_namespace ns given) k)) h

  module _ (account : Option (List ℕ)) where
    abbrev own : LabelMap
    own = own_labels given ns account (Some (codes "k8s"))

    own_at : (k : List ℕ) → is k (codes "projectcalico.org/orchestrator") ≡ false → is k (codes "projectcalico.org/serviceaccount") ≡ false → maps.get own k ≡ cond (is k (codes "projectcalico.org/namespace")) (Some ns) (maps.get given k)
    unfolding own_labels
    own_at k h g =
        get_insert (with_given (codes "projectcalico.org/serviceaccount") account (in_namespace ns given)) (codes "projectcalico.org/orchestrator") (codes "k8s") k
        ∙ ap (λ b. cond b (Some (codes "k8s")) (maps.get (with_given (codes "projectcalico.org/serviceaccount") account (in_namespace ns given)) k)) h
        ∙ with_account account k g
        ∙ get_insert given (codes "projectcalico.org/namespace") ns k

    own_orchestrator : maps.get own (codes "projectcalico.org/orchestrator") ≡ Some (codes "k8s")
    unfolding own_labels
    own_orchestrator = get_insert_same (with_given (codes "projectcalico.org/serviceaccount") account (in_namespace ns given)) (codes "projectcalico.org/orchestrator") (codes "k8s")

    own_namespace : maps.get own (codes "projectcalico.org/namespace") ≡ Some ns
    own_namespace = own_at (codes "projectcalico.org/namespace") refl refl

    own_plain : (k : List ℕ) → is_plain_key k ≡ true → maps.get own k ≡ maps.get given k
    own_plain k plain =
        own_at k (other_key k plain (codes "projectcalico.org/orchestrator") refl) (other_key k plain (codes "projectcalico.org/serviceaccount") refl)
        ∙ ap (λ b. cond b (Some ns) (maps.get given k)) (other_key k plain (codes "projectcalico.org/namespace") refl)

    own_inherited : (k : List ℕ) → maps.get own (codes "pcns." ++ k) ≡ maps.get given (codes "pcns." ++ k)
    own_inherited k = own_at (codes "pcns." ++ k) refl refl

-- ---- profiles

-- the entry that is found is one of those
found_in : (P : List ℕ × LabelMap → Type 0) (ns : List (List ℕ × LabelMap)) (name : List ℕ) (m : LabelMap) → AllByRecursion P ns → labels_in ns name ≡ Some m → P (name, m)
found_in P [] name m h e = cc
found_in P (n ∷ ns) name m h e = by (bytes_eq n.0 name) refl e (found_in P ns name m h.1)
  where
    by : (b : Bool) → bytes_eq n.0 name ≡ b → (if b then Some n.1 else labels_in ns name) ≡ Some m → (labels_in ns name ≡ Some m → P (name, m)) → P (name, m)
    by true t is later = let value : n.1 ≡ m = cc in subst P (λ i. (same_bytes n.0 name t i, value i)) h.0
    by false t is later = later is

module _ (K : Cluster) (R : Resources) (converted : IsConverted K R) where
  abbrev IsThere : List ℕ × Profile → Type 0
  IsThere e = maps.get R.profiles e.0 ≡ Some e.1

  all_there : AllByRecursion IsThere (map namespace_entry K.namespaces ++ map account_entry K.accounts)
  all_there = subst (AllByRecursion IsThere) converted.profiles (entries_found nat_list_cmp_total R.profiles)

  pub namespace_there : (ns : List ℕ) (m : LabelMap) → namespace_labels K ns ≡ Some m → maps.get R.profiles (kubernetes.namespace_profile ns) ≡ Some (namespace_profile m)
  namespace_there ns m e =
      found_in (λ x. IsThere (namespace_entry x)) K.namespaces ns m (of_map IsThere namespace_entry K.namespaces (all-first IsThere (map namespace_entry K.namespaces) (map account_entry K.accounts) all_there)) e

  -- a profile of an account has no label but those of accounts
  abbrev GivesNone : List ℕ × Profile → Type 0
  GivesNone e = starts_with nat_eq e.0 (codes "ksa.") ≡ true → (k : List ℕ) → starts_with nat_eq k (codes "pcsa.") ≡ false → maps.get e.1.labels k ≡ None

  of_namespace : (x : List ℕ × LabelMap) → GivesNone (namespace_entry x)
  of_namespace x h = cc

  of_account : (x : NamespacedName × LabelMap) → GivesNone (account_entry x)
  of_account x h k g = get-none (codes "pcsa.") x.1 k g

  all_give_none : AllByRecursion GivesNone (maps.entries R.profiles)
  all_give_none =
      subst (AllByRecursion GivesNone) (sym converted.profiles)
      (to_both GivesNone (map namespace_entry K.namespaces) (map account_entry K.accounts)
      (to_map GivesNone namespace_entry K.namespaces (every (λ x. GivesNone (namespace_entry x)) of_namespace K.namespaces))
      (to_map GivesNone account_entry K.accounts (every (λ x. GivesNone (account_entry x)) of_account K.accounts)))

  abbrev parents : List ℕ → Option LabelMap
  parents name = option_map (λ (p : Profile). p.labels) (maps.get R.profiles name)

  -- what accounts give
  accounts_give : (names : List (List ℕ)) → AllByRecursion (λ q. starts_with nat_eq q (codes "ksa.") ≡ true) names → (k : List ℕ) → starts_with nat_eq k (codes "pcsa.") ≡ false → maps.get (inherited parents names) k ≡ None
  accounts_give [] h k g = get_empty k
  accounts_give (q ∷ qs) h k g = by (maps.get R.profiles q) refl (accounts_give qs h.1 k g)
    where
      by : (o : Option Profile) → maps.get R.profiles q ≡ o → maps.get (inherited parents qs) k ≡ None → maps.get (over_others (option_map (λ (p : Profile). p.labels) o) (inherited parents qs)) k ≡ None
      by None e rest = rest
      by (Some p) e rest =
          get-over p.labels (inherited parents qs) k
          ∙ ap (λ (o : Option (List ℕ)). option_or o (maps.get (inherited parents qs) k)) (of_entries nat_list_cmp_total bytes_exact GivesNone R.profiles q p all_give_none e h.0 k g)
          ∙ rest

  -- ---- a pod

  module _ (pod : Pod) (m : LabelMap) (is_there : namespace_labels K pod.ns ≡ Some m) (orchestrated : pod.orchestrator ≡ Some (codes "k8s")) (keys : list_all (λ e. is_plain_key e.0) (maps.entries pod.labels) ≡ true) (rest : List (List ℕ)) (lists : pod.profiles ≡ kubernetes.namespace_profile pod.ns ∷ rest) (accounts : AllByRecursion (λ q. starts_with nat_eq q (codes "ksa.") ≡ true) rest) where
    abbrev own_of : LabelMap
    own_of = own_labels pod.labels pod.ns pod.account (Some (codes "k8s"))

    abbrev all : LabelMap
    all = over own_of (over (prefixed (codes "pcns.") m) (inherited parents rest))

    all_are : labels_among R pod ≡ all
    all_are =
        ap (λ (o : Option (List ℕ)). over (own_labels pod.labels pod.ns pod.account o) (inherited parents pod.profiles)) orchestrated
        ∙ ap (λ (ps : List (List ℕ)). over own_of (inherited parents ps)) lists
        ∙ ap (λ (o : Option Profile). over own_of (over_others (option_map (λ (p : Profile). p.labels) o) (inherited parents rest))) (namespace_there pod.ns m is_there)

    -- one of its own, or of its namespace, or of its accounts
    got : (k : List ℕ) → maps.get (labels_among R pod) k ≡ option_or (maps.get own_of k) (option_or (maps.get (prefixed (codes "pcns.") m) k) (maps.get (inherited parents rest) k))
    got k =
        ap (λ (n : LabelMap). maps.get n k) all_are
        ∙ get-over own_of (over (prefixed (codes "pcns.") m) (inherited parents rest)) k
        ∙ ap (λ (o : Option (List ℕ)). option_or (maps.get own_of k) o) (get-over (prefixed (codes "pcns.") m) (inherited parents rest) k)

    -- no own label of a pod has a key of namespaces
    no_label : (k : List ℕ) → maps.get pod.labels (codes "pcns." ++ k) ≡ None
    no_label k = by (maps.get pod.labels (codes "pcns." ++ k)) refl
      where
        by : (o : Option (List ℕ)) → maps.get pod.labels (codes "pcns." ++ k) ≡ o → o ≡ None
        by None e = refl
        by (Some v) e =
            let plain : is_plain_key (codes "pcns." ++ k) ≡ true = of_entries nat_list_cmp_total bytes_exact (λ x. is_plain_key x.0 ≡ true) pod.labels (codes "pcns." ++ k) v (tested (λ x. is_plain_key x.0) (maps.entries pod.labels) keys) e in
            let wrong : false ≡ true = plain in cc

    has_labels : HasLabels K R pod
    has_labels = record {
      given = λ k plain.
          got k
          ∙ ap (λ (o : Option (List ℕ)). option_or (maps.get own_of k) (option_or (maps.get (prefixed (codes "pcns.") m) k) o)) (accounts_give rest accounts k (not_of_accounts k plain))
          ∙ ap (λ (o : Option (List ℕ)). option_or (maps.get own_of k) (option_or o None)) (get-none (codes "pcns.") m k (not_of_namespaces k plain))
          ∙ or_none (maps.get own_of k)
          ∙ own_plain pod.labels pod.ns pod.account k plain;
      namespace =
          got (codes "projectcalico.org/namespace")
          ∙ ap (λ (o : Option (List ℕ)). option_or o (option_or (maps.get (prefixed (codes "pcns.") m) (codes "projectcalico.org/namespace")) (maps.get (inherited parents rest) (codes "projectcalico.org/namespace")))) (own_namespace pod.labels pod.ns pod.account);
      orchestrator =
          got (codes "projectcalico.org/orchestrator")
          ∙ ap (λ (o : Option (List ℕ)). option_or o (option_or (maps.get (prefixed (codes "pcns.") m) (codes "projectcalico.org/orchestrator")) (maps.get (inherited parents rest) (codes "projectcalico.org/orchestrator")))) (own_orchestrator pod.labels pod.ns pod.account);
      inherited = λ n is k.
          let same : m ≡ n = some_is m n (sym is_there ∙ is) in
          got (codes "pcns." ++ k)
          ∙ ap (λ (o : Option (List ℕ)). option_or o (option_or (maps.get (prefixed (codes "pcns.") m) (codes "pcns." ++ k)) (maps.get (inherited parents rest) (codes "pcns." ++ k)))) (own_inherited pod.labels pod.ns pod.account k ∙ no_label k)
          ∙ ap (λ (o : Option (List ℕ)). option_or (maps.get (prefixed (codes "pcns.") m) (codes "pcns." ++ k)) o) (accounts_give rest accounts (codes "pcns." ++ k) refl)
          ∙ or_none (maps.get (prefixed (codes "pcns.") m) (codes "pcns." ++ k))
          ∙ get-behind (codes "pcns.") m k
          ∙ ap (λ (l : LabelMap). maps.get l k) same;
    }
      where
        some_is : (x y : LabelMap) → Some x ≡ Some y → x ≡ y
        some_is x y e = cc

split : (a b : Bool) → (a && b) ≡ true → (a ≡ true) × (b ≡ true)
split true b h = (refl, h)
split false b h = cc

pub labels_are_kept : LabelsAreKept
labels_are_kept K R pod converted is = by (namespace_labels K pod.ns) refl is.namespace pod.profiles refl is.profiles
  where
    by : (o : Option LabelMap) → namespace_labels K pod.ns ≡ o → is_some o ≡ true → (ps : List (List ℕ)) → pod.profiles ≡ ps → begin_with pod.ns ps ≡ true → HasLabels K R pod
    by None e h ps f g = cc
    by (Some m) e h [] f g = cc
    by (Some m) e h (p ∷ ps) f g =
        let tests = split (bytes_eq p (kubernetes.namespace_profile pod.ns)) (list_all (λ q. starts_with nat_eq q (codes "ksa.")) ps) g in
        has_labels K R converted pod m e is.orchestrator is.labels ps (f ∙ ap (λ (q : List ℕ). q ∷ ps) (same_bytes p (kubernetes.namespace_profile pod.ns) tests.0)) (tested (λ q. starts_with nat_eq q (codes "ksa.")) ps tests.1)
