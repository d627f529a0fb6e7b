-- The selectors that the index counts are the live ones of the resources.
use Rattle.std.proofs.Common.{◌≡◌, ◌⊎◌, inl, inr, ℕ, true, false, List, ◌++◌, map, Option, Some, None, is_some, refl, sym, ap, ◌∙◌, subst}
use Rattle.std.specs.Prelude.{option_map}
use Rattle.std.specs.List.{AllByRecursion}
use Rattle.std.specs.Cmp.Lexicographic.{nat_list_cmp_total}
use Rattle.std.specs.FinMap as maps
use Rattle.fx_base.proofs.FilledLemmas.{value_there}
use Rattle.fx_base.proofs.Found.{each, entries_found, of_entries}
use Rattle.fx_base.proofs.KeyCases.{bytes_exact}
use Rattle.fx_names.specs.Digests.{Digest}
use Rattle.fx_selector.specs.Tree.{Tree, IsSelector}
use Rattle.fx_selector.specs.Canonical.{canonical_text}
use Rattle.fx_laws.proofs.Uses.{all-append, all-first, all-second, all-map, each-map}
use Rattle.fx_model.proofs.Orders.{policy_total, exact_policy}
use Rattle.fx_model.specs.declared.ids.PolicyId.{PolicyId}
use Rattle.fx_model.specs.declared.policy.Policy.{Policy}
use Rattle.fx_model.specs.declared.resources.Resources.{Resources}
use Rattle.fx_model.specs.declared.set_use.SetUse.{SetUse}
use Rattle.fx_model.specs.declared.view.View.{View}
use Rattle.fx_model.specs.Pairs.{PolicyPairs}
use Rattle.fx_model.specs.Sets.{use_name}
use Rattle.fx_model.specs.Sinks.{Policies, Profiles, Uses}
use Rattle.fx_model.specs.Tests.{policy_selectors, set_selectors, by_text, live}
use Rattle.fx_model.specs.Views.{wanted_uses}
use Rattle.fx_label_index.proofs.Canonicals.{one_canonical}
use Rattle.fx_label_index.specs.declared.counted.Counted.{Counted}
use Rattle.fx_label_index.specs.declared.held.Inputs as index
use Rattle.fx_active.specs.declared.inputs.Inputs as active
use Rattle.fx_scanner.specs.declared.inputs.Inputs as scanner
use Rattle.fx_scanner.specs.Apart.{IsUsed}
use Rattle.fx_resolver.specs.declared.inputs.Inputs as resolver
use Rattle.fx_members.specs.declared.inputs.Inputs as members
use Rattle.fx_node_laws.specs.Counted.{IsTextOfPolicy, IsTextOfSet, CountsUsed}
use Rattle.fx_node_laws.specs.Tied.{IsTied}
use Rattle.fx_node_laws.specs.Told.{IsTold}
use Rattle.fx_node_laws.proofs.Defining.{defined}
use Rattle.fx_node_laws.proofs.Given.{IsGiven, given}
use Rattle.fx_node_laws.proofs.Made.{keys_extended, at_collected}
use Rattle.fx_node_laws.proofs.Mapped.{value_at, entries_mapped, mapped-each, is_mapped}
use Rattle.fx_node_laws.proofs.UsesTold.{of_wanted, wanted_used, use_named, in_uses}

-- the selector under a text
abbrev pub selector_of : List ℕ × Counted → List ℕ × Tree
selector_of e = (e.0, e.1.selector)

as_value : (t : List ℕ) (o : Option Counted) → option_map (λ (c : Counted). c.selector) o ≡ value_at (λ (t : List ℕ) (c : Counted). Some c.selector) t o
as_value t None = refl
as_value t (Some c) = refl

module _ {dg : Digest} {R : Resources} {n : index.Inputs} {a : active.Inputs} {policies : Policies} {profiles : Profiles} {pairs : PolicyPairs} {s : scanner.Inputs} {r : resolver.Inputs} {m : members.Inputs} {v : View} {uses : Uses}
    (tied : IsTied dg R n a r m) (told : IsTold dg n a policies profiles pairs s r m v uses) (counts : CountsUsed n.selectors a.policies uses) where
  rules_given : IsGiven R s
  rules_given = given (defined tied policies profiles pairs told.composed) told.scanned_policies told.scanned_profiles

  -- what the resources ask for, in order
  abbrev asked : List Tree
  asked = policy_selectors R ++ set_selectors R

  -- ---- what is live is counted

  abbrev IsCounted : Tree → Type 0
  IsCounted t = IsSelector t × (maps.contains_key n.selectors (canonical_text t) ≡ true)

  policy_counted : (x : PolicyId × Policy) → maps.get R.policies x.0 ≡ Some x.1 → IsCounted x.1.selector
  policy_counted x at = counts.of_policies x.0 x.1 (ap (λ (ps : Policies). maps.get ps x.0) tied.policies ∙ at)

  use_counted : (u : SetUse) → IsUsed s u → IsCounted u.selector
  use_counted u used =
      let there : (w : SetUse) × (maps.get uses (use_name dg u) ≡ Some w) = value_there (maps.get uses (use_name dg u)) (in_uses dg s uses told.scanned.uses_are u used) in
      let named : IsUsed s there.0 × (use_name dg there.0 ≡ use_name dg u) = use_named dg s uses told.scanned.uses_are (use_name dg u) there.0 there.1 in
      subst (λ (w : SetUse). IsCounted w.selector) (told.scanned.apart.uses_apart there.0 u named.0 used named.1) (counts.of_sets (use_name dg u) there.0 there.1)

  all_counted : AllByRecursion IsCounted asked
  all_counted =
      all-append IsCounted (policy_selectors R) (set_selectors R)
      (all-map IsCounted (λ (x : PolicyId × Policy). x.1.selector) (maps.entries R.policies)
      (each (λ (x : PolicyId × Policy). maps.get R.policies x.0 ≡ Some x.1) (λ x. IsCounted x.1.selector) policy_counted (maps.entries R.policies) (entries_found policy_total R.policies)))
      (all-map IsCounted (λ (u : SetUse). u.selector) (wanted_uses R)
      (each (IsUsed s) (λ (u : SetUse). IsCounted u.selector) use_counted (wanted_uses R) (wanted_used rules_given)))

  -- counted, and under its own text
  abbrev IsAt : List ℕ → Tree → Type 0
  IsAt t x = IsCounted x × (t ≡ canonical_text x)

  live_counted : (t : List ℕ) (x : Tree) → maps.get (live R) t ≡ Some x → IsAt t x
  live_counted = at_collected IsAt (map by_text asked)
      (all-map (λ (e : List ℕ × Tree). IsAt e.0 e.1) by_text asked (each IsCounted (λ (x : Tree). IsAt (canonical_text x) x) (λ x is. (is, refl)) asked all_counted))

  -- ---- what is counted is live

  abbrev IsLive : Tree → Type 0
  IsLive x = maps.contains_key (live R) (canonical_text x) ≡ true

  all_live : AllByRecursion IsLive asked
  all_live = each-map (λ (e : List ℕ × Tree). maps.contains_key (live R) e.0 ≡ true) by_text asked (keys_extended maps.empty (map by_text asked))

  policy_live : (id : PolicyId) (p : Policy) → maps.get R.policies id ≡ Some p → IsLive p.selector
  policy_live id p at =
      of_entries policy_total exact_policy (λ (x : PolicyId × Policy). IsLive x.1.selector) R.policies id p
      (each-map IsLive (λ (x : PolicyId × Policy). x.1.selector) (maps.entries R.policies) (all-first IsLive (policy_selectors R) (set_selectors R) all_live)) at

  use_live : (u : SetUse) → IsUsed s u → IsLive u.selector
  use_live = of_wanted rules_given (λ (u : SetUse). IsLive u.selector)
      (each-map IsLive (λ (u : SetUse). u.selector) (wanted_uses R) (all-second IsLive (policy_selectors R) (set_selectors R) all_live))

  counted_live : (t : List ℕ) → maps.contains_key n.selectors t ≡ true → maps.contains_key (live R) t ≡ true
  counted_live t h = by_origin (counts.no_others t h)
    where
      by_origin : IsTextOfPolicy a.policies t ⊎ IsTextOfSet uses t → maps.contains_key (live R) t ≡ true
      by_origin (inl x) = ap (maps.contains_key (live R)) x.1.1.1 ∙ policy_live x.0 x.1.0 (ap (λ (ps : Policies). maps.get ps x.0) (sym tied.policies) ∙ x.1.1.0)
      by_origin (inr x) = ap (maps.contains_key (live R)) x.1.1.1 ∙ use_live x.1.0 (use_named dg s uses told.scanned.uses_are x.0 x.1.0 x.1.1.0).0

  -- ---- so at each text the same selector stands

  selectors_alike : (t : List ℕ) → option_map (λ (c : Counted). c.selector) (maps.get n.selectors t) ≡ maps.get (live R) t
  selectors_alike t = by_values (maps.get n.selectors t) (maps.get (live R) t) refl refl
    where
      by_values : (o : Option Counted) (l : Option Tree) → maps.get n.selectors t ≡ o → maps.get (live R) t ≡ l → option_map (λ (c : Counted). c.selector) o ≡ l
      by_values None None p q = refl
      by_values (Some c) (Some x) p q =
          let counted : IsSelector c.selector × (t ≡ canonical_text c.selector) = counts.trees t c p in
          let lives : IsAt t x = live_counted t x q in
          ap Some (one_canonical t c.selector x counted.0 lives.0.0 counted.1 lives.1)
      by_values (Some c) None p q = let wrong : true ≡ false = sym (counted_live t (ap is_some p)) ∙ ap is_some q in cc
      by_values None (Some x) p q =
          let lives : IsAt t x = live_counted t x q in
          let wrong : true ≡ false = sym (ap (maps.contains_key n.selectors) lives.1 ∙ lives.0.1) ∙ ap is_some p in cc

  pub known_alike : (t : List ℕ) → maps.contains_key n.selectors t ≡ maps.contains_key (live R) t
  known_alike t = sym (is_mapped (λ (c : Counted). c.selector) (maps.get n.selectors t)) ∙ ap is_some (selectors_alike t)

  pub live_entries : maps.entries (live R) ≡ map selector_of (maps.entries n.selectors)
  live_entries =
      entries_mapped nat_list_cmp_total bytes_exact (λ (t : List ℕ) (c : Counted). Some c.selector) n.selectors (live R) (λ t. sym (selectors_alike t) ∙ as_value t (maps.get n.selectors t))
      ∙ mapped-each (λ (t : List ℕ) (c : Counted). c.selector) (maps.entries n.selectors)
