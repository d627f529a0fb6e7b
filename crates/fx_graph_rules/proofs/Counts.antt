-- What the index counts, as selectors and policies come and go.
use Rattle.std.proofs.Common.{◌≡◌, ℕ, ◌+◌, ◌-◌, ◌<◌, nat_lt, true, false, cond, List, [], ◌∷◌, Option, Some, None, is_some, refl, sym, ap, ◌∙◌, subst, arith}
use Rattle.std.specs.declared.cmp.Ordering.TheVariants.{Less, Equal, Greater}
use Rattle.std.specs.Ordering.{nat_cmp, is_eq, eq_by_cmp}
use Rattle.std.specs.Cmp.{tied_itself}
use Rattle.std.specs.Cmp.Lexicographic.{slice_cmp, nat_list_cmp_total}
use Rattle.std.specs.FinMap.{find, put, entries, get, insert, remove, contains_key, get-insert, get-remove, get-entries, entries-insert}
use Rattle.std.specs.FinMap.Entries.{by_order}
use Rattle.std.proofs.lemmas.Bool.Decides.{nat_tests}
use Rattle.fx_base.specs.Extended.{put_or_removed}
use Rattle.fx_base.proofs.KeyCases.{bytes_exact}
use Rattle.fx_selector.specs.Tree.{Tree, IsSelector}
use Rattle.fx_selector.specs.Truth.{LabelMap}
use Rattle.fx_selector.specs.Canonical.{canonical_text}
use Rattle.fx_model.specs.Sinks.{Policies}
use Rattle.fx_model.specs.declared.ids.PolicyId.{PolicyId}
use Rattle.fx_model.specs.declared.policy.Policy.{Policy}
use Rattle.fx_model.specs.contracts.ids.PolicyIdOrd.TheImpl.{cmp-value}
use Rattle.fx_model.proofs.Orders.{policy_total, exact_policy}
use Rattle.fx_label_index.specs.Canonicals.{Selectors, AreCanonical}
use Rattle.fx_label_index.specs.Counts.{uses_in, raised, lowered_in, lowered}
use Rattle.fx_label_index.specs.Matched.{text_eq, tests, holds_on}
use Rattle.fx_label_index.specs.declared.counted.Counted.{Counted}
use Rattle.fx_label_index.proofs.Canonicals.{one_canonical, canonical_more, canonical_less, raised_canonical}
use Rattle.fx_active.specs.Active.{text_of, selector_text}
use Rattle.fx_active.proofs.MapLemmas.{insert_back}
use Rattle.fx_graph_rules.specs.Counting.{weight, weight_of, times_among, times, total, with_one, IsCounted, StillCounted, IsCountedText}
use Rattle.fx_base.proofs.AtKey.{insert_removed}
use Rattle.fx_base.proofs.Cases.{same_some, moved, none_more}
use Rattle.fx_base.proofs.Keyed.{remove_absent, get_removed}

not_some : {A : Type 0} (x : A) → None ≡ Some x → ⊥
not_some x e = cc

plus_none : (a b : ℕ) → a ≡ b → a ≡ 0 + b
plus_none a b e = omega arith

plus_one : (a b : ℕ) → a ≡ b → a + 1 ≡ 1 + b
plus_one a b e = omega arith

-- ---- once more
module _ (s : Selectors) (uses : List ℕ → ℕ) (h : IsCounted s uses) (text : List ℕ) (tree : Tree) (is : IsSelector tree) (at : text ≡ canonical_text tree) where
  abbrev more : Counted
  more = record { selector = tree; uses = uses_in (get s text) + 1 }

  some_more : (n : ℕ) → 0 < n + 1
  some_more n = omega arith

  pub raised_counted : IsCounted (raised s text tree) (with_one text uses)
  raised_counted = record {
    trees = raised_canonical s text tree h.trees is at;
    some = λ t c e.
        elim (eq_by_cmp (slice_cmp nat_cmp) t text) as (λ b. cond b (Some more) (get s t) ≡ Some c → 0 < c.uses) [
          | true ↦ λ p. subst (λ (d : Counted). 0 < d.uses) (same_some more c p) (some_more (uses_in (get s text)))
          | false ↦ λ p. h.some t c p
        ] (sym (get-insert nat_list_cmp_total s text more t) ∙ e);
    count = λ t.
        ap uses_in (get-insert nat_list_cmp_total s text more t)
        ∙ elim (slice_cmp nat_cmp t text) as (λ r. slice_cmp nat_cmp t text ≡ r → uses_in (cond (is_eq r) (Some more) (get s t)) ≡ cond (is_eq r) 1 0 + uses t) [
          | Less ↦ λ _. plus_none _ _ (h.count t)
          | Equal ↦ λ q. plus_one _ _ (h.count text ∙ ap uses (sym (bytes_exact t text q)))
          | Greater ↦ λ _. plus_none _ _ (h.count t)
        ] refl;
  }

-- ---- once less
get_put_or_removed : (s : Selectors) (k : List ℕ) (o : Option Counted) (t : List ℕ) → get (put_or_removed s k o) t ≡ cond (text_eq t k) o (get s t)
get_put_or_removed s k None t = get-remove nat_list_cmp_total s k t
get_put_or_removed s k (Some c) t = get-insert nat_list_cmp_total s k c t

at_most_one : (n : ℕ) → nat_lt 1 n ≡ false → 0 ≡ n - 1
at_most_one n h = grind (arith, nat_tests, h)

uses_lowered : (o : Option Counted) → uses_in (lowered_in o) ≡ uses_in o - 1
uses_lowered None = refl
uses_lowered (Some c) = elim (nat_lt 1 c.uses) as (λ b. nat_lt 1 c.uses ≡ b → uses_in (cond b (Some (record c { uses = c.uses - 1 })) None) ≡ c.uses - 1) [
  | true ↦ λ e. refl
  | false ↦ λ e. at_most_one c.uses e
] refl

still_some : (n : ℕ) → nat_lt 1 n ≡ true → 0 < n - 1
still_some n h = grind (arith, nat_tests, h)

some_lowered : (o : Option Counted) (c : Counted) → lowered_in o ≡ Some c → 0 < c.uses
some_lowered None c e = absurd (not_some c e)
some_lowered (Some d) c e = elim (nat_lt 1 d.uses) as (λ b. nat_lt 1 d.uses ≡ b → cond b (Some (record d { uses = d.uses - 1 })) None ≡ Some c → 0 < c.uses) [
  | true ↦ λ q p. subst (λ (x : Counted). 0 < x.uses) (same_some (record d { uses = d.uses - 1 }) c p) (still_some d.uses q)
  | false ↦ λ q p. absurd (not_some c p)
] refl e

less_canonical : (s : Selectors) (text : List ℕ) → AreCanonical s → (o : Option Counted) → get s text ≡ o → AreCanonical (put_or_removed s text (lowered_in o))
less_canonical s text h None e = canonical_less s text h
less_canonical s text h (Some d) e = elim (nat_lt 1 d.uses) as (λ b. AreCanonical (put_or_removed s text (cond b (Some (record d { uses = d.uses - 1 })) None))) [
  | true ↦ let k : IsSelector d.selector × (text ≡ canonical_text d.selector) = h text d e in canonical_more s text (record d { uses = d.uses - 1 }) h k.0 k.1
  | false ↦ canonical_less s text h
]

minus_one : (a b : ℕ) → a ≡ 1 + b → a - 1 ≡ b
minus_one a b e = omega arith

minus_none : (a b : ℕ) → a ≡ 0 + b → a ≡ b
minus_none a b e = omega arith

module _ (s : Selectors) (uses fewer : List ℕ → ℕ) (h : IsCounted s uses) (text : List ℕ) (one : (t : List ℕ) → uses t ≡ with_one text fewer t) where
  pub lowered_counted : IsCounted (lowered s text) fewer
  lowered_counted = record {
    trees = less_canonical s text h.trees (get s text) refl;
    some = λ t c e.
        elim (eq_by_cmp (slice_cmp nat_cmp) t text) as (λ b. cond b (lowered_in (get s text)) (get s t) ≡ Some c → 0 < c.uses) [
          | true ↦ λ p. some_lowered (get s text) c p
          | false ↦ λ p. h.some t c p
        ] (sym (get_put_or_removed s text (lowered_in (get s text)) t) ∙ e);
    count = λ t.
        ap uses_in (get_put_or_removed s text (lowered_in (get s text)) t)
        ∙ elim (slice_cmp nat_cmp t text) as (λ r. slice_cmp nat_cmp t text ≡ r → uses t ≡ cond (is_eq r) 1 0 + fewer t → uses_in (cond (is_eq r) (lowered_in (get s text)) (get s t)) ≡ fewer t) [
          | Less ↦ λ _ o. minus_none _ _ (h.count t ∙ o)
          | Equal ↦ λ q o. uses_lowered (get s text) ∙ minus_one _ _ (ap (λ k. uses_in (get s k)) (sym (bytes_exact t text q)) ∙ h.count t ∙ o)
          | Greater ↦ λ _ o. minus_none _ _ (h.count t ∙ o)
        ] refl (one t);
  }

-- ---- what is counted is found
module _ (s : Selectors) (uses : List ℕ → ℕ) (h : IsCounted s uses) (tree : Tree) (is : IsSelector tree) where
  at_text : (o : Option Counted) → get s (canonical_text tree) ≡ o → 0 < uses_in o → (labels : Option LabelMap) → tests o labels ≡ holds_on tree labels
  at_text None e p labels = absurd (omega arith)
  at_text (Some c) e p labels =
      let k : IsSelector c.selector × (canonical_text tree ≡ canonical_text c.selector) = h.trees (canonical_text tree) c e in
      ap (λ u. holds_on u labels) (one_canonical (canonical_text tree) c.selector tree k.0 is k.1 refl)

  pub counted_tests : 0 < uses (canonical_text tree) → (labels : Option LabelMap) → tests (get s (canonical_text tree)) labels ≡ holds_on tree labels
  counted_tests p labels = at_text (get s (canonical_text tree)) refl (subst (λ n. 0 < n) (sym (h.count (canonical_text tree))) p) labels

-- ---- the policies of a selector, as one comes or goes
among_put : (t : List ℕ) (id : PolicyId) (p : Policy) (es : List (PolicyId × Policy)) → find cmp-value.it id es ≡ None → times_among t (put cmp-value.it id p es) ≡ weight t p + times_among t es
among_put t id p [] h = refl
among_put t id p (e ∷ es) h =
    elim (cmp-value.it id e.0) as (λ r. cond (is_eq r) (Some e.1) (find cmp-value.it id es) ≡ None → times_among t (by_order r ((id, p) ∷ e ∷ es) ((e.0, p) ∷ es) (e ∷ put cmp-value.it id p es)) ≡ weight t p + (weight t e.1 + times_among t es)) [
      | Less ↦ λ g. refl
      | Equal ↦ λ g. cc
      | Greater ↦ λ g. ap (λ n. weight t e.1 + n) (among_put t id p es g) ∙ moved (weight t e.1) (weight t p) (times_among t es)
    ] h

times_new : (m : Policies) (id : PolicyId) (p : Policy) (t : List ℕ) → get m id ≡ None → times (insert m id p) t ≡ weight t p + times m t
times_new m id p t h = ap (times_among t) (entries-insert policy_total m id p) ∙ among_put t id p (entries m) (sym (get-entries m id) ∙ h)

pub times_apart : (m : Policies) (id : PolicyId) (t : List ℕ) → times m t ≡ weight_of t (get m id) + times (remove m id) t
times_apart m id t = elim (get m id) as (λ o. get m id ≡ o → times m t ≡ weight_of t o + times (remove m id) t) [
  | None ↦ λ e. ap (λ n. times n t) (sym (remove_absent policy_total exact_policy m id e)) ∙ none_more _
  | Some p ↦ λ e. ap (λ n. times n t) (insert_back policy_total exact_policy m id p e) ∙ times_new (remove m id) id p t (get_removed policy_total m id)
] refl

pub times_insert : (m : Policies) (id : PolicyId) (p : Policy) (t : List ℕ) → times (insert m id p) t ≡ weight t p + times (remove m id) t
times_insert m id p t = ap (λ n. times n t) (sym (insert_removed policy_total exact_policy m id p)) ∙ times_new (remove m id) id p t (get_removed policy_total m id)

own_text : (t : List ℕ) → text_eq t t ≡ true
own_text t = ap is_eq (tied_itself nat_list_cmp_total t)

positive : (n k a : ℕ) → n ≡ 1 + k → 0 < n + a
positive n k a e = omega arith

pub policy_counted : (m : Policies) (used : List ℕ → ℕ) (id : PolicyId) (p : Policy) → get m id ≡ Some p → 0 < total m used (text_of p)
policy_counted m used id p e =
    let t = text_of p in
    positive (times m t) (times (remove m id) t) (used t) (times_apart m id t ∙ ap (λ o. weight_of t o + times (remove m id) t) e ∙ ap (λ b. cond b 1 0 + times (remove m id) t) (own_text t))

-- ---- what is counted is there
-- one more leaves the others
pub raised_still : (s : Selectors) (text : List ℕ) (tree : Tree) → StillCounted s (raised s text tree)
raised_still s text tree = λ t h.
    let more : Counted = record { selector = tree; uses = uses_in (get s text) + 1 } in
    ap is_some (get-insert nat_list_cmp_total s text more t)
    ∙ elim (eq_by_cmp (slice_cmp nat_cmp) t text) as (λ b. is_some (cond b (Some more) (get s t)) ≡ true) [ true ↦ refl | false ↦ h ]

no_uses : {A : Type 0} → 0 < 0 → A
no_uses h = absurd (omega (arith, h))

not_there : {A : Type 0} → false ≡ true → A
not_there h = cc

module _ (s : Selectors) (uses : List ℕ → ℕ) (h : IsCounted s uses) (t : List ℕ) where
  pub counted_there : 0 < uses t → contains_key s t ≡ true
  counted_there p = elim (get s t) as (λ o. 0 < uses_in o → is_some o ≡ true) [ None ↦ λ q. no_uses q | Some c ↦ λ q. refl ] (subst (λ n. 0 < n) (sym (h.count t)) p)

  pub there_counted : contains_key s t ≡ true → 0 < uses t
  there_counted p = elim (get s t) as (λ o. get s t ≡ o → is_some o ≡ true → 0 < uses t) [
    | None ↦ λ e q. not_there q
    | Some c ↦ λ e q. subst (λ n. 0 < n) (ap uses_in (sym e) ∙ h.count t) (h.some t c e)
  ] refl p

-- a policy's text is counted
pub policy_text_counted : (s : Selectors) (m : Policies) (used : List ℕ → ℕ) → IsCounted s (total m used) → (id : PolicyId) → IsCountedText s (selector_text (get m id))
policy_text_counted s m used h id = elim (get m id) as (λ o. get m id ≡ o → IsCountedText s (selector_text o)) [
  | None ↦ λ e. tt
  | Some p ↦ λ e. counted_there s (total m used) h (text_of p) (policy_counted m used id p e)
] refl
