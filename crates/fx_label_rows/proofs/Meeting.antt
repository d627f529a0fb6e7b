-- The texts at the spots of labels are those whose needs the labels meet.
use Rattle.std.proofs.Common.{◌≡◌, ℕ, Bool, true, false, cond, ◌&&◌, ◌||◌, List, [], ◌∷◌, Option, Some, None, T, refl, sym, ap, ◌∙◌}
use Rattle.std.specs.declared.cmp.Ordering.{Ordering}
use Rattle.std.specs.declared.cmp.Ordering.TheVariants.{Less, Equal, Greater}
use Rattle.std.specs.Ordering.{nat_cmp, is_eq}
use Rattle.std.specs.Option.{option_map_or}
use Rattle.std.specs.List.{list_any}
use Rattle.std.specs.Cmp.{eq_by_cmp_equiv}
use Rattle.std.specs.Cmp.Lexicographic.{slice_cmp, nat_list_cmp_total}
use Rattle.std.specs.FinMap.{entries, entries_sorted, get, get-entries}
use Rattle.std.specs.FinMap.Entries.{find, is_sorted}
use Rattle.fx_base.specs.Grouped.{same_text}
use Rattle.fx_base.proofs.Cases.{first, second, surely, none_else, always}
use Rattle.fx_base.proofs.KeyCases.{bytes_exact}
use Rattle.fx_base.proofs.Sorted.{none_below}
use Rattle.fx_selector.specs.Truth.{LabelMap, is_among}
use Rattle.fx_selector.specs.Needs.{Need, meets, has_one}
use Rattle.fx_label_rows.specs.Spots.{Spot, free, at_key, at_value, stands, stands_by, at, at_label, found}
use Rattle.fx_label_rows.specs.declared.by_need.TextsByNeed.{TextsByNeed}

alone : (b : Bool) → (b || false) ≡ (b && true)
alone b = none_else b ∙ sym (always b)

abbrev label_cmp : List ℕ → List ℕ → Ordering
label_cmp = slice_cmp nat_cmp

-- some entry has the key and a value that passes, where the value at the key passes
pub any_entry : (f : List ℕ → Bool) (k : List ℕ) (es : List (List ℕ × List ℕ)) → T (is_sorted label_cmp es) → list_any (λ e. same_text e.0 k && f e.1) es ≡ option_map_or f (find label_cmp k es) false
any_entry f k [] h = refl
any_entry f k (e ∷ es) h =
    let rest = any_entry f k es (second _ _ h) in
    ap (λ b. (b && f e.1) || list_any (λ e. same_text e.0 k && f e.1) es) ((eq_by_cmp_equiv nat_list_cmp_total).symm e.0 k)
    ∙ elim (label_cmp k e.0) as (λ r. label_cmp k e.0 ≡ r → ((is_eq r && f e.1) || list_any (λ e. same_text e.0 k && f e.1) es) ≡ option_map_or f (cond (is_eq r) (Some e.1) (find label_cmp k es)) false) [
      | Less ↦ λ p. rest
      | Greater ↦ λ p. rest
      | Equal ↦ λ p.
          let gone : find label_cmp k es ≡ None = ap (λ q. find label_cmp q es) (bytes_exact k e.0 p) ∙ none_below label_cmp e.0 es (first _ _ h) in
          ap (λ b. f e.1 || b) (rest ∙ ap (λ o. option_map_or f o false) gone) ∙ none_else (f e.1)
    ] refl

pub alike : {A : Type 0} (p q : A → Bool) (xs : List A) → ((x : A) → p x ≡ q x) → list_any p xs ≡ list_any q xs
alike {A = A} p q xs h = ap (λ (f : A → Bool). list_any f xs) (λ i x. h x i)

pub none_passes : {A : Type 0} (xs : List A) → list_any (λ _. false) xs ≡ false
none_passes [] = refl
none_passes (x ∷ xs) = none_passes xs

is_there : (o : Option (List ℕ)) → option_map_or (λ _. true) o false ≡ has_one None o
is_there None = refl
is_there (Some x) = refl

is_one : (vs : List (List ℕ)) (o : Option (List ℕ)) → option_map_or (is_among vs) o false ≡ has_one (Some vs) o
is_one vs None = refl
is_one vs (Some x) = refl

-- at a spot of the label
abbrev pub on_label : (Spot → Bool) → List ℕ × List ℕ → Bool
on_label f e = f (at_key e.0) || f (at_value e.0 e.1)

by_values : (key : List ℕ) (values : Option (List (List ℕ))) (labels : LabelMap) → list_any (on_label (stands_by key values)) (entries labels) ≡ has_one values (get labels key)
by_values key None labels =
    alike _ (λ e. same_text e.0 key && true) (entries labels) (λ e. alone (same_text e.0 key))
    ∙ any_entry (λ _. true) key (entries labels) (entries_sorted labels)
    ∙ ap (λ o. option_map_or (λ _. true) o false) (sym (get-entries labels key)) ∙ is_there (get labels key)
by_values key (Some vs) labels =
    any_entry (is_among vs) key (entries labels) (entries_sorted labels)
    ∙ ap (λ o. option_map_or (is_among vs) o false) (sym (get-entries labels key)) ∙ is_one vs (get labels key)

-- labels meet a need where what has it stands at a spot of them
pub by_need : (n : Option Need) (labels : LabelMap) → (list_any (on_label (stands n)) (entries labels) || stands n free) ≡ meets n labels
by_need None labels = surely _
by_need (Some n) labels = none_else _ ∙ by_values n.key n.values labels

-- what is found of a text that stands at these spots
pub found_at : (x : TextsByNeed) (labels : LabelMap) (t : List ℕ) (f : Spot → Bool) → ((s : Spot) → at x s t ≡ f s) → found x labels t ≡ (list_any (on_label f) (entries labels) || f free)
found_at x labels t f is =
    let each : (e : List ℕ × List ℕ) → at_label x t e ≡ on_label f e = λ e i. is (at_key e.0) i || is (at_value e.0 e.1) i in
    λ i. alike (at_label x t) (on_label f) (entries labels) each i || is free i
