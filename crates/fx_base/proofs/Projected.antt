-- What a map by a part of its values has, and its entries.
use Rattle.std.proofs.Common.{◌≡◌, cond, List, [], ◌∷◌, Option, Some, None, T, refl, sym, ap, ◌∙◌}
use Rattle.std.specs.declared.cmp.Ordering.{Ordering}
use Rattle.std.specs.declared.cmp.Ordering.TheVariants.{Less, Equal, Greater}
use Rattle.std.specs.Ordering.{is_eq}
use Rattle.std.specs.Option.{option_map, option_and_then}
use Rattle.std.specs.List.{cons_option}
use Rattle.std.specs.FinMap.{FinMap, IsAntisymmetric, find, is_sorted, entries, entries_sorted, get, get-entries, entries-from_sorted, get-from_sorted}
use Rattle.std.specs.FinMap.Entries.{below_all}
use Rattle.fx_base.specs.Projected.{projected, projected_entries}
use Rattle.fx_base.proofs.Cases.{both, first, second}
use Rattle.fx_base.proofs.Sorted.{gone}

module _ {K X Y : Type 0} (R : K → K → Ordering) (part : X → Option Y) where
  -- an entry whose value has such a part, before others
  abbrev with_part : K → Option Y → List (K × Y) → List (K × Y)
  with_part k o es = cons_option (option_map (λ y. (k, y)) o) es

  below-projected : (k : K) (es : List (K × X)) → T (below_all R k es) → T (below_all R k (projected_entries part es))
  below-projected k [] h = tt
  below-projected k (e ∷ es) h =
      let rest = below-projected k es (second _ _ h) in
      elim (part e.1) as (λ o. T (below_all R k (with_part e.0 o (projected_entries part es)))) [ None ↦ rest | Some y ↦ both _ _ (first _ _ h) rest ]

  sorted-projected : (es : List (K × X)) → T (is_sorted R es) → T (is_sorted R (projected_entries part es))
  sorted-projected [] h = tt
  sorted-projected (e ∷ es) h =
      let rest = sorted-projected es (second _ _ h) in
      elim (part e.1) as (λ o. T (is_sorted R (with_part e.0 o (projected_entries part es)))) [ None ↦ rest | Some y ↦ both _ _ (below-projected e.0 es (first _ _ h)) rest ]

  find-projected : IsAntisymmetric R → (q : K) (es : List (K × X)) → T (is_sorted R es) → find R q (projected_entries part es) ≡ option_and_then part (find R q es)
  find-projected exact q [] h = refl
  find-projected exact q (e ∷ es) h =
      let rest = find-projected exact q es (second _ _ h) in
      let later = find R q (projected_entries part es) in
      elim (R q e.0) as (λ r. R q e.0 ≡ r → find R q (with_part e.0 (part e.1) (projected_entries part es)) ≡ option_and_then part (cond (is_eq r) (Some e.1) (find R q es))) [
        | Less ↦ λ t. elim (part e.1) as (λ o. find R q (with_part e.0 o (projected_entries part es)) ≡ option_and_then part (find R q es)) [
          | None ↦ rest
          | Some y ↦ ap (λ r. cond (is_eq r) (Some y) later) t ∙ rest
        ]
        | Equal ↦ λ t. elim (part e.1) as (λ o. find R q (with_part e.0 o (projected_entries part es)) ≡ o) [
          | None ↦ rest ∙ ap (option_and_then part) (gone R exact e es h q t)
          | Some y ↦ ap (λ r. cond (is_eq r) (Some y) later) t
        ]
        | Greater ↦ λ t. elim (part e.1) as (λ o. find R q (with_part e.0 o (projected_entries part es)) ≡ option_and_then part (find R q es)) [
          | None ↦ rest
          | Some y ↦ ap (λ r. cond (is_eq r) (Some y) later) t ∙ rest
        ]
      ] refl

module _ {K X Y : Type 0} {R : K → K → Ordering} (part : X → Option Y) (m : FinMap R X) where
  pub entries-projected : entries (projected part m) ≡ projected_entries part (entries m)
  entries-projected = entries-from_sorted R (projected_entries part (entries m)) (sorted-projected R part (entries m) (entries_sorted m))

  pub get-projected : IsAntisymmetric R → (q : K) → get (projected part m) q ≡ option_and_then part (get m q)
  get-projected exact q =
      get-from_sorted R (projected_entries part (entries m)) q (sorted-projected R part (entries m) (entries_sorted m))
      ∙ find-projected R part exact q (entries m) (entries_sorted m) ∙ ap (option_and_then part) (sym (get-entries m q))
