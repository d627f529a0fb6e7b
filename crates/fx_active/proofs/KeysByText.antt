-- Sets of keys by a selector's text, as a key is put or removed.
use Rattle.std.proofs.Common.{◌≡◌, ℕ, Bool, true, false, cond, ◌&&◌, nat_eq, List, [], Option, Some, None, IsSome, unwrap_or, refl, sym, ap, ◌∙◌}
use Rattle.std.specs.declared.cmp.Ordering.{Ordering}
use Rattle.std.specs.Ordering.{nat_cmp, eq_by_cmp}
use Rattle.std.specs.Cmp.{IsTotalOrder}
use Rattle.std.specs.Cmp.Lexicographic.{slice_cmp, pointwise, nat_list_cmp_total}
use Rattle.std.specs.FinMap as map
use Rattle.fx_base.specs.Set as set
use Rattle.fx_base.specs.Grouped.{Grouped, has_key}
use Rattle.fx_base.proofs.AtKey.{insert_twice_bytes, insert_removed}
use Rattle.fx_base.proofs.KeyCases.{bytes_exact}
use Rattle.fx_active.proofs.CountLemmas.{tied_names}
use Rattle.fx_base.proofs.Keyed as keyed
use Rattle.fx_active.proofs.MapLemmas.{remove_inserted}

module _ {K : Type 0} {R : K → K → Ordering} (total : IsTotalOrder R) where
  module _ (m now : Grouped (slice_cmp nat_cmp) R) (k : List ℕ) (id : K) (keys : set.Set R) where
    by_name : (b : Bool) → ((t : List ℕ) (q : K) → has_key (map.get now t) q ≡ cond (eq_by_cmp (slice_cmp nat_cmp) t k && eq_by_cmp R q id) b (has_key (map.get m t) q)) → (t : List ℕ) (q : K) → has_key (map.get now t) q ≡ cond (pointwise nat_eq k t && eq_by_cmp R q id) b (has_key (map.get m t) q)
    by_name b at t q = at t q ∙ ap (λ x. cond (x && eq_by_cmp R q id) b (has_key (map.get m t) q)) (tied_names t k)

    pub key_added : keys ≡ unwrap_or (map.get m k) set.empty → now ≡ map.insert (map.remove m k) k (set.insert keys id) → (t : List ℕ) (q : K) → has_key (map.get now t) q ≡ cond (pointwise nat_eq k t && eq_by_cmp R q id) true (has_key (map.get m t) q)
    key_added was is = by_name true (keyed.key_added nat_list_cmp_total bytes_exact total m now k id keys was is)

    -- the keys in their place are exchanged, and then taken out or exchanged again
    module _ (was : map.get m k ≡ Some keys) where
      were : keys ≡ unwrap_or (map.get m k) set.empty
      were = sym (ap (λ o. unwrap_or o set.empty) was)

      pub key_removed : now ≡ map.insert (map.insert m k set.empty) k (set.remove keys id) → (t : List ℕ) (q : K) → has_key (map.get now t) q ≡ cond (pointwise nat_eq k t && eq_by_cmp R q id) false (has_key (map.get m t) q)
      key_removed is = by_name false (keyed.key_removed nat_list_cmp_total bytes_exact total m now k id keys were
          (is ∙ insert_twice_bytes m k set.empty (set.remove keys id) ∙ sym (insert_removed nat_list_cmp_total bytes_exact m k (set.remove keys id))))

      pub last_removed : map.entries (set.remove keys id) ≡ [] → now ≡ map.remove (map.insert m k set.empty) k → (t : List ℕ) (q : K) → has_key (map.get now t) q ≡ cond (pointwise nat_eq k t && eq_by_cmp R q id) false (has_key (map.get m t) q)
      last_removed none is = by_name false (keyed.last_removed nat_list_cmp_total bytes_exact total m now k id keys were none (is ∙ remove_inserted nat_list_cmp_total bytes_exact m k set.empty))

  pub key_there : (o : Option (set.Set R)) (q : K) → has_key o q ≡ true → IsSome o
  key_there None q h = cc
  key_there (Some keys) q h = refl
