-- A name that is there, put once more, and one that isn't, removed.
use Rattle.std.specs.declared.cmp.Ordering.TheVariants.{Less, Equal, Greater}
use Rattle.fx_laws.proofs.EntryLookups.{is}
use Rattle.std.proofs.Common.{◌≡◌, true, false, cond, List, ℕ, Option, Some, None, is_some, refl, sym, ap, ◌∙◌}
use Rattle.std.specs.Ordering.{nat_cmp, is_eq}
use Rattle.std.specs.Cmp.Lexicographic.{slice_cmp}
use Rattle.std.specs.FinMap as maps
use Rattle.fx_base.specs.Set as set
use Rattle.fx_base.proofs.AtKey.{insert_same_bytes, get_remove, same_by_get}
use Rattle.fx_base.proofs.KeyCases.{bytes_exact}
use Rattle.fx_dispatch.specs.Plans.{Names}

-- an item that is there changes nothing
pub insert_there : (s : Names) (k : List ℕ) → true ≡ set.contains s k → s ≡ set.insert s k
insert_there s k h = by_found (maps.get s k) refl h
  where
    by_found : (o : Option (Unit {0})) → maps.get s k ≡ o → true ≡ is_some o → s ≡ set.insert s k
    by_found None e p = let wrong : true ≡ false = p in cc
    by_found (Some u) e p = sym (insert_same_bytes s k tt e)

at_absent : (s : Names) (k : List ℕ) → maps.get s k ≡ None → (q : List ℕ) → maps.get s q ≡ cond (is q k) None (maps.get s q)
at_absent s k none q =
    elim (slice_cmp nat_cmp q k) as (λ r. slice_cmp nat_cmp q k ≡ r → maps.get s q ≡ cond (is_eq r) None (maps.get s q)) [
      | Less ↦ λ p. refl
      | Equal ↦ λ p. ap (maps.get s) (bytes_exact q k p) ∙ none
      | Greater ↦ λ p. refl
    ] refl

-- an item that isn't there is no loss
pub remove_absent : (s : Names) (k : List ℕ) → false ≡ set.contains s k → s ≡ set.remove s k
remove_absent s k h = by_found (maps.get s k) refl h
  where
    by_found : (o : Option (Unit {0})) → maps.get s k ≡ o → false ≡ is_some o → s ≡ set.remove s k
    by_found None e p = same_by_get s (set.remove s k) (λ q. at_absent s k e q ∙ sym (get_remove s k q))
    by_found (Some u) e p = let wrong : false ≡ true = p in cc
