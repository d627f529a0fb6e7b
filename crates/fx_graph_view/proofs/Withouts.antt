-- Touched keys, taken out of a map and then put in as they are now.
use Rattle.std.proofs.Common.{◌≡◌, true, false, cond, Option, Some, None, is_some, refl, sym, ap, ◌∙◌}
use Rattle.std.specs.declared.cmp.Ordering.{Ordering}
use Rattle.std.specs.FinMap.{FinMap, get}
use Rattle.fx_logs.specs.Touched.{Keys, IsTouched, IsWithout}

no_key : {A : Type 0} (x : A) → None ≡ Some x → ⊥
no_key x e = cc

module _ {K X : Type 0} {R : K → K → Ordering} where
  abbrev pub without : Keys R → FinMap R X → K → Option X
  without touched m k = cond (is_some (get touched k)) None (get m k)

  out_same : (touched : Keys R) (m : FinMap R X) (k : K) → get touched k ≡ None → get m k ≡ without touched m k
  out_same touched m k e = ap (λ t. cond (is_some t) None (get m k)) (sym e)

  pub untouched_out : (touched : Keys R) (m : FinMap R X) (k : K) → get touched k ≡ None → get m k ≡ without touched m k
  untouched_out touched m k e = out_same touched m k e

  pub untouched_in : (touched : Keys R) (m : FinMap R X) (k : K) → get touched k ≡ None → without touched m k ≡ get m k
  untouched_in touched m k e = sym (out_same touched m k e)

  pub touched_out : (touched : Keys R) (m : FinMap R X) (k : K) (v : Unit {0}) → get touched k ≡ Some v → without touched m k ≡ None
  touched_out touched m k v e = ap (λ t. cond (is_some t) None (get m k)) e

  -- what is left is a part of the whole
  pub part_without : (touched : Keys R) (m : FinMap R X) (k : K) (x : X) → without touched m k ≡ Some x → get m k ≡ Some x
  part_without touched m k x e = elim (is_some (get touched k)) as (λ b. cond b None (get m k) ≡ Some x → get m k ≡ Some x) [
    | true ↦ λ p. absurd (no_key x p)
    | false ↦ λ p. p
  ] e

  -- what is out of what stood at the start is out of what stands now
  pub without_now : (touched : Keys R) (then now part : FinMap R X) → IsTouched touched then now → IsWithout touched then part → IsWithout touched now part
  without_now touched then now part h w = record {
    at = λ k.
        w.at k ∙ elim (get touched k) as (λ t. get touched k ≡ t → cond (is_some t) None (get then k) ≡ cond (is_some t) None (get now k)) [
          | Some v ↦ λ _. refl
          | None ↦ λ e. h.at k e
        ] refl;
  }
