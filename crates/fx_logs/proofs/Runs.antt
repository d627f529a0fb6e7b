-- One more change of pairs.
use Rattle.std.proofs.Common.{◌≡◌, ℕ, subst, not, Bool, List, [], ◌∷◌, ◌++◌, ap, sym, ◌∙◌}
use Rattle.std.specs.declared.cmp.Ordering.{Ordering}
use Rattle.fx_base.specs.Set as set
use Rattle.fx_model.specs.Pairs.{Pairs, PolicyPairs, put}
use Rattle.fx_model.specs.declared.ids.ItemKey.{ItemKey}
use Rattle.fx_model.specs.declared.ids.PolicyId.{PolicyId}
use Rattle.fx_model.specs.declared.policy_pairs.PolicyPairChange.{PolicyPairChange}
use Rattle.fx_logs.specs.declared.pair_log.PairChange.{PairChange}
use Rattle.fx_logs.specs.Run.{IsRun, changed_pair}
use Rattle.fx_model.specs.PairRuns.{IsRunOf, IsPairRun, changed_policy_pair}

module _ {C P : Type 0} {R : P → P → Ordering} (pair : C → P) (on : C → Bool) where
  run_more : (cs : List C) (c : C) (m s : set.Set R) → IsRunOf pair on cs m s → set.contains s (pair c) ≡ not (on c) → IsRunOf pair on (cs ++ c ∷ []) m (put s (pair c) (on c))
  run_more [] c m s h k = (ap (λ n. set.contains n (pair c)) h ∙ k, ap (λ n. put n (pair c) (on c)) h)
  run_more (d ∷ cs) c m s h k = (h.0, run_more cs c (put m (pair d) (on d)) s h.1 k)

  pushed_of : (cs then : List C) (c : C) (m s t : set.Set R) (p : P) → IsRunOf pair on cs m s → pair c ≡ p → set.contains s p ≡ not (on c) → then ≡ cs ++ c ∷ [] → t ≡ put s p (on c) → IsRunOf pair on then m t
  pushed_of cs then c m s t p h is k e f =
      let run : IsRunOf pair on (cs ++ c ∷ []) m (put s (pair c) (on c)) = run_more cs c m s h (ap (set.contains s) is ∙ k) in
      subst (λ es. IsRunOf pair on es m t) (sym e) (subst (λ x. IsRunOf pair on (cs ++ c ∷ []) m x) (ap (λ q. put s q (on c)) is ∙ sym f) run)

pub pushed : (cs then : List PairChange) (c : PairChange) (m s t : Pairs) (p : List ℕ × ItemKey) → IsRun cs m s → ◌≡◌ {A = List ℕ × ItemKey} (c.selector, c.item) p → set.contains s p ≡ not c.on → then ≡ cs ++ c ∷ [] → t ≡ put s p c.on → IsRun then m t
pushed cs then c m s t p h is k e f = pushed_of changed_pair (λ x. x.on) cs then c m s t p h is k e f

pub policy_pushed : (cs then : List PolicyPairChange) (c : PolicyPairChange) (m s t : PolicyPairs) (p : PolicyId × ItemKey) → IsPairRun cs m s → ◌≡◌ {A = PolicyId × ItemKey} (c.policy, c.item) p → set.contains s p ≡ not c.on → then ≡ cs ++ c ∷ [] → t ≡ put s p c.on → IsPairRun then m t
policy_pushed cs then c m s t p h is k e f = pushed_of changed_policy_pair (λ x. x.on) cs then c m s t p h is k e f
