-- What a recording sink holds at first, and after a change.
use Rattle.std.proofs.Common.{◌≡◌, ℕ, List, true, false, is_some, cond, ap, ◌∙◌}
use Rattle.std.specs.Ordering.{is_eq}
use Rattle.std.specs.Cmp.{tied_itself}
use Rattle.std.specs.FinMap.{get-empty}
use Rattle.fx_base.specs.Set as set
use Rattle.fx_base.proofs.SetAt.{contains_insert}
use Rattle.fx_model.specs.Pairs.{Pairs, PolicyPairs, pair_cmp, policy_pair_cmp}
use Rattle.fx_model.proofs.Orders.{pairs_total, policy_pairs_total}
use Rattle.fx_model.specs.declared.ids.ItemKey.{ItemKey}
use Rattle.fx_model.specs.declared.ids.PolicyId.{PolicyId}

pub no_pair : (s : Pairs) (p : List ℕ × ItemKey) → s ≡ set.empty → set.contains s p ≡ false
no_pair s p none = ap (λ t. set.contains t p) none ∙ ap is_some (get-empty pair_cmp p)

pub pair_put : (s t : Pairs) (p : List ℕ × ItemKey) → t ≡ set.insert s p → set.contains t p ≡ true
pair_put s t p put = ap (λ u. set.contains u p) put ∙ contains_insert pairs_total s p p ∙ ap (λ r. cond (is_eq r) true (set.contains s p)) (tied_itself pairs_total p)

pub no_policy_pair : (s : PolicyPairs) (p : PolicyId × ItemKey) → s ≡ set.empty → set.contains s p ≡ false
no_policy_pair s p none = ap (λ t. set.contains t p) none ∙ ap is_some (get-empty policy_pair_cmp p)

pub policy_pair_put : (s t : PolicyPairs) (p : PolicyId × ItemKey) → t ≡ set.insert s p → set.contains t p ≡ true
policy_pair_put s t p put = ap (λ u. set.contains u p) put ∙ contains_insert policy_pairs_total s p p ∙ ap (λ r. cond (is_eq r) true (set.contains s p)) (tied_itself policy_pairs_total p)
