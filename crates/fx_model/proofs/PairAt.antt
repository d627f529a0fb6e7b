-- What a set of pairs has after a change.
use Rattle.std.proofs.Common.{◌≡◌, ℕ, List, Bool, cond, ◌&&◌, ap, ◌∙◌}
use Rattle.std.specs.Ordering.{nat_cmp, eq_by_cmp}
use Rattle.std.specs.Cmp.Lexicographic.{slice_cmp}
use Rattle.fx_base.specs.Set as set
use Rattle.fx_base.proofs.SetAt.{contains_put, put_same, tied_pair}
use Rattle.fx_model.specs.Pairs.{Pairs, PolicyPairs, put}
use Rattle.fx_model.proofs.Orders.{pairs_total, exact_pair, policy_pairs_total, exact_policy_pair}
use Rattle.fx_model.specs.declared.ids.ItemKey.{ItemKey}
use Rattle.fx_model.specs.declared.ids.PolicyId.{PolicyId}
use Rattle.fx_model.specs.contracts.ids.ItemKeyOrd.TheImpl as item_cmp
use Rattle.fx_model.specs.contracts.ids.PolicyIdOrd.TheImpl as policy_cmp

-- what stands already
pub put_same_pair : (s : Pairs) (p : List ℕ × ItemKey) (b : Bool) → set.contains s p ≡ b → put s p b ≡ s
put_same_pair s p b h = put_same pairs_total exact_pair s p b h

pub put_same_policy_pair : (s : PolicyPairs) (p : PolicyId × ItemKey) (b : Bool) → set.contains s p ≡ b → put s p b ≡ s
put_same_policy_pair s p b h = put_same policy_pairs_total exact_policy_pair s p b h

pub contains_put_pair : (s : Pairs) (u : List ℕ) (k : ItemKey) (b : Bool) (t : List ℕ) (i : ItemKey)
    → set.contains (put s (u, k) b) (t, i) ≡ cond (eq_by_cmp (slice_cmp nat_cmp) t u && eq_by_cmp item_cmp.cmp-value.it i k) b (set.contains s (t, i))
contains_put_pair s u k b t i = contains_put pairs_total s (u, k) b (t, i) ∙ ap (λ c. cond c b (set.contains s (t, i))) (tied_pair (slice_cmp nat_cmp t u) (item_cmp.cmp-value.it i k))

pub contains_put_policy_pair : (s : PolicyPairs) (u : PolicyId) (k : ItemKey) (b : Bool) (t : PolicyId) (i : ItemKey)
    → set.contains (put s (u, k) b) (t, i) ≡ cond (eq_by_cmp policy_cmp.cmp-value.it t u && eq_by_cmp item_cmp.cmp-value.it i k) b (set.contains s (t, i))
contains_put_policy_pair s u k b t i = contains_put policy_pairs_total s (u, k) b (t, i) ∙ ap (λ c. cond c b (set.contains s (t, i))) (tied_pair (policy_cmp.cmp-value.it t u) (item_cmp.cmp-value.it i k))
