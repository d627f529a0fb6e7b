-- Pairs with an item: of a selector's text, and of a policy's id.
use Rattle.std.specs.Prelude.{ℕ, Bool, cond, List}
use Rattle.std.specs.declared.cmp.Ordering.{Ordering}
use Rattle.std.specs.Ordering.{nat_cmp, ordering_then}
use Rattle.std.specs.Cmp.Lexicographic.{slice_cmp}
use Rattle.fx_base.specs.Set as set
use Rattle.fx_model.specs.declared.ids.ItemKey.{ItemKey}
use Rattle.fx_model.specs.declared.ids.PolicyId.{PolicyId}
use Rattle.fx_model.specs.contracts.ids.ItemKeyOrd.TheImpl as item_cmp
use Rattle.fx_model.specs.contracts.ids.PolicyIdOrd.TheImpl as policy_cmp

-- by text, and then by item
abbrev pub pair_cmp : List ℕ × ItemKey → List ℕ × ItemKey → Ordering
pair_cmp p q = ordering_then (slice_cmp nat_cmp p.0 q.0) (item_cmp.cmp-value.it p.1 q.1)

abbrev pub Pairs : Type 0
Pairs = set.Set pair_cmp

-- by policy, and then by item
abbrev pub policy_pair_cmp : PolicyId × ItemKey → PolicyId × ItemKey → Ordering
policy_pair_cmp p q = ordering_then (policy_cmp.cmp-value.it p.0 q.0) (item_cmp.cmp-value.it p.1 q.1)

abbrev pub PolicyPairs : Type 0
PolicyPairs = set.Set policy_pair_cmp

-- with the item, or without it
abbrev pub put : {K : Type 0} {R : K → K → Ordering} → set.Set R → K → Bool → set.Set R
put s k b = cond b (set.insert s k) (set.remove s k)
