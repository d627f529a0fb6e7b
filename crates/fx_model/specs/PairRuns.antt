-- Changes of pairs, in their order.
use Rattle.std.specs.Prelude.{◌≡◌, not, Bool, List, [], ◌∷◌}
use Rattle.std.specs.declared.cmp.Ordering.{Ordering}
use Rattle.fx_base.specs.Set as set
use Rattle.fx_model.specs.Pairs.{PolicyPairs, put}
use Rattle.fx_model.specs.declared.ids.ItemKey.{ItemKey}
use Rattle.fx_model.specs.declared.ids.PolicyId.{PolicyId}
use Rattle.fx_model.specs.declared.policy_pairs.PolicyPairChange.{PolicyPairChange}

-- the changes lead from the first pairs to the last ones, and each is one; what a change is of, and whether it comes, are given
abbrev pub IsRunOf : {C P : Type 0} {R : P → P → Ordering} → (C → P) → (C → Bool) → List C → set.Set R → set.Set R → Type 0
IsRunOf pair on [] first last = first ≡ last
IsRunOf pair on (c ∷ changes) first last = (set.contains first (pair c) ≡ not (on c)) × IsRunOf pair on changes (put first (pair c) (on c)) last

-- of a policy and an item
abbrev pub changed_policy_pair : PolicyPairChange → PolicyId × ItemKey
changed_policy_pair c = (c.policy, c.item)

abbrev pub IsPairRun : List PolicyPairChange → PolicyPairs → PolicyPairs → Type 0
IsPairRun changes first last = IsRunOf changed_policy_pair (λ c. c.on) changes first last

-- to what such changes lead
abbrev pub pairs_after : List PolicyPairChange → PolicyPairs → PolicyPairs
pairs_after [] first = first
pairs_after (c ∷ changes) first = pairs_after changes (put first (changed_policy_pair c) c.on)
