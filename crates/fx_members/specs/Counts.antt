-- How often members are contributed to sets. A member stands in a set as long as some item contributes it.
use Rattle.std.specs.Prelude.{◌≡◌, ◌+◌, ◌-◌, ◌==◌, ℕ, Bool, cond, not, ◌&&◌, List, [], ◌∷◌, Option, Some, None, unwrap_or}
use Rattle.std.specs.declared.cmp.Ordering.{Ordering}
use Rattle.std.specs.Ordering.{nat_cmp, eq_by_cmp, ordering_then}
use Rattle.std.specs.Cmp.Lexicographic.{slice_cmp}
use Rattle.std.specs.FinMap as map
use Rattle.fx_base.specs.Set as set
use Rattle.fx_model.specs.Messages.{members_of}
use Rattle.fx_model.specs.Pairs.{Pairs}
use Rattle.fx_model.specs.Sets.{contributed}
use Rattle.fx_model.specs.Tables.{Sets}
use Rattle.fx_model.specs.declared.ids.ItemKey.{ItemKey}
use Rattle.fx_model.specs.declared.member.Member.{Member}
use Rattle.fx_model.specs.declared.resources.Item.{Item}
use Rattle.fx_model.specs.declared.set_use.SetUse.{SetUse}
use Rattle.fx_model.specs.contracts.member.MemberOrd.TheImpl as member_cmp
use Rattle.fx_members.specs.Inputs.{Items}
use Rattle.fx_members.specs.UseText.{text_of}

-- ---- what is counted

-- by member, and then by a set's name
abbrev pub place_cmp : Member × List ℕ → Member × List ℕ → Ordering
place_cmp p q = ordering_then (member_cmp.cmp-value.it p.0 q.0) (slice_cmp nat_cmp p.1 q.1)

abbrev pub Counts : Type 0
Counts = map.FinMap place_cmp ℕ

abbrev pub count_at : Counts → List ℕ → Member → ℕ
count_at counts name m = unwrap_or (map.get counts (m, name)) 0

abbrev pub same_member : Member → Member → Bool
same_member m k = eq_by_cmp member_cmp.cmp-value.it m k

-- this member of this set
abbrev pub is_place : List ℕ → Member → List ℕ → Member → Bool
is_place name member q m = eq_by_cmp (slice_cmp nat_cmp) q name && same_member m member

-- a count after so many more or fewer
abbrev pub shifted : Bool → ℕ → ℕ → ℕ
shifted more d n = cond more (n + d) (n - d)

-- ---- what items contribute

-- how often a member is among some
abbrev pub times : List Member → Member → ℕ
times [] m = 0
times (k ∷ ks) m = cond (same_member m k) 1 0 + times ks m

-- how often an item that is there contributes a member to a set that is used
abbrev pub gives : Option SetUse → Option Item → Member → ℕ
gives None x m = 0
gives (Some u) None m = 0
gives (Some u) (Some x) m = times (contributed u x) m

-- how often the items contribute it on which the set's selector holds
abbrev pub total : (ItemKey → Bool) → SetUse → List (ItemKey × Item) → Member → ℕ
total holds u [] m = 0
total holds u (x ∷ xs) m = cond (holds x.0) (times (contributed u x.1) m) 0 + total holds u xs m

-- the same of a set that may not be used
abbrev pub due : Items → Pairs → Option SetUse → Member → ℕ
due items matched None m = 0
due items matched (Some u) m = total (λ i. set.contains matched (text_of u, i)) u (map.entries items) m

-- ---- what follows

-- two maps have the same keys
abbrev pub HaveSameKeys : {K X Y : Type 0} {R : K → K → Ordering} → map.FinMap R X → map.FinMap R Y → Type 0
HaveSameKeys {K = K} m n = (k : K) → map.contains_key n k ≡ map.contains_key m k

-- the members of each set are those that are counted
abbrev pub AreTold : Counts → Sets → Type 0
AreTold counts sets = (name : List ℕ) (m : Member) → set.contains (members_of (map.get sets name)) m ≡ not (count_at counts name m == 0)
