-- What the node holds beside its inputs, so as to find things.
use Rattle.std.specs.Prelude.{◌≡◌, ◌==◌, ℕ, Bool, false, cond, nat_eq, List, Option, Some, None, unwrap_or}
use Rattle.std.specs.Ordering.{nat_cmp}
use Rattle.std.specs.Cmp.Lexicographic.{slice_cmp, pointwise}
use Rattle.std.specs.List.{count_by, sum_by}
use Rattle.std.specs.FinMap as map
use Rattle.fx_base.specs.Grouped.{Grouped, has_key}
use Rattle.fx_model.specs.Sinks.{Policies, Profiles}
use Rattle.fx_model.specs.declared.ids.ItemKey.{ItemKey}
use Rattle.fx_model.specs.declared.ids.PolicyId.{PolicyId}
use Rattle.fx_model.specs.declared.policy.Policy.{Policy}
use Rattle.fx_model.specs.contracts.ids.PolicyIdOrd.TheImpl.{cmp-value}
use Rattle.fx_active.specs.Inputs.{Endpoints, Named}
use Rattle.fx_active.specs.Active.{text_of}

-- ---- policies by their selectors' texts

abbrev pub ByText : Type 0
ByText = Grouped (slice_cmp nat_cmp) cmp-value.it

-- a policy that is there has this selector
abbrev pub has_text : List ℕ → Option Policy → Bool
has_text t None = false
has_text t (Some p) = pointwise nat_eq (text_of p) t

-- below each text stand the policies that have it
abbrev pub AreByText : ByText → Policies → Type 0
AreByText by_text policies = (t : List ℕ) (id : PolicyId) → has_key (map.get by_text t) id ≡ has_text t (map.get policies id)

-- ---- counted listings of profiles

abbrev pub Counts : Type 0
Counts = map.FinMap (slice_cmp nat_cmp) ℕ

abbrev pub count_at : Counts → List ℕ → ℕ
count_at counts name = unwrap_or (map.get counts name) 0

-- how often a name is in a list
abbrev pub times_in : List (List ℕ) → List ℕ → ℕ
times_in names name = count_by (λ q. pointwise nat_eq q name) names

-- how often the endpoints list a profile
abbrev pub times_listed : List (ItemKey × List (List ℕ)) → List ℕ → ℕ
times_listed es name = sum_by (λ e. times_in e.1 name) es

abbrev pub AreCounts : Counts → Endpoints → Type 0
AreCounts counts endpoints = (name : List ℕ) → count_at counts name ≡ times_listed (map.entries endpoints) name

-- the sink's profiles are those that are counted
abbrev pub AreCounted : Named → Counts → Profiles → Type 0
AreCounted profiles counts output = (name : List ℕ) → map.get output name ≡ cond (count_at counts name == 0) None (Some (map.get profiles name))
