-- How often the index counts a selector: once for each policy that has it, and as often as it is used besides.
use Rattle.std.specs.Prelude.{◌≡◌, ℕ, ◌+◌, ◌<◌, cond, true, List, [], ◌∷◌, Option, Some, None, ⊤}
use Rattle.std.specs.FinMap as map
use Rattle.fx_model.specs.Sinks.{Policies}
use Rattle.fx_model.specs.declared.ids.PolicyId.{PolicyId}
use Rattle.fx_model.specs.declared.policy.Policy.{Policy}
use Rattle.fx_label_index.specs.Canonicals.{Selectors, AreCanonical}
use Rattle.fx_label_index.specs.Counts.{uses_in}
use Rattle.fx_label_index.specs.Matched.{text_eq}
use Rattle.fx_label_index.specs.declared.counted.Counted.{Counted}
use Rattle.fx_active.specs.Active.{text_of}

-- one where the policy's selector has the text
abbrev pub weight : List ℕ → Policy → ℕ
weight t p = cond (text_eq t (text_of p)) 1 0

-- the same of a policy that is there
abbrev pub weight_of : List ℕ → Option Policy → ℕ
weight_of t None = 0
weight_of t (Some p) = weight t p

abbrev pub times_among : List ℕ → List (PolicyId × Policy) → ℕ
times_among t [] = 0
times_among t (e ∷ es) = weight t e.1 + times_among t es

-- how many policies have this selector
abbrev pub times : Policies → List ℕ → ℕ
times policies t = times_among t (map.entries policies)

-- the policies that have it, and what else uses it
abbrev pub total : Policies → (List ℕ → ℕ) → List ℕ → ℕ
total policies used t = times policies t + used t

-- no uses
abbrev pub none_used : List ℕ → ℕ
none_used t = 0

-- one use of the text more
abbrev pub with_one : List ℕ → (List ℕ → ℕ) → List ℕ → ℕ
with_one text uses t = cond (text_eq t text) 1 0 + uses t

-- the same, if there is a text
abbrev pub with_some : Option (List ℕ) → (List ℕ → ℕ) → List ℕ → ℕ
with_some None uses = uses
with_some (Some text) uses = with_one text uses

-- the counted selectors stand under their canonical texts, and each as often as it is used
pub record IsCounted (s : Selectors) (uses : List ℕ → ℕ) : Type 0 where
  pub trees : AreCanonical s
  pub some : (t : List ℕ) (c : Counted) → map.get s t ≡ Some c → 0 < c.uses
  pub count : (t : List ℕ) → uses_in (map.get s t) ≡ uses t

-- what was counted at first still is
abbrev pub StillCounted : Selectors → Selectors → Type 0
StillCounted first s = (t : List ℕ) → map.contains_key first t ≡ true → map.contains_key s t ≡ true

-- the text, if there is one, is counted
abbrev pub IsCountedText : Selectors → Option (List ℕ) → Type 0
IsCountedText s None = ⊤
IsCountedText s (Some t) = map.contains_key s t ≡ true
