-- Which selectors the index counts: those of the policies and of the sets that rules use, and no others.
use Rattle.std.specs.Prelude.{◌≡◌, ◌⊎◌, ℕ, true, List, Some}
use Rattle.std.specs.FinMap as map
use Rattle.fx_selector.specs.Tree.{IsSelector}
use Rattle.fx_selector.specs.Canonical.{canonical_text}
use Rattle.fx_model.specs.Sinks.{Policies, Uses}
use Rattle.fx_model.specs.declared.ids.PolicyId.{PolicyId}
use Rattle.fx_model.specs.declared.policy.Policy.{Policy}
use Rattle.fx_model.specs.declared.set_use.SetUse.{SetUse}
use Rattle.fx_label_index.specs.Canonicals.{Selectors, AreCanonical}

-- some policy's selector has this canonical text, or that of some used set
abbrev pub IsTextOfPolicy : Policies → List ℕ → Type 0
IsTextOfPolicy policies t = (id : PolicyId) × ((p : Policy) × ((map.get policies id ≡ Some p) × (t ≡ canonical_text p.selector)))

abbrev pub IsTextOfSet : Uses → List ℕ → Type 0
IsTextOfSet uses t = (name : List ℕ) × ((u : SetUse) × ((map.get uses name ≡ Some u) × (t ≡ canonical_text u.selector)))

pub record CountsUsed (s : Selectors) (policies : Policies) (uses : Uses) : Type 0 where
  pub trees : AreCanonical s
  pub of_policies : (id : PolicyId) (p : Policy) → map.get policies id ≡ Some p → IsSelector p.selector × (map.contains_key s (canonical_text p.selector) ≡ true)
  pub of_sets : (name : List ℕ) (u : SetUse) → map.get uses name ≡ Some u → IsSelector u.selector × (map.contains_key s (canonical_text u.selector) ≡ true)
  pub no_others : (t : List ℕ) → map.contains_key s t ≡ true → IsTextOfPolicy policies t ⊎ IsTextOfSet uses t
