use Rattle.std.proofs.Common.{◌≡◌, ℕ, List, sym, ap, ◌∙◌, subst}
use Rattle.std.specs.FinMap.{from_entries}
use Rattle.std.proofs.lemmas.Map.Entries.{entries_from_clone}
use Rattle.fx_base.specs.TextPlaces.{Ascends}
use Rattle.fx_selector.proofs.labels.LabelsClone.clone.Goals as goal

pub invariant_of-result : goal.invariant_of-result
invariant_of-result c =
    subst Ascends (sym (entries_from_clone (λ (x y : List ℕ). y ≡ x) (λ (v w : List ℕ). w ≡ v) (λ x y e. e) (λ v w e. e) _ _ c.in_ok-clone.ensures.cases.0)) c.self.invariant

pub returns : goal.returns
returns c = record {
  cases =
      ap from_entries (entries_from_clone (λ (x y : List ℕ). y ≡ x) (λ (v w : List ℕ). w ≡ v) (λ x y e. e) (λ v w e. e) _ _ c.in_ok-clone.ensures.cases.0)
      ∙ c.self.view_is;
}
