-- Walks over noted sets: what those that are left make of the counted selectors is what all of them were to make.
use Rattle.std.proofs.Common.{◌≡◌, ℕ, List, [], ◌∷◌, Option, refl, sym, ap, ◌∙◌}
use Rattle.std.specs.FinMap as map
use Rattle.fx_label_index.specs.Canonicals.{Selectors}
use Rattle.fx_model.specs.Sinks.{Uses}
use Rattle.fx_model.specs.declared.set_use.SetUse.{SetUse}
use Rattle.fx_graph.specs.Fed.{raised_at, raised_by, lowered_at, lowered_by}

pub record IsRising (uses : Uses) (whole s : Selectors) (es : List (List ℕ × Option SetUse)) : Type 0 where
  pub left : raised_by uses es s ≡ whole

pub rising_first : (uses : Uses) (s : Selectors) (es : List (List ℕ × Option SetUse)) → IsRising uses (raised_by uses es s) s es
rising_first uses s es = record { left = refl }

pub rising_next : (uses : Uses) (whole s : Selectors) (e : List ℕ × Option SetUse) (es : List (List ℕ × Option SetUse)) → IsRising uses whole s (e ∷ es)
    → (o : Option SetUse) (next : Selectors) → map.get uses e.0 ≡ o → next ≡ raised_at s o → IsRising uses whole next es
rising_next uses whole s e es h o next found is = record { left = ap (raised_by uses es) (is ∙ ap (raised_at s) (sym found)) ∙ h.left }

pub rising_last : (uses : Uses) (whole s : Selectors) → IsRising uses whole s [] → s ≡ whole
rising_last uses whole s h = h.left

pub record IsFalling (whole s : Selectors) (es : List (List ℕ × Option SetUse)) : Type 0 where
  pub left : lowered_by es s ≡ whole

pub falling_first : (s : Selectors) (es : List (List ℕ × Option SetUse)) → IsFalling (lowered_by es s) s es
falling_first s es = record { left = refl }

pub falling_next : (whole s : Selectors) (e : List ℕ × Option SetUse) (es : List (List ℕ × Option SetUse)) → IsFalling whole s (e ∷ es)
    → (next : Selectors) → next ≡ lowered_at s e.1 → IsFalling whole next es
falling_next whole s e es h next is = record { left = ap (lowered_by es) is ∙ h.left }

pub falling_last : (whole s : Selectors) → IsFalling whole s [] → s ≡ whole
falling_last whole s h = h.left
