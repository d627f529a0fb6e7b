-- Tiers that grow at their end are those of the places so far.
use Rattle.std.proofs.Common.{◌≡◌, ℕ, Bool, true, false, List, [], ◌∷◌, ◌++◌, map, refl, sym, ap, ◌∙◌, append_assoc}
use Rattle.std.proofs.lemmas.List.{append-nil}
use Rattle.std.specs.Prelude.{if◌then◌else◌}
use Rattle.std.specs.Str.{bytes_eq}
use Rattle.fx_base.specs.Same.{same_bytes}
use Rattle.fx_model.specs.declared.tier_order.PolicyPlace.{PolicyPlace}
use Rattle.fx_model.specs.declared.view.ViewTier.{ViewTier}
use Rattle.fx_model.specs.TierOrder.{TierHead, head_of, onto_tiers, tier_by_tier, view_tier, grown, pushed}

-- the last tier has grown
pub pushed_last : (tier : TierHead) (key : List ℕ) (ts : List ViewTier) (t : ViewTier) → pushed tier key (ts ++ t ∷ []) ≡ ts ++ grown tier key t
pushed_last tier key [] t = refl
pushed_last tier key (u ∷ []) t = refl
pushed_last tier key (u ∷ v ∷ ts) t = ap (λ us. u ∷ us) (pushed_last tier key (v ∷ ts) t)

-- one more in front, in a view
abbrev onto_view : TierHead → List ℕ → List ViewTier → List ViewTier
onto_view tier key [] = view_tier (tier, key ∷ []) ∷ []
onto_view tier key (t ∷ ts) = if bytes_eq tier.name t.name then view_tier (tier, key ∷ t.policies) ∷ ts else view_tier (tier, key ∷ []) ∷ t ∷ ts

onto_same : (tier : TierHead) (key : List ℕ) (ts : List (TierHead × List (List ℕ))) → map view_tier (onto_tiers tier key ts) ≡ onto_view tier key (map view_tier ts)
onto_same tier key [] = refl
onto_same tier key (t ∷ ts) =
    elim (bytes_eq tier.name t.0.name) as (λ b. map view_tier (if b then (tier, key ∷ t.1) ∷ ts else (tier, key ∷ []) ∷ t ∷ ts) ≡ (if b then view_tier (tier, key ∷ t.1) ∷ map view_tier ts else view_tier (tier, key ∷ []) ∷ view_tier t ∷ map view_tier ts)) [
      | true ↦ refl
      | false ↦ refl
    ]

module _ (tier : TierHead) (key : List ℕ) (last : TierHead) (more : List ℕ) where
  abbrev alone : ViewTier
  alone = view_tier (tier, key ∷ [])

  abbrev behind : ViewTier
  behind = view_tier (last, more ∷ [])

  abbrev longer : ViewTier → ViewTier
  longer t = record t { policies = t.policies ++ more ∷ [] }

  abbrev joined : ViewTier → ViewTier
  joined t = view_tier (tier, key ∷ t.policies)

  -- one tier, to which something comes at both ends
  single : (t : ViewTier) (b c : Bool) → bytes_eq t.name last.name ≡ b → bytes_eq tier.name t.name ≡ c → onto_view tier key (if b then longer t ∷ [] else t ∷ behind ∷ []) ≡ pushed last more (if c then joined t ∷ [] else alone ∷ t ∷ [])
  single t true true e f =
      let g : bytes_eq tier.name last.name ≡ true = ap (λ (n : List ℕ). bytes_eq n last.name) (same_bytes tier.name t.name f) ∙ e in
      ap (λ x. if x then joined (longer t) ∷ [] else alone ∷ longer t ∷ []) f
      ∙ sym (ap (λ x. if x then longer (joined t) ∷ [] else joined t ∷ behind ∷ []) g)
  single t true false e f =
      ap (λ x. if x then joined (longer t) ∷ [] else alone ∷ longer t ∷ []) f
      ∙ sym (ap (λ x. alone ∷ (if x then longer t ∷ [] else t ∷ behind ∷ [])) e)
  single t false true e f =
      let g : bytes_eq tier.name last.name ≡ false = ap (λ (n : List ℕ). bytes_eq n last.name) (same_bytes tier.name t.name f) ∙ e in
      ap (λ x. if x then joined t ∷ behind ∷ [] else alone ∷ t ∷ behind ∷ []) f
      ∙ sym (ap (λ x. if x then longer (joined t) ∷ [] else joined t ∷ behind ∷ []) g)
  single t false false e f =
      ap (λ x. if x then joined t ∷ behind ∷ [] else alone ∷ t ∷ behind ∷ []) f
      ∙ sym (ap (λ x. alone ∷ (if x then longer t ∷ [] else t ∷ behind ∷ [])) e)

  first_and_last : (ts : List ViewTier) → onto_view tier key (pushed last more ts) ≡ pushed last more (onto_view tier key ts)
  first_and_last [] = refl
  first_and_last (t ∷ []) = single t (bytes_eq t.name last.name) (bytes_eq tier.name t.name) refl refl
  first_and_last (t ∷ u ∷ ts) =
      elim (bytes_eq tier.name t.name) as (λ c. (if c then joined t ∷ pushed last more (u ∷ ts) else alone ∷ t ∷ pushed last more (u ∷ ts)) ≡ pushed last more (if c then joined t ∷ u ∷ ts else alone ∷ t ∷ u ∷ ts)) [
        | true ↦ refl
        | false ↦ refl
      ]

abbrev Placed : Type 0
Placed = PolicyPlace × List ℕ

-- one more behind all others
more_behind : (es : List Placed) (e : Placed) → map view_tier (tier_by_tier (es ++ e ∷ [])) ≡ pushed (head_of e.0) e.1 (map view_tier (tier_by_tier es))
more_behind [] e = refl
more_behind (f ∷ fs) e =
    onto_same (head_of f.0) f.1 (tier_by_tier (fs ++ e ∷ []))
    ∙ ap (onto_view (head_of f.0) f.1) (more_behind fs e)
    ∙ first_and_last (head_of f.0) f.1 (head_of e.0) e.1 (map view_tier (tier_by_tier fs))
    ∙ ap (pushed (head_of e.0) e.1) (sym (onto_same (head_of f.0) f.1 (tier_by_tier fs)))

-- tiers with all of these behind
abbrev pub all_pushed : List ViewTier → List Placed → List ViewTier
all_pushed ts [] = ts
all_pushed ts (e ∷ es) = all_pushed (pushed (head_of e.0) e.1 ts) es

pushed_behind : (ds es : List Placed) → all_pushed (map view_tier (tier_by_tier ds)) es ≡ map view_tier (tier_by_tier (ds ++ es))
pushed_behind ds [] = ap (λ (xs : List Placed). map view_tier (tier_by_tier xs)) (sym (append-nil ds))
pushed_behind ds (e ∷ es) =
    ap (λ (ts : List ViewTier). all_pushed ts es) (sym (more_behind ds e))
    ∙ pushed_behind (ds ++ e ∷ []) es
    ∙ ap (λ (xs : List Placed). map view_tier (tier_by_tier xs)) (append_assoc ds (e ∷ []) es)

-- pushed one after another, they are in their tiers
pub all_pushed_is : (es : List Placed) → all_pushed [] es ≡ map view_tier (tier_by_tier es)
all_pushed_is es = pushed_behind [] es
