-- What stands at places, tier by tier: what holds of all that is put there holds of all in the tiers, and a change of each leaves the
-- order.
use Rattle.std.proofs.Common.{◌≡◌, true, false, List, [], ◌∷◌, map, refl, sym, ap, ◌∙◌, subst}
use Rattle.std.specs.Prelude.{if◌then◌else◌}
use Rattle.std.specs.List.{AllByRecursion}
use Rattle.std.specs.Str.{bytes_eq}
use Rattle.std.specs.declared.cmp.Ordering.{Ordering}
use Rattle.std.specs.declared.cmp.Ordering.TheVariants.{Less, Equal, Greater}
use Rattle.std.specs.Cmp.{IsTotalOrder}
use Rattle.std.specs.FinMap.{FinMap, entries, insert, empty, put, entries-insert}
use Rattle.std.specs.FinMap.Entries.{by_order}
use Rattle.fx_base.specs.Extended.{extended}
use Rattle.fx_base.proofs.Entries.{entries-empty}
use Rattle.fx_model.specs.declared.tier_order.PolicyPlace.{PolicyPlace}
use Rattle.fx_model.specs.contracts.tier_order.PolicyPlaceOrd.TheImpl as place_cmp
use Rattle.fx_model.specs.TierOrder.{TierHead, head_of, onto_tiers, tier_by_tier, in_order, tiers_of}
use Rattle.fx_model.proofs.Orders.{place_total}

-- ---- what holds of each value

abbrev AllValues : {K X : Type 0} → (X → Type 0) → List (K × X) → Type 0
AllValues P es = AllByRecursion (λ e. P e.1) es

module _ {K X : Type 0} (R : K → K → Ordering) (P : X → Type 0) where
  values-put : (k : K) (v : X) (es : List (K × X)) → P v → AllValues P es → AllValues P (put R k v es)
  values-put k v [] here h = (here, tt)
  values-put k v (e ∷ es) here h =
      elim (R k e.0) as (λ r. AllValues P (by_order r ((k, v) ∷ e ∷ es) ((e.0, v) ∷ es) (e ∷ put R k v es))) [
        | Less ↦ (here, h)
        | Equal ↦ (here, h.1)
        | Greater ↦ (h.0, values-put k v es here h.1)
      ]

  module _ (o : IsTotalOrder R) where
    values-extended : (m : FinMap R X) (es : List (K × X)) → AllValues P (entries m) → AllValues P es → AllValues P (entries (extended m es))
    values-extended m [] h g = h
    values-extended m (e ∷ es) h g =
        values-extended (insert m e.0 e.1) es (subst (AllValues P) (sym (entries-insert o m e.0 e.1)) (values-put e.0 e.1 (entries m) g.0 h)) g.1

    values-collected : (es : List (K × X)) → AllValues P es → AllValues P (entries {R = R} (extended empty es))
    values-collected es g = values-extended empty es (subst (AllValues P) (sym (entries-empty R)) tt) g

module _ {X : Type 0} (P : X → Type 0) where
  abbrev pub AllInTiers : List (TierHead × List X) → Type 0
  AllInTiers ts = AllByRecursion (λ t. AllByRecursion P t.1) ts

  onto_all : (tier : TierHead) (x : X) (ts : List (TierHead × List X)) → P x → AllInTiers ts → AllInTiers (onto_tiers tier x ts)
  onto_all tier x [] here h = ((here, tt), tt)
  onto_all tier x (t ∷ ts) here h =
      elim (bytes_eq tier.name t.0.name) as (λ b. AllInTiers (if b then (tier, x ∷ t.1) ∷ ts else (tier, x ∷ []) ∷ t ∷ ts)) [
        | true ↦ ((here, h.0), h.1)
        | false ↦ ((here, tt), h)
      ]

  by_tier_all : (es : List (PolicyPlace × X)) → AllByRecursion (λ e. P e.1) es → AllInTiers (tier_by_tier es)
  by_tier_all [] h = tt
  by_tier_all (e ∷ es) h = onto_all (head_of e.0) e.1 (tier_by_tier es) h.0 (by_tier_all es h.1)

  pub tiers_all : (es : List (PolicyPlace × X)) → AllByRecursion (λ e. P e.1) es → AllInTiers (tiers_of es)
  tiers_all es h = by_tier_all (in_order es) (values-collected place_cmp.cmp-value.it P place_total es h)

-- ---- what holds of each place

module _ {K X : Type 0} (R : K → K → Ordering) (Q : K → Type 0) where
  keys-put : (k : K) (v : X) (es : List (K × X)) → Q k → AllByRecursion (λ e. Q e.0) es → AllByRecursion (λ e. Q e.0) (put R k v es)
  keys-put k v [] here h = (here, tt)
  keys-put k v (e ∷ es) here h =
      elim (R k e.0) as (λ r. AllByRecursion (λ f. Q f.0) (by_order r ((k, v) ∷ e ∷ es) ((e.0, v) ∷ es) (e ∷ put R k v es))) [
        | Less ↦ (here, h)
        | Equal ↦ (h.0, h.1)
        | Greater ↦ (h.0, keys-put k v es here h.1)
      ]

  module _ (o : IsTotalOrder R) where
    keys-extended : (m : FinMap R X) (es : List (K × X)) → AllByRecursion (λ e. Q e.0) (entries m) → AllByRecursion (λ e. Q e.0) es → AllByRecursion (λ e. Q e.0) (entries (extended m es))
    keys-extended m [] h g = h
    keys-extended m (e ∷ es) h g =
        keys-extended (insert m e.0 e.1) es (subst (AllByRecursion (λ f. Q f.0)) (sym (entries-insert o m e.0 e.1)) (keys-put e.0 e.1 (entries m) g.0 h)) g.1

    keys-collected : (es : List (K × X)) → AllByRecursion (λ e. Q e.0) es → AllByRecursion (λ e. Q e.0) (entries {R = R} (extended empty es))
    keys-collected es g = keys-extended empty es (subst (AllByRecursion (λ f. Q f.0)) (sym (entries-empty R)) tt) g

module _ {X : Type 0} (Q : TierHead → Type 0) where
  abbrev pub AllHeads : List (TierHead × List X) → Type 0
  AllHeads ts = AllByRecursion (λ t. Q t.0) ts

  onto_heads : (tier : TierHead) (x : X) (ts : List (TierHead × List X)) → Q tier → AllHeads ts → AllHeads (onto_tiers tier x ts)
  onto_heads tier x [] here h = (here, tt)
  onto_heads tier x (t ∷ ts) here h =
      elim (bytes_eq tier.name t.0.name) as (λ b. AllHeads (if b then (tier, x ∷ t.1) ∷ ts else (tier, x ∷ []) ∷ t ∷ ts)) [
        | true ↦ (here, h.1)
        | false ↦ (here, h)
      ]

  by_tier_heads : (es : List (PolicyPlace × X)) → AllByRecursion (λ e. Q (head_of e.0)) es → AllHeads (tier_by_tier es)
  by_tier_heads [] h = tt
  by_tier_heads (e ∷ es) h = onto_heads (head_of e.0) e.1 (tier_by_tier es) h.0 (by_tier_heads es h.1)

  pub tiers_heads : (es : List (PolicyPlace × X)) → AllByRecursion (λ e. Q (head_of e.0)) es → AllHeads (tiers_of es)
  tiers_heads es h = by_tier_heads (in_order es) (keys-collected place_cmp.cmp-value.it (λ p. Q (head_of p)) place_total es h)

-- ---- a change of each value

abbrev changed : {K X Y : Type 0} → (X → Y) → K × X → K × Y
changed f e = (e.0, f e.1)

module _ {K X Y : Type 0} (R : K → K → Ordering) (f : X → Y) where
  put-map : (k : K) (v : X) (es : List (K × X)) → put R k (f v) (map (changed f) es) ≡ map (changed f) (put R k v es)
  put-map k v [] = refl
  put-map k v (e ∷ es) =
      elim (R k e.0) as (λ r. by_order r ((k, f v) ∷ changed f e ∷ map (changed f) es) ((e.0, f v) ∷ map (changed f) es) (changed f e ∷ put R k (f v) (map (changed f) es)) ≡ map (changed f) (by_order r ((k, v) ∷ e ∷ es) ((e.0, v) ∷ es) (e ∷ put R k v es))) [
        | Less ↦ refl
        | Equal ↦ refl
        | Greater ↦ ap (λ l. changed f e ∷ l) (put-map k v es)
      ]

  module _ (o : IsTotalOrder R) where
    extended-map : (m : FinMap R X) (n : FinMap R Y) (es : List (K × X)) → entries n ≡ map (changed f) (entries m) → entries (extended n (map (changed f) es)) ≡ map (changed f) (entries (extended m es))
    extended-map m n [] same = same
    extended-map m n (e ∷ es) same =
        extended-map (insert m e.0 e.1) (insert n e.0 (f e.1)) es
        (entries-insert o n e.0 (f e.1) ∙ ap (put R e.0 (f e.1)) same ∙ put-map e.0 e.1 (entries m) ∙ ap (map (changed f)) (sym (entries-insert o m e.0 e.1)))

    collected-map : (es : List (K × X)) → entries {R = R} (extended empty (map (changed f) es)) ≡ map (changed f) (entries {R = R} (extended empty es))
    collected-map es = extended-map empty empty es (entries-empty R ∙ ap (map (changed f)) (sym (entries-empty R)))

module _ {X Y : Type 0} (f : X → Y) where
  abbrev tier_changed : TierHead × List X → TierHead × List Y
  tier_changed t = (t.0, map f t.1)

  onto-map : (tier : TierHead) (x : X) (ts : List (TierHead × List X)) → onto_tiers tier (f x) (map tier_changed ts) ≡ map tier_changed (onto_tiers tier x ts)
  onto-map tier x [] = refl
  onto-map tier x (t ∷ ts) =
      elim (bytes_eq tier.name t.0.name) as (λ b. (if b then (tier, f x ∷ map f t.1) ∷ map tier_changed ts else (tier, f x ∷ []) ∷ tier_changed t ∷ map tier_changed ts) ≡ map tier_changed (if b then (tier, x ∷ t.1) ∷ ts else (tier, x ∷ []) ∷ t ∷ ts)) [
        | true ↦ refl
        | false ↦ refl
      ]

  by_tier-map : (es : List (PolicyPlace × X)) → tier_by_tier (map (changed f) es) ≡ map tier_changed (tier_by_tier es)
  by_tier-map [] = refl
  by_tier-map (e ∷ es) = ap (onto_tiers (head_of e.0) (f e.1)) (by_tier-map es) ∙ onto-map (head_of e.0) e.1 (tier_by_tier es)

  pub tiers-map : (es : List (PolicyPlace × X)) → tiers_of (map (changed f) es) ≡ map tier_changed (tiers_of es)
  tiers-map es = ap tier_by_tier (collected-map place_cmp.cmp-value.it f place_total es) ∙ by_tier-map (in_order es)
