-- Lists that are mapped and filtered.
use Rattle.std.proofs.Common.{◌≡◌, Bool, true, false, cond, ◌&&◌, List, [], ◌∷◌, map, refl, ap, ◌∙◌}
use Rattle.std.specs.Prelude.{filter}
use Rattle.std.specs.List.{AllByRecursion}

-- each element that passes is there, and passes
pub all_filtered : {A : Type 0} (P : A → Type 0) (t : A → Bool) (xs : List A) → AllByRecursion P xs → AllByRecursion (λ x. P x × (t x ≡ true)) (filter t xs)
all_filtered P t [] h = tt
all_filtered P t (x ∷ xs) h =
    elim (t x) as (λ b. t x ≡ b → AllByRecursion (λ y. P y × (t y ≡ true)) (cond b (x ∷ filter t xs) (filter t xs))) [
      | true ↦ λ p. ((h.0, p), all_filtered P t xs h.1)
      | false ↦ λ p. all_filtered P t xs h.1
    ] refl

pub map_alike : {A B : Type 0} (f g : A → B) (xs : List A) → AllByRecursion (λ x. f x ≡ g x) xs → map f xs ≡ map g xs
map_alike f g [] h = refl
map_alike f g (x ∷ xs) h = λ i. h.0 i ∷ map_alike f g xs h.1 i

pub map-map : {A B C : Type 0} (g : B → C) (f : A → B) (xs : List A) → map g (map f xs) ≡ map (λ x. g (f x)) xs
map-map g f [] = refl
map-map g f (x ∷ xs) = ap (λ ys. g (f x) ∷ ys) (map-map g f xs)

pub filter-map : {A B : Type 0} (t : B → Bool) (f : A → B) (xs : List A) → filter t (map f xs) ≡ map f (filter (λ x. t (f x)) xs)
filter-map t f [] = refl
filter-map t f (x ∷ xs) =
    elim (t (f x)) as (λ b. cond b (f x ∷ filter t (map f xs)) (filter t (map f xs)) ≡ map f (cond b (x ∷ filter (λ y. t (f y)) xs) (filter (λ y. t (f y)) xs))) [
      | true ↦ ap (λ ys. f x ∷ ys) (filter-map t f xs)
      | false ↦ filter-map t f xs
    ]

-- what passes both tests, where they come to a third one
pub filter_both : {A : Type 0} (s t q : A → Bool) (xs : List A) → AllByRecursion (λ x. (s x && t x) ≡ q x) xs → filter t (filter s xs) ≡ filter q xs
filter_both s t q [] h = refl
filter_both s t q (x ∷ xs) h =
    let rest = filter s xs in
    elim (s x) as (λ b. (b && t x) ≡ q x → filter t (cond b (x ∷ rest) rest) ≡ cond (q x) (x ∷ filter q xs) (filter q xs)) [
      | true ↦ λ p. (λ i. cond (p i) (x ∷ filter_both s t q xs h.1 i) (filter_both s t q xs h.1 i))
      | false ↦ λ p. filter_both s t q xs h.1 ∙ ap (λ b. cond b (x ∷ filter q xs) (filter q xs)) p
    ] h.0
