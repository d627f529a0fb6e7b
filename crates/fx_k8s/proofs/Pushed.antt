-- What items give that are walked one after another.
use Rattle.std.proofs.Common.{◌≡◌, ℕ, ◌+◌, ◌<◌, Bool, true, List, [], ◌∷◌, ◌++◌, length, take, get_or, refl, sym, ap, ◌∙◌}
use Rattle.std.proofs.lemmas.List.{append_assoc, append-nil, take_more}
use Rattle.std.proofs.lemmas.Grind.{flat_map-append}
use Rattle.std.specs.List.{flat_map, list_all}
use Rattle.fx_fields.proofs.Readings.{both, first_of, second_of}

-- one item more
pub one_more : {A B : Type 0} (f : A → List B) (before us vs : List B) (items : List A) (i : ℕ) (d x : A) → i < length items → x ≡ get_or items i d → us ≡ before ++ flat_map f (take i items) → vs ≡ us ++ f x → vs ≡ before ++ flat_map f (take (i + 1) items)
one_more {A = A} {B = B} f before us vs items i d x within here those this =
    this ∙ (ap (λ (l : List B). l ++ f x) those
    ∙ (append_assoc before (flat_map f (take i items)) (f x)
    ∙ ap (λ (l : List B). before ++ l)
    (ap (λ (q : A). flat_map f (take i items) ++ f q) here
    ∙ (ap (λ (l : List B). flat_map f (take i items) ++ l) (sym (append-nil (f (get_or items i d))))
    ∙ sym (ap (flat_map f) (take_more items i d within) ∙ flat_map-append f (take i items) (get_or items i d ∷ []))))))

-- one that passes a test behind some that do
pub one_more_passes : {A : Type 0} (test : A → Bool) (xs : List A) (x : A) → list_all test xs ≡ true → test x ≡ true → list_all test (xs ++ x ∷ []) ≡ true
one_more_passes test [] x h e = both (test x) true e refl
one_more_passes test (y ∷ ys) x h e =
    both (test y) (list_all test (ys ++ x ∷ [])) (first_of (test y) (list_all test ys) h) (one_more_passes test ys x (second_of (test y) (list_all test ys) h) e)
