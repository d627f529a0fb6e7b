-- The members of a set, endpoints first.
use Rattle.std.proofs.Common.{◌≡◌, List, [], ◌∷◌, ◌++◌, filter, ap, sym, ◌∙◌}
use Rattle.std.proofs.lemmas.List.{map-append}
use Rattle.std.proofs.lemmas.List.Elements.{filter-append}
use Rattle.std.proofs.lemmas.Grind.{flat_map-append}
use Rattle.fx_base.specs.Extended.{extended}
use Rattle.fx_base.specs.Set as set
use Rattle.fx_base.specs.Set.{marked}
use Rattle.fx_base.proofs.ExtendedLemmas.{extended-append}
use Rattle.fx_selector.specs.Truth.{holds}
use Rattle.fx_model.specs.declared.ids.ItemKey.{ItemKey}
use Rattle.fx_model.specs.declared.member.Member.{Member}
use Rattle.fx_model.specs.declared.resources.Item.{Item}
use Rattle.fx_model.specs.declared.resources.Resources.{Resources}
use Rattle.fx_model.specs.declared.set_use.SetUse.{SetUse}
use Rattle.fx_model.specs.Labels.{labels_of}
use Rattle.fx_model.specs.Messages.{Members}
use Rattle.fx_model.specs.Sets.{contributed, contributions, selected_of}

-- what some items contribute, and then others
pub items_both : (R : Resources) (u : SetUse) (m : Members) (xs ys : List (ItemKey × Item)) →
    extended m (marked (contributions u (selected_of R u.selector (xs ++ ys))))
    ≡ extended (extended m (marked (contributions u (selected_of R u.selector xs)))) (marked (contributions u (selected_of R u.selector ys)))
items_both R u m xs ys =
    let chosen = λ (x : ItemKey × Item). holds u.selector (labels_of R x) in
    ap (λ zs. extended m (marked (contributions u zs))) (filter-append chosen xs ys)
    ∙ (ap (λ zs. extended m (marked zs)) (flat_map-append (λ x. contributed u x.1) (filter chosen xs) (filter chosen ys))
    ∙ (ap (extended m) (map-append (λ k. (k, tt)) (contributions u (filter chosen xs)) (contributions u (filter chosen ys)))
    ∙ extended-append m (marked (contributions u (filter chosen xs))) (marked (contributions u (filter chosen ys)))))

-- one item more is put in, and others are left
pub one_more_item : (R : Resources) (u : SetUse) (m n total : Members) (x : ItemKey × Item) (xs : List (ItemKey × Item)) →
    n ≡ extended m (marked (contributions u (selected_of R u.selector (x ∷ []))))
    → extended m (marked (contributions u (selected_of R u.selector (x ∷ xs)))) ≡ total
    → extended n (marked (contributions u (selected_of R u.selector xs))) ≡ total
one_more_item R u m n total x xs put all =
    ap (λ k. extended k (marked (contributions u (selected_of R u.selector xs)))) put ∙ (sym (items_both R u m (x ∷ []) xs) ∙ all)

-- one member more is put in
pub one_more_member : (m n k : Members) (xs : List Member) (x : Member) → n ≡ extended m (marked xs) → k ≡ set.insert n x → k ≡ extended m (marked (xs ++ x ∷ []))
one_more_member m n k xs x those this =
    this ∙ (ap (λ (s : Members). set.insert s x) those
    ∙ sym (ap (extended m) (map-append (λ y. (y, tt)) xs (x ∷ [])) ∙ extended-append m (marked xs) ((x, tt) ∷ [])))
