use Rattle.std.proofs.Common.{◌≡◌, refl, ap, ◌∙◌}
use Rattle.std.proofs.lemmas.Fn.{answers_by}
use Rattle.std.specs.Ordering.{nat_cmp}
use Rattle.std.specs.Cmp.Lexicographic.{slice_cmp}
use Rattle.fx_base.proofs.TextPlaces.{searched}
use Rattle.fx_selector.proofs.labels.place.Goals as goal

pub returns : goal.returns
returns c =
    let k = c.args.key.now in
    let position = c.binary_search_by.ensures.position (λ label. slice_cmp nat_cmp label.0 k) (answers_by _ _ (λ f. f.0.now.now ≡ k) (λ f a r g called same. (called.met.1 ∙ ap (slice_cmp nat_cmp a.0.now.0) same, ap (λ x. x.now.now) called.met.0 ∙ same)) _ refl) in
    let both = searched k _ c.requires _ c.binary_search_by.ensures.bound position in
    record { found = both.0; missing = both.1 }
