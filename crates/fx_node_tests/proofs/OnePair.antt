-- A pair that stands alone is there, and none is left once it is taken away.
use Rattle.std.proofs.Common.{◌≡◌, ℕ, List, Bool, true, false, refl, ap, ◌∙◌}
use Rattle.fx_base.specs.Set as set
use Rattle.fx_base.proofs.SetAt.{put_back}
use Rattle.fx_model.specs.Pairs.{Pairs}
use Rattle.fx_model.specs.declared.ids.ItemKey.{ItemKey}
use Rattle.fx_model.proofs.Orders.{pairs_total, exact_pair}
use Rattle.fx_record.proofs.Recorded.{no_pair, pair_put}
use Rattle.fx_node_tests.specs.Standing.{standing}

module _ (text : List ℕ) (item : ItemKey) (s : Pairs) (on : Bool) (is : s ≡ standing text item on) where
  pub absent : on ≡ false → set.contains s (text, item) ≡ false
  absent off = no_pair s (text, item) (is ∙ ap (standing text item) off)

  pub present : on ≡ true → set.contains s (text, item) ≡ true
  present there = pair_put set.empty s (text, item) (is ∙ ap (standing text item) there)

  pub put : on ≡ false → set.insert s (text, item) ≡ standing text item true
  put off = ap (λ u. set.insert u (text, item)) (is ∙ ap (standing text item) off)

  pub taken : on ≡ true → set.remove s (text, item) ≡ standing text item false
  taken there =
      ap (λ u. set.remove u (text, item)) (is ∙ ap (standing text item) there)
      ∙ put_back pairs_total exact_pair set.empty (text, item) (no_pair set.empty (text, item) refl)
