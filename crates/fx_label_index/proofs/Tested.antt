-- How the tests of several calls add up, from the inputs before the first to those after the last.
use Rattle.std.proofs.Common.{◌≡◌, ℕ, ◌+◌, true, false, cond, List, Some, is_some, refl, ap, ◌∙◌, subst, arith}
use Rattle.std.specs.FinMap.{get, contains_key}
use Rattle.fx_base.specs.Ticks.{IsTicked}
use Rattle.fx_selector.specs.Tree.{Tree}
use Rattle.fx_label_index.specs.Counts.{raised, lowered}
use Rattle.fx_label_index.specs.Matched.{labels_of, holds_on}
use Rattle.fx_label_index.specs.Tested.{Changing, Standing, either, comes, met_on, on_items, between, at_put, least_between, IsTested}
use Rattle.fx_label_index.specs.declared.counted.Counted.{Counted}
use Rattle.fx_label_index.specs.declared.held.Inputs.{Inputs}
use Rattle.fx_label_index.proofs.Sums.{none_between, selector_raised, then_raised, then_lowered}

no_less : (n : ℕ) → 0 + n ≡ n
no_less n = omega arith

twice : (b : Inputs) (t : List ℕ) (n : ℕ) → cond (contains_key b.selectors t) 0 (cond (contains_key b.selectors t) 0 n) ≡ cond (contains_key b.selectors t) 0 n
twice b t n = elim (contains_key b.selectors t) as (λ c. cond c 0 (cond c 0 n) ≡ cond c 0 n) [ true ↦ refl | false ↦ refl ]

module _ (b : Inputs) (t : List ℕ) (tree : Tree) (one : (counted : Counted) → get b.selectors t ≡ Some counted → counted.selector ≡ tree) where
  -- what one put tests
  at_raise : (f : Changing) (g : Standing) → between f g b (record b { selectors = raised b.selectors t tree }) ≡ at_put g b t tree
  at_raise f g =
      selector_raised f g b b t tree one
      ∙ (λ j. none_between f g b b (λ i h e. ap (labels_of (get b.parents)) e) (λ s c e. ap is_some e) j + twice b t (on_items g b tree) j)
      ∙ no_less (at_put g b t tree)

  as_put : (k n : ℕ) → IsTested b (record b { selectors = raised b.selectors t tree }) k n → IsTicked (at_put holds_on b t tree) (at_put met_on b t tree) k n
  as_put k n it =
      let c : Inputs = record b { selectors = raised b.selectors t tree } in
      subst (λ l. IsTicked l (at_put met_on b t tree) k n) (at_raise comes holds_on) (subst (λ h. IsTicked (least_between b c) h k n) (at_raise either met_on) it)

  -- a selector that is put after others
  pub raise_then_raise : (a : Inputs) (m k n : ℕ) → IsTested a b m k → (contains_key a.selectors t ≡ true → contains_key b.selectors t ≡ true) → IsTested b (record b { selectors = raised b.selectors t tree }) k n → IsTested a (record b { selectors = raised b.selectors t tree }) m n
  raise_then_raise a m k n before kept it = then_raised a b t tree m k n before kept one (as_put k n it)

-- a selector that is removed last, with no test, stood at first
pub then_lower : (a b : Inputs) (t : List ℕ) (m k : ℕ) → IsTested a b m k → contains_key a.selectors t ≡ true → IsTested a (record b { selectors = lowered b.selectors t }) m k
then_lower a b t m k before old = then_lowered a b t m k before old
