-- Selectors that come are tested once, and those that go were there at first, so that no test is made of them.
use Rattle.std.proofs.Common.{◌≡◌, ℕ, ◌+◌, ◌<◌, List, [], ◌∷◌, Option, Some, None, Result, Ok, Err, sym, arith}
use Rattle.std.specs.Prelude.{OnOk}
use Rattle.std.specs.List.{AllByRecursion}
use Rattle.std.specs.Cmp.Lexicographic.{nat_list_cmp_total}
use Rattle.std.specs.FinMap.{get, entries}
use Rattle.fx_base.proofs.Found.{each, entries_found}
use Rattle.fx_selector.specs.Tree.{Tree, IsSelector}
use Rattle.fx_selector.specs.Canonical.{canonical_text}
use Rattle.fx_label_index.specs.Canonicals.{Selectors}
use Rattle.fx_label_index.specs.Counts.{raised}
use Rattle.fx_label_index.specs.Tested.{IsTested}
use Rattle.fx_label_index.specs.declared.counted.Counted.{Counted}
use Rattle.fx_label_index.specs.declared.held.Inputs.{Inputs}
use Rattle.fx_label_index.proofs.Canonicals.{one_canonical, raised_canonical}
use Rattle.fx_label_index.proofs.Tested.{raise_then_raise, then_lower}
use Rattle.fx_members.specs.UseText.{text_of}
use Rattle.fx_model.specs.Sinks.{Policies, Uses}
use Rattle.fx_model.specs.declared.set_use.SetUse.{SetUse}
use Rattle.fx_graph_rules.specs.Counting.{times, total, IsCounted}
use Rattle.fx_graph_rules.proofs.Counts.{raised_still, counted_there}
use Rattle.fx_graph_view.specs.Noted.{Before, AreNoted}
use Rattle.fx_graph_view.proofs.NotedLemmas.{noted_was}
use Rattle.fx_graph.specs.Fed.{lowered_at, lowered_by}
use Rattle.fx_graph.specs.Testing.{AreCountedSets, IsCountedSet, IsRaisedFrom}
use Rattle.fx_graph.specs.Used.{used_in}
use Rattle.fx_graph.proofs.UsedTexts.{use_counted}

-- ---- selectors that come
module _ (first now : Inputs) (m k n : ℕ) (before : IsRaisedFrom first m now k) (text : List ℕ) (tree : Tree) (is : IsSelector tree) (at : text ≡ canonical_text tree) where
  one_tree : (counted : Counted) → get now.selectors text ≡ Some counted → counted.selector ≡ tree
  one_tree counted there =
      let stands : IsSelector counted.selector × (text ≡ canonical_text counted.selector) = before.trees text counted there in
      one_canonical text counted.selector tree stands.0 is stands.1 at

  pub then_raised : IsTested now (record now { selectors = raised now.selectors text tree }) k n → IsRaisedFrom first m (record now { selectors = raised now.selectors text tree }) n
  then_raised it = record {
    trees = raised_canonical now.selectors text tree before.trees is at;
    still = λ t h. raised_still now.selectors text tree t (before.still t h);
    tests = raise_then_raise now text tree one_tree first m k n before.tests (before.still text) it;
  }

-- ---- selectors that go
module _ (first : Inputs) (m n : ℕ) where
  one_lowered : (now : Inputs) → IsTested first now m n → (o : Option SetUse) → IsCountedSet first.selectors o → IsTested first (record now { selectors = lowered_at now.selectors o }) m n
  one_lowered now it None there = it
  one_lowered now it (Some u) there = then_lower first now (text_of u) m n it there

  all_lowered : (es : List (List ℕ × Option SetUse)) → AllByRecursion (λ e. IsCountedSet first.selectors e.1) es → (now : Inputs) → IsTested first now m n → IsTested first (record now { selectors = lowered_by es now.selectors }) m n
  all_lowered [] there now it = it
  all_lowered (e ∷ es) there now it = all_lowered es there.1 (record now { selectors = lowered_at now.selectors e.1 }) (one_lowered now it e.1 there.0)

-- ---- what sets were, of which something is noted
module _ (notes : Before) (was uses : Uses) (noted : AreNoted notes was uses) (s : Selectors) (counted : AreCountedSets s was) where
  one_noted : (name : List ℕ) (o : Option SetUse) → get was name ≡ o → IsCountedSet s o
  one_noted name None is = tt
  one_noted name (Some u) is = counted name u is

  noted_counted : AllByRecursion (λ e. IsCountedSet s e.1) (entries notes)
  noted_counted =
      each (λ e. get notes e.0 ≡ Some e.1) (λ e. IsCountedSet s e.1)
      (λ e is. one_noted e.0 e.1 (sym (noted_was (get notes e.0) (get was e.0) (get uses e.0) e.1 (noted.at e.0) is)))
      (entries notes) (entries_found nat_list_cmp_total notes)

pub noted_lowered : (first : Inputs) (m n : ℕ) (notes : Before) (was uses : Uses) → AreNoted notes was uses → AreCountedSets first.selectors was → (now : Inputs) → IsTested first now m n
    → IsTested first (record now { selectors = lowered_by (entries notes) now.selectors }) m n
noted_lowered first m n notes was uses noted counted now it = all_lowered first m n (entries notes) (noted_counted notes was uses noted first.selectors counted) now it

-- ---- what is counted besides policies
more : (a b : ℕ) → 0 < b → 0 < a + b
more a b h = omega (arith, h)

pub sets_counted : (s : Selectors) (m : Policies) (uses : Uses) → IsCounted s (total m (used_in uses)) → AreCountedSets s uses
sets_counted s m uses h = λ name u is.
    counted_there s (total m (used_in uses)) h (text_of u) (more (times m (text_of u)) (used_in uses (text_of u)) (use_counted uses name u is))

-- ---- steps that test nothing, whatever the count
pub at_count : {A E : Type 0} (r : Result A E) (P : ℕ → Type 0) (n : ℕ) → OnOk r ((k : ℕ) → P k) → OnOk r (P n)
at_count (Ok x) P n h = h n
at_count (Err x) P n h = tt
