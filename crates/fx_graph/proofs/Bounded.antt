-- The tests of an update lie between the least and the most that it calls for.
use Rattle.std.proofs.Common.{◌≡◌, ◌⊎◌, inl, inr, ℕ, zero, suc, ◌+◌, ◌<◌, cond, List, [], ◌∷◌, Some, None, refl, arith}
use Rattle.std.specs.declared.cmp.Ordering.TheVariants.{Less, Equal, Greater}
use Rattle.std.specs.Ordering.{nat_cmp, is_eq}
use Rattle.std.specs.List.{AllByRecursion}
use Rattle.std.specs.Cmp.Lexicographic.{slice_cmp, nat_list_cmp_total}
use Rattle.std.specs.FinMap.{get, entries}
use Rattle.fx_base.specs.Ticks.{IsTicked}
use Rattle.fx_base.proofs.Found.{entries_found}
use Rattle.fx_base.proofs.KeyCases.{bytes_exact}
use Rattle.fx_base.proofs.TickLemmas.{IsTicked-wider}
use Rattle.fx_names.specs.Digests.{Digest}
use Rattle.fx_model.proofs.Orders.{policy_total}
use Rattle.fx_model.specs.Resources.{after}
use Rattle.fx_model.specs.Sinks.{Policies, Uses}
use Rattle.fx_model.specs.Tests.{least_tests, most_tests}
use Rattle.fx_model.specs.declared.ids.PolicyId.{PolicyId}
use Rattle.fx_model.specs.declared.policy.Policy.{Policy}
use Rattle.fx_model.specs.declared.resources.Resources.{Resources}
use Rattle.fx_model.specs.declared.resources.Update.{Update}
use Rattle.fx_model.specs.declared.set_use.SetUse.{SetUse}
use Rattle.fx_label_index.specs.Canonicals.{Selectors}
use Rattle.fx_label_index.specs.Tested.{IsTested, least_between, most_between}
use Rattle.fx_active.specs.Active.{text_of as policy_text}
use Rattle.fx_members.specs.UseText.{text_of}
use Rattle.fx_graph_rules.specs.Counting.{times_among, times, total}
use Rattle.fx_graph_rules.proofs.Counts.{counted_there, there_counted, policy_counted}
use Rattle.fx_node_laws.specs.Counted.{IsTextOfPolicy, IsTextOfSet, CountsUsed}
use Rattle.fx_node_laws.proofs.UpdateTests.{most_of_update, least_of_update}
use Rattle.fx_graph.specs.Graphs.{IsGraphOf}
use Rattle.fx_graph.specs.InStep.{IsInStep}
use Rattle.fx_graph.specs.Used.{used_among, used_in}
use Rattle.fx_graph.specs.declared.nodes.Nodes.{Nodes}
use Rattle.fx_graph.specs.declared.state.GraphState.{GraphState}
use Rattle.fx_graph.proofs.Agreeing.{told_of}
use Rattle.fx_graph.proofs.Testing.{sets_counted}

no_less : {A : Type 0} → 0 < 0 → A
no_less h = absurd (omega (arith, h))

rest : (n : ℕ) → 0 < 0 + n → 0 < n
rest n h = omega (arith, h)

some_more : (n : ℕ) → 0 < suc n
some_more n = omega arith

either_some : (a b : ℕ) → 0 < a + b → (0 < a) ⊎ (0 < b)
either_some zero b h = inr (rest b h)
either_some (suc a) b h = inl (some_more a)

-- ---- a text that is counted is some policy's or some set's
module _ (m : Policies) (t : List ℕ) where
  among_policies : (es : List (PolicyId × Policy)) → AllByRecursion (λ e. get m e.0 ≡ Some e.1) es → 0 < times_among t es → IsTextOfPolicy m t
  among_policies [] there h = no_less h
  among_policies (e ∷ es) there h =
      elim (slice_cmp nat_cmp t (policy_text e.1)) as (λ r. slice_cmp nat_cmp t (policy_text e.1) ≡ r → 0 < cond (is_eq r) 1 0 + times_among t es → IsTextOfPolicy m t) [
        | Less ↦ λ q p. among_policies es there.1 (rest (times_among t es) p)
        | Equal ↦ λ q p. (e.0, (e.1, (there.0, bytes_exact t (policy_text e.1) q)))
        | Greater ↦ λ q p. among_policies es there.1 (rest (times_among t es) p)
      ] refl h

  some_policy : 0 < times m t → IsTextOfPolicy m t
  some_policy h = among_policies (entries m) (entries_found policy_total m) h

module _ (uses : Uses) (t : List ℕ) where
  among_sets : (es : List (List ℕ × SetUse)) → AllByRecursion (λ e. get uses e.0 ≡ Some e.1) es → 0 < used_among t es → IsTextOfSet uses t
  among_sets [] there h = no_less h
  among_sets (e ∷ es) there h =
      elim (slice_cmp nat_cmp t (text_of e.1)) as (λ r. slice_cmp nat_cmp t (text_of e.1) ≡ r → 0 < cond (is_eq r) 1 0 + used_among t es → IsTextOfSet uses t) [
        | Less ↦ λ q p. among_sets es there.1 (rest (used_among t es) p)
        | Equal ↦ λ q p. (e.0, (e.1, (there.0, bytes_exact t (text_of e.1) q)))
        | Greater ↦ λ q p. among_sets es there.1 (rest (used_among t es) p)
      ] refl h

  some_set : 0 < used_in uses t → IsTextOfSet uses t
  some_set h = among_sets (entries uses) (entries_found nat_list_cmp_total uses) h

counted_text : (m : Policies) (uses : Uses) (t : List ℕ) → (0 < times m t) ⊎ (0 < used_in uses t) → IsTextOfPolicy m t ⊎ IsTextOfSet uses t
counted_text m uses t (inl h) = inl (some_policy m t h)
counted_text m uses t (inr h) = inr (some_set uses t h)

module _ (dg : Digest) (g : Nodes) (s : IsInStep dg None g) where
  abbrev selectors : Selectors
  selectors = g.upper.joined.index.selectors

  abbrev policies : Policies
  policies = g.upper.joined.active.policies

  pub counts_used : CountsUsed selectors policies g.uses
  counts_used = record {
    trees = s.upper.counted.trees;
    of_policies = λ id p is. (s.upper.selectors id p is, counted_there selectors (total policies (used_in g.uses)) s.upper.counted (policy_text p) (policy_counted policies (used_in g.uses) id p is));
    of_sets = λ name u is. ((s.formed name u is).selector, sets_counted selectors policies g.uses s.upper.counted name u is);
    no_others = λ t h. counted_text policies g.uses t (either_some (times policies t) (used_in g.uses t) (there_counted selectors (total policies (used_in g.uses)) s.upper.counted t h));
  }

pub tests_of_update : (dg : Digest) (R : Resources) (u : Update) (g now : GraphState) → IsGraphOf dg R g → IsGraphOf dg (after R u) now → (k n : ℕ)
    → IsTested g.nodes.upper.joined.index now.nodes.upper.joined.index k n → IsTicked (least_tests R u) (most_tests R u) k n
tests_of_update dg R u g now is becomes k n it =
    let first = g.nodes.upper.joined.index in
    let last = now.nodes.upper.joined.index in
    let told = told_of dg g.nodes is.nodes.settled in
    let told_now = told_of dg now.nodes becomes.nodes.settled in
    let counts = counts_used dg g.nodes is.nodes.settled in
    let counts_now = counts_used dg now.nodes becomes.nodes.settled in
    IsTicked-wider (least_between first last) (most_between first last) (least_tests R u) (most_tests R u) k n
    (least_of_update u is.nodes.tied told counts becomes.nodes.tied told_now counts_now)
    (most_of_update u is.nodes.tied told counts becomes.nodes.tied told_now counts_now) it
