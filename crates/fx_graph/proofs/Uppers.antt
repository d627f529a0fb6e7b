-- The nodes agree over the sets that are used now.
use Rattle.std.proofs.Common.{◌≡◌, ℕ, List, Option, sym, subst}
use Rattle.std.specs.FinMap as map
use Rattle.fx_model.specs.Pairs.{PolicyPairs}
use Rattle.fx_model.specs.Sinks.{Policies, Profiles, Uses}
use Rattle.fx_label_index.specs.Canonicals.{Selectors}
use Rattle.fx_graph_rules.specs.Counting.{total, with_some, IsCounted}
use Rattle.fx_graph_rules.specs.Joining.{IsJoined}
use Rattle.fx_graph_rules.specs.Uppers.{AreInStep}
use Rattle.fx_graph_rules.specs.declared.join.Joined.{Joined}
use Rattle.fx_graph_rules.proofs.Uppers.{AreSelectors}
use Rattle.fx_graph_view.specs.Noted.{Before, AreFormed}
use Rattle.fx_graph.specs.Fed.{raised_by, lowered_by}
use Rattle.fx_graph.specs.Since.{AreBehindBy}
use Rattle.fx_graph.specs.Used.{used_in}
use Rattle.fx_graph.proofs.Counted.{fed_counted}

module _ (notes : Before) (uses : Uses) (before : Option (List ℕ)) (j : Joined) (P : Policies) (Q : Profiles) (S : PolicyPairs) (h : AreBehindBy notes uses before j P Q S) (formed : AreFormed uses) where
  abbrev fed : Selectors
  fed = lowered_by (map.entries notes) (raised_by uses (map.entries notes) j.index.selectors)

  pub fed_upper : (j' : Joined) (P' : Policies) (Q' : Profiles) (S' : PolicyPairs) → IsJoined j' P' Q' S'
      → j'.index.selectors ≡ fed → j'.active.policies ≡ j.active.policies → AreInStep j' (with_some before (used_in uses)) P' Q' S'
  fed_upper j' P' Q' S' joined counted kept = record {
    joined = joined;
    counted = subst (λ (s : Selectors). IsCounted s (total j'.active.policies (with_some before (used_in uses)))) (sym counted)
        (subst (λ (m : Policies). IsCounted fed (total m (with_some before (used_in uses)))) (sym kept)
        (fed_counted notes h.was uses h.noted formed j.active.policies before j.index.selectors h.upper.counted));
    selectors = subst AreSelectors (sym kept) h.upper.selectors;
  }
