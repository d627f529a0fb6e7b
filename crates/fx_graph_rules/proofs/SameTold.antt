-- What is told follows from items, parents, policies, profiles and endpoints alone.
use Rattle.std.proofs.Common.{◌≡◌, sym, ◌∙◌, subst}
use Rattle.std.specs.Cmp.Lexicographic.{nat_list_cmp_total}
use Rattle.std.specs.FinMap.{same_map}
use Rattle.fx_base.proofs.KeyCases.{bytes_exact}
use Rattle.fx_model.specs.Pairs.{Pairs, PolicyPairs}
use Rattle.fx_model.specs.Sinks.{Policies, Profiles}
use Rattle.fx_model.proofs.Orders.{policy_total, exact_policy, policy_pairs_total, exact_policy_pair}
use Rattle.fx_label_index.specs.declared.held.Inputs as index
use Rattle.fx_label_index.specs.Canonicals.{Selectors}
use Rattle.fx_active.specs.declared.inputs.Inputs as active
use Rattle.fx_graph_rules.specs.Composed.{IsComposed}
use Rattle.fx_base.proofs.Cases.{unit_same}

pub record IsSame (P P' : Policies) (Q Q' : Profiles) (S S' : PolicyPairs) : Type 0 where
  pub policies : P' ≡ P
  pub profiles : Q' ≡ Q
  pub pairs : S' ≡ S

module _ (n : index.Inputs) (a : active.Inputs) (P : Policies) (Q : Profiles) (S : PolicyPairs) (was : IsComposed n a P Q S) where
  -- other selectors are counted, and other pairs are known
  pub same_told : (n' : index.Inputs) (a' : active.Inputs) (P' : Policies) (Q' : Profiles) (S' : PolicyPairs) → IsComposed n' a' P' Q' S'
      → (s : Selectors) → n' ≡ record n { selectors = s } → (m : Pairs) → a' ≡ record a { matched = m } → IsSame P P' Q Q' S S'
  same_told n' a' P' Q' S' is s e m f =
      let now : IsComposed (record n { selectors = s }) (record a { matched = m }) P' Q' S' =
      subst (λ (b : active.Inputs). IsComposed (record n { selectors = s }) b P' Q' S') f (subst (λ (k : index.Inputs). IsComposed k a' P' Q' S') e is) in
      record {
        policies = same_map policy_total exact_policy _ _ (λ id. now.policies_are id ∙ sym (was.policies_are id));
        profiles = same_map nat_list_cmp_total bytes_exact _ _ (λ name. now.profiles_are name ∙ sym (was.profiles_are name));
        pairs = same_map policy_pairs_total exact_policy_pair _ _ (λ p. unit_same _ _ (now.pairs_are p.0 p.1 ∙ sym (was.pairs_are p.0 p.1)));
      }
