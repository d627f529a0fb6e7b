-- Chains in pairs, one for each direction, that the entries of a map give: what stands at a name.
use Rattle.std.proofs.Common.{◌≡◌, ℕ, Bool, true, false, cond, List, [], ◌∷◌, Option, Some, None, option_map, refl, ap, ◌∙◌}
use Rattle.std.specs.List.{flat_map, AllByRecursion}
use Rattle.std.specs.Ordering.{nat_cmp}
use Rattle.std.specs.Cmp.Lexicographic.{slice_cmp, nat_list_cmp_total}
use Rattle.std.specs.FinMap as maps
use Rattle.fx_model.specs.declared.chain.ChainRule.{ChainRule}
use Rattle.fx_model.specs.Directions.{Direction, Ingress, Egress}
use Rattle.fx_model.specs.Tables.{ChainName}
use Rattle.fx_laws.proofs.EntryLookups.{is, last, last-entries}

-- entries with other names leave what was there
pub past_names : (es : List (ChainName × List ChainRule)) (q : ChainName) (o : Option (List ChainRule)) → AllByRecursion (λ e. is q e.0 ≡ false) es → last es q o ≡ o
past_names [] q o other = refl
past_names (e ∷ es) q o other = ap (λ b. last es q (cond b (Some e.1) o)) other.0 ∙ past_names es q o other.1

module _ {Y : Type 0} (name : Direction → List ℕ → ChainName) (rules : Direction → Y → List ChainRule) where
  abbrev pub pair : List ℕ × Y → List (ChainName × List ChainRule)
  pair x = (name Ingress x.0, rules Ingress x.1) ∷ (name Egress x.0, rules Egress x.1) ∷ []

  pub past : (xs : List (List ℕ × Y)) (q : ChainName) (o : Option (List ChainRule)) → ((d : Direction) (k : List ℕ) → is q (name d k) ≡ false) → last (flat_map pair xs) q o ≡ o
  past [] q o other = refl
  past (x ∷ xs) q o other =
      ap (λ b. last (flat_map pair xs) q (cond (is q (name Egress x.0)) (Some (rules Egress x.1)) (cond b (Some (rules Ingress x.1)) o))) (other Ingress x.0)
      ∙ ap (λ b. last (flat_map pair xs) q (cond b (Some (rules Egress x.1)) o)) (other Egress x.0)
      ∙ past xs q o other

  newer : (d : Direction) (b : Bool) (y : Y) (p : Option Y) → cond b (Some (rules d y)) (option_map (rules d) p) ≡ option_map (rules d) (cond b (Some y) p)
  newer d true y p = refl
  newer d false y p = refl

  module _ (same : (d : Direction) (k l : List ℕ) → is (name d k) (name d l) ≡ is k l) (into : (k l : List ℕ) → is (name Ingress k) (name Egress l) ≡ false) (out_of : (k l : List ℕ) → is (name Egress k) (name Ingress l) ≡ false) where
    within : (d : Direction) (xs : List (List ℕ × Y)) (k : List ℕ) (p : Option Y) → last (flat_map pair xs) (name d k) (option_map (rules d) p) ≡ option_map (rules d) (last xs k p)
    within d [] k p = refl
    within Ingress (x ∷ xs) k p =
        ap (λ b. last (flat_map pair xs) (name Ingress k) (cond b (Some (rules Egress x.1)) (cond (is (name Ingress k) (name Ingress x.0)) (Some (rules Ingress x.1)) (option_map (rules Ingress) p)))) (into k x.0)
        ∙ ap (λ b. last (flat_map pair xs) (name Ingress k) (cond b (Some (rules Ingress x.1)) (option_map (rules Ingress) p))) (same Ingress k x.0)
        ∙ ap (last (flat_map pair xs) (name Ingress k)) (newer Ingress (is k x.0) x.1 p)
        ∙ within Ingress xs k (cond (is k x.0) (Some x.1) p)
    within Egress (x ∷ xs) k p =
        ap (λ b. last (flat_map pair xs) (name Egress k) (cond (is (name Egress k) (name Egress x.0)) (Some (rules Egress x.1)) (cond b (Some (rules Ingress x.1)) (option_map (rules Egress) p)))) (out_of k x.0)
        ∙ ap (λ b. last (flat_map pair xs) (name Egress k) (cond b (Some (rules Egress x.1)) (option_map (rules Egress) p))) (same Egress k x.0)
        ∙ ap (last (flat_map pair xs) (name Egress k)) (newer Egress (is k x.0) x.1 p)
        ∙ within Egress xs k (cond (is k x.0) (Some x.1) p)

    -- the chain of a key is its value's, where the map has it
    pub at_key : (m : maps.FinMap (slice_cmp nat_cmp) Y) (d : Direction) (k : List ℕ) → last (flat_map pair (maps.entries m)) (name d k) None ≡ option_map (rules d) (maps.get m k)
    at_key m d k = within d (maps.entries m) k None ∙ ap (λ p. option_map (rules d) p) (last-entries nat_list_cmp_total m k)
