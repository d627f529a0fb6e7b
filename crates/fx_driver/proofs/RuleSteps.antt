-- One rule more or less in a byte's chain of each direction, one after the other.
use Rattle.std.proofs.Common.{◌≡◌, ◌≤◌, ◌<◌, ◌+◌, ℕ, List, Some, cond, length, refl, sym, ap, ◌∙◌, subst}
use Rattle.std.specs.List.{insert, remove}
use Rattle.std.specs.FinMap as maps
use Rattle.fx_base.proofs.AtKey.{get_insert}
use Rattle.fx_model.specs.declared.chain.ChainRule.{ChainRule}
use Rattle.fx_model.specs.Directions.{Ingress, Egress}
use Rattle.fx_model.specs.Machine.{rules_found, rules_in}
use Rattle.fx_model.specs.Tables.{Chains, Tables}
use Rattle.fx_model.specs.Tree.{child_chain}
use Rattle.fx_model.specs.Writing.{IsWritable}

-- what is written in one direction leaves the rules of the other
pub rules_stay : (chains : Chains) (byte : List ℕ) (rules : List ChainRule) → rules_in (maps.insert chains (child_chain Ingress byte) rules) (child_chain Egress byte) ≡ rules_in chains (child_chain Egress byte)
rules_stay chains byte rules =
    ap rules_found (get_insert chains (child_chain Ingress byte) rules (child_chain Egress byte))

module _ (s t : Tables) (byte : List ℕ) (rules : List ChainRule) (is : t ≡ record s { chains = maps.insert s.chains (child_chain Ingress byte) rules }) where
  same_rules : rules_in t.chains (child_chain Egress byte) ≡ rules_in s.chains (child_chain Egress byte)
  same_rules = ap (λ (u : Tables). rules_in u.chains (child_chain Egress byte)) is ∙ rules_stay s.chains byte rules

  pub place_still : (place : ℕ) → place < length (rules_in s.chains (child_chain Egress byte)) → place < length (rules_in t.chains (child_chain Egress byte))
  place_still place h = subst (λ (rs : List ChainRule). place < length rs) (sym same_rules) h

  pub more_still : (place : ℕ) (rule : ChainRule) → IsWritable s.sets (maps.insert s.chains (child_chain Ingress byte) rules) (child_chain Egress byte) (insert (rules_in s.chains (child_chain Egress byte)) place rule) → IsWritable t.sets t.chains (child_chain Egress byte) (insert (rules_in t.chains (child_chain Egress byte)) place rule)
  more_still place rule h =
      subst (λ (rs : List ChainRule). IsWritable t.sets t.chains (child_chain Egress byte) (insert rs place rule)) (sym same_rules)
      (subst (λ (u : Tables). IsWritable u.sets u.chains (child_chain Egress byte) (insert (rules_in s.chains (child_chain Egress byte)) place rule)) (sym is) h)

  pub less_still : (place : ℕ) → IsWritable s.sets (maps.insert s.chains (child_chain Ingress byte) rules) (child_chain Egress byte) (remove (rules_in s.chains (child_chain Egress byte)) place) → IsWritable t.sets t.chains (child_chain Egress byte) (remove (rules_in t.chains (child_chain Egress byte)) place)
  less_still place h =
      subst (λ (rs : List ChainRule). IsWritable t.sets t.chains (child_chain Egress byte) (remove rs place)) (sym same_rules)
      (subst (λ (u : Tables). IsWritable u.sets u.chains (child_chain Egress byte) (remove (rules_in s.chains (child_chain Egress byte)) place)) (sym is) h)

  -- both are written then
  pub both_more : (u : Tables) (place : ℕ) (rule : ChainRule) → u ≡ record t { chains = maps.insert t.chains (child_chain Egress byte) (insert (rules_in t.chains (child_chain Egress byte)) place rule) } → u ≡ record s { chains = maps.insert (maps.insert s.chains (child_chain Ingress byte) rules) (child_chain Egress byte) (insert (rules_in s.chains (child_chain Egress byte)) place rule) }
  both_more u place rule then =
      then
      ∙ ap (λ (rs : List ChainRule). record t { chains = maps.insert t.chains (child_chain Egress byte) (insert rs place rule) }) same_rules
      ∙ ap (λ (v : Tables). record v { chains = maps.insert v.chains (child_chain Egress byte) (insert (rules_in s.chains (child_chain Egress byte)) place rule) }) is

  pub both_less : (u : Tables) (place : ℕ) → u ≡ record t { chains = maps.insert t.chains (child_chain Egress byte) (remove (rules_in t.chains (child_chain Egress byte)) place) } → u ≡ record s { chains = maps.insert (maps.insert s.chains (child_chain Ingress byte) rules) (child_chain Egress byte) (remove (rules_in s.chains (child_chain Egress byte)) place) }
  both_less u place then =
      then
      ∙ ap (λ (rs : List ChainRule). record t { chains = maps.insert t.chains (child_chain Egress byte) (remove rs place) }) same_rules
      ∙ ap (λ (v : Tables). record v { chains = maps.insert v.chains (child_chain Egress byte) (remove (rules_in s.chains (child_chain Egress byte)) place) }) is
