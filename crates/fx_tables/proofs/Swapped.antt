-- What a map is after a value was taken out of it and another, or the same, was put in its place.
use Rattle.std.proofs.Common.{◌≡◌, ◌<◌, ℕ, List, Option, Some, None, is_some, IsSome, length, refl, sym, ap, ◌∙◌, arith}
use Rattle.std.specs.Ordering.{nat_cmp}
use Rattle.std.specs.Cmp.Lexicographic.{slice_cmp}
use Rattle.std.specs.FinMap as map
use Rattle.fx_base.proofs.AtKey.{get_insert_same, insert_twice_bytes, insert_same_bytes}
use Rattle.fx_model.specs.declared.chain.ChainRule.{ChainRule}
use Rattle.fx_model.specs.Machine.{rules_found, rules_in}
use Rattle.fx_model.specs.Tables.{ChainName, Chains}

abbrev Held : Type 0 → Type 0
Held X = map.FinMap (slice_cmp nat_cmp) X

module _ {X : Type 0} where
  pub still_there : (m more : Held X) (k : List ℕ) (first : X) → more ≡ map.insert m k first → IsSome (map.get more k)
  still_there m more k first e = ap is_some (ap (λ (n : Held X). map.get n k) e ∙ get_insert_same m k first)

  -- two exchanges leave the second value
  pub put_instead : (m more last : Held X) (k : List ℕ) (first second : X) → more ≡ map.insert m k first → last ≡ map.insert more k second → last ≡ map.insert m k second
  put_instead m more last k first second e f = f ∙ ap (λ (n : Held X). map.insert n k second) e ∙ insert_twice_bytes m k first second

  -- to put back what was taken out changes nothing
  pub put_again : (m more last : Held X) (k : List ℕ) (first second : X) → map.get m k ≡ Some second → more ≡ map.insert m k first → last ≡ map.insert more k second → last ≡ m
  put_again m more last k first second was e f = put_instead m more last k first second e f ∙ insert_same_bytes m k second was

-- a chain that has a rule at a place is there
pub chain_there : (chains : Chains) (name : ChainName) (place : ℕ) → place < length (rules_in chains name) → IsSome (map.get chains name)
chain_there chains name place h = by_found (map.get chains name) h
  where
    by_found : (o : Option (List ChainRule)) → place < length (rules_found o) → IsSome o
    by_found None h = absurd (omega (arith, h))
    by_found (Some rules) h = refl

-- what was taken out are its rules
pub rules_are : (chains : Chains) (name : ChainName) (rules : List ChainRule) → map.get chains name ≡ Some rules → rules ≡ rules_in chains name
rules_are chains name rules e = sym (ap rules_found e)

pub chain_still : (chains more : Chains) (name : ChainName) (rules : List ChainRule) → more ≡ map.insert chains name rules → IsSome (map.get more name)
chain_still chains more name rules e = still_there chains more name rules e

pub ruleset swapped = (chain_there, chain_still)
