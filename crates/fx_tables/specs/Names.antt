-- Which sets are named. By ipset(8) a set can be destroyed only where no rule refers to it.
use Rattle.std.specs.Prelude.{◌≡◌, ◌≢◌, ℕ, List, [], ◌∷◌, Some}
use Rattle.std.specs.FinMap as map
use Rattle.fx_model.specs.declared.chain.Match.{Match}
use Rattle.fx_model.specs.declared.chain.Match.TheVariants as match
use Rattle.fx_model.specs.declared.chain.ChainRule.{ChainRule}
use Rattle.fx_model.specs.Tables.{ChainName, Chains}

-- the match doesn't name this set
abbrev pub NamesElse : List ℕ → Match → Type 0
NamesElse set (match.Proto proto opposite) = Unit {0}
NamesElse set (match.Net end net opposite) = Unit {0}
NamesElse set (match.Iface end name wild) = Unit {0}
NamesElse set (match.Mark value mask) = Unit {0}
NamesElse set (match.State related_established) = Unit {0}
NamesElse set (match.Set end name opposite) = name ≢ set
NamesElse set (match.Ports end list opposite) = Unit {0}
NamesElse set (match.Icmp icmp opposite) = Unit {0}

abbrev pub MatchesNameElse : List ℕ → List Match → Type 0
MatchesNameElse set [] = Unit {0}
MatchesNameElse set (m ∷ ms) = NamesElse set m × MatchesNameElse set ms

abbrev pub AllNameElse : List ℕ → List ChainRule → Type 0
AllNameElse set [] = Unit {0}
AllNameElse set (r ∷ rs) = MatchesNameElse set r.matches × AllNameElse set rs

-- no rule of any chain names this set
abbrev pub NoneNames : Chains → List ℕ → Type 0
NoneNames chains set = (name : ChainName) (rules : List ChainRule) → map.get chains name ≡ Some rules → AllNameElse set rules
