use Rattle.std.proofs.Common.{◌≡◌, ◌++◌, map, true}
use Rattle.fx_model.specs.declared.chain.Match.TheVariants as match
use Rattle.fx_rules.proofs.matches.push_not_listed.Given as goal

-- with the lists that are left behind them, the matches are whole
abbrev pub invariant-loop-list : goal.invariant-loop-list
invariant-loop-list l = l.matches ++ map (λ c. match.Ports l.end c true) l.list-iterator.rest.items ≡ l.initial.matches ++ map (λ c. match.Ports l.end c true) l.initial.list-iterator.rest.items
