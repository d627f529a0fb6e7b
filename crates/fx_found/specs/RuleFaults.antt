-- What rules lead to and use: by iptables(8) and ipset(8) the kernel takes no rule whose chain or set isn't there, and no loop of chains.
use Rattle.std.specs.Prelude.{ℕ, ◌+◌, List, [], ◌∷◌, Bool, true, ◌&&◌, nat_lt, if◌then◌else◌, Option, Some, None}
use Rattle.std.specs.List.{list_all}
use Rattle.std.specs.FinMap as maps
use Rattle.fx_model.specs.declared.chain.Match.{Match}
use Rattle.fx_model.specs.declared.chain.Match.TheVariants as match
use Rattle.fx_model.specs.declared.chain.Target.{Target}
use Rattle.fx_model.specs.declared.chain.Target.TheVariants as target
use Rattle.fx_model.specs.declared.chain.ChainRule.{ChainRule}
use Rattle.fx_model.specs.Messages.{or_else}
use Rattle.fx_model.specs.Ranks.{rank_of}
use Rattle.fx_model.specs.Tables.{ChainName, Tables}
use Rattle.fx_found.specs.declared.row.Row.{Row}
use Rattle.fx_found.specs.declared.row.Row.TheVariants as row
use Rattle.fx_found.specs.declared.found.FoundFault.{FoundFault}
use Rattle.fx_found.specs.declared.found.FoundFault.TheVariants as fault

-- the chain that a target leads to is declared
abbrev pub leads_there : Tables → Target → Bool
leads_there t target.Accept = true
leads_there t target.Drop = true
leads_there t target.Return = true
leads_there t (target.Jump to) = maps.contains_key t.chains to
leads_there t (target.Goto to) = maps.contains_key t.chains to
leads_there t (target.Mark value mask) = true
leads_there t target.Log = true

-- the set that a match names is declared
abbrev pub names_there : Tables → Match → Bool
names_there t (match.Proto proto opposite) = true
names_there t (match.Net end net opposite) = true
names_there t (match.Iface end name wild) = true
names_there t (match.Mark value mask) = true
names_there t (match.State related_established) = true
names_there t (match.Set end name opposite) = maps.contains_key t.sets name
names_there t (match.Ports end list opposite) = true
names_there t (match.Icmp icmp opposite) = true

-- the rule's own chain and all that it names is declared
abbrev pub is_closed : Tables → ChainName → ChainRule → Bool
is_closed t chain r = maps.contains_key t.chains chain && (leads_there t r.target && list_all (names_there t) r.matches)

-- a jump or goto leads below this rank
abbrev pub leads_below : ℕ → Target → Bool
leads_below rank target.Accept = true
leads_below rank target.Drop = true
leads_below rank target.Return = true
leads_below rank (target.Jump to) = nat_lt (rank_of to) rank
leads_below rank (target.Goto to) = nat_lt (rank_of to) rank
leads_below rank (target.Mark value mask) = true
leads_below rank target.Log = true

-- ---- the first fault of rules, counted on from row n

abbrev pub rule_fault : ℕ → Tables → ChainName → ChainRule → Option FoundFault
rule_fault n t chain r =
    if is_closed t chain r then (if leads_below (rank_of chain) r.target then None else Some (fault.RankRow n)) else Some (fault.OpenRow n)

abbrev pub row_fault : ℕ → Tables → Row → Option FoundFault
row_fault n t row.Bad = None
row_fault n t row.Filter = None
row_fault n t row.Commit = None
row_fault n t (row.Create name) = None
row_fault n t (row.Add name m) = None
row_fault n t (row.Header chain) = None
row_fault n t (row.Rule chain r) = rule_fault n t chain r
row_fault n t row.ForeignSet = None
row_fault n t row.ForeignHeader = None
row_fault n t (row.ForeignRule uses) = if uses then Some (fault.ForeignUse n) else None

abbrev pub first_fault : ℕ → Tables → List Row → Option FoundFault
first_fault n t [] = None
first_fault n t (r ∷ rs) = or_else (row_fault n t r) (first_fault (n + 1) t rs)
