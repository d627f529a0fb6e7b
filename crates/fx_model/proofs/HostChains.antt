-- Ranks of chains by their names, and chains of an endpoint with a third rule, whole.
use Rattle.std.proofs.Common.{◌≡◌, ℕ, List, [], ◌∷◌, true, false, refl}
use Rattle.std.specs.Prelude.{codes}
use Rattle.fx_model.specs.declared.view.ViewEndpoint.{ViewEndpoint}
use Rattle.fx_model.specs.declared.chain.Match.TheVariants as match
use Rattle.fx_model.specs.declared.chain.Target.TheVariants as target
use Rattle.fx_model.specs.declared.chain.Reason.TheVariants as reason
use Rattle.fx_model.specs.declared.chain.ChainRule.{ChainRule}
use Rattle.fx_model.specs.Directions.{Direction, Ingress, Egress}
use Rattle.fx_model.specs.Rendering.{plain, tagged, clear_mark, accept_mark}
use Rattle.fx_model.specs.Tables.{forward, root_of, endpoint_chain, host_hook, host_root_of, host_endpoint_chain, policy_chain, profile_chain, endpoint_rules, endpoint_rules_with}
use Rattle.fx_model.specs.Tree.{child_chain}
use Rattle.fx_model.specs.Ranks.{rank_of}

-- ---- ranks

first_rank : rank_of forward ≡ 4
first_rank = refl

hook_rank : (d : Direction) → rank_of (host_hook d) ≡ 4
hook_rank Ingress = refl
hook_rank Egress = refl

root_rank : (d : Direction) → rank_of (root_of d) ≡ 3
root_rank Ingress = refl
root_rank Egress = refl

host_root_rank : (d : Direction) → rank_of (host_root_of d) ≡ 3
host_root_rank Ingress = refl
host_root_rank Egress = refl

child_rank : (d : Direction) (n : ℕ) → rank_of (child_chain d (n ∷ [])) ≡ 2
child_rank Ingress n = refl
child_rank Egress n = refl

endpoint_rank : (d : Direction) (k : List ℕ) → rank_of (endpoint_chain d k) ≡ 1
endpoint_rank Ingress k = refl
endpoint_rank Egress k = refl

host_endpoint_rank : (d : Direction) (k : List ℕ) → rank_of (host_endpoint_chain d k) ≡ 1
host_endpoint_rank Ingress k = refl
host_endpoint_rank Egress k = refl

policy_rank : (d : Direction) (k : List ℕ) → rank_of (policy_chain d k) ≡ 0
policy_rank Ingress k = refl
policy_rank Egress k = refl

profile_rank : (d : Direction) (k : List ℕ) → rank_of (profile_chain d k) ≡ 0
profile_rank Ingress k = refl
profile_rank Egress k = refl

failsafe_rank : rank_of (codes "cali-failsafe-in") ≡ 0
failsafe_rank = refl

-- only dispatch of workloads branches
no_host_child : rank_of (codes "cali-from-host-endpoint-1") ≡ 0
no_host_child = refl

-- a name of no other kind
foreign_rank : rank_of (codes "INPUT") ≡ 0
foreign_rank = refl

-- ---- a third rule

-- one policy for packets to it, and no profile
abbrev eth0 : ViewEndpoint
eth0 = record { ns = []; name = codes "h1"; ingress = record { name = codes "default"; pass_at_end = false; policies = codes "gnp/s" ∷ [] } ∷ []; egress = []; profiles = [] }

abbrev failsafe : ChainRule
failsafe = plain [] (target.Jump (codes "cali-failsafe-in"))

third_before_the_policies : endpoint_rules_with (failsafe ∷ []) Ingress eth0 ≡
    tagged (match.State true ∷ []) target.Accept reason.Established
    ∷ tagged (match.State false ∷ []) target.Drop reason.Invalid
    ∷ plain [] (target.Jump (codes "cali-failsafe-in"))
    ∷ plain [] (target.Mark 0 0x10000)
    ∷ plain [] (target.Mark 0 0x20000)
    ∷ plain (match.Mark 0 0x20000 ∷ []) (target.Jump (codes "cali-pi-gnp/s"))
    ∷ plain (match.Mark 0x10000 0x10000 ∷ []) target.Return
    ∷ tagged (match.Mark 0 0x20000 ∷ []) target.Drop (reason.EndOfTier (codes "default"))
    ∷ tagged [] target.Drop reason.NoProfileRule
    ∷ []
third_before_the_policies = refl

third_without_policies : endpoint_rules_with (failsafe ∷ []) Egress eth0 ≡
    tagged (match.State true ∷ []) target.Accept reason.Established
    ∷ tagged (match.State false ∷ []) target.Drop reason.Invalid
    ∷ failsafe
    ∷ plain [] (clear_mark accept_mark)
    ∷ tagged [] target.Drop reason.NoProfileRule
    ∷ []
third_without_policies = refl

no_third : endpoint_rules Egress eth0 ≡
    tagged (match.State true ∷ []) target.Accept reason.Established
    ∷ tagged (match.State false ∷ []) target.Drop reason.Invalid
    ∷ plain [] (clear_mark accept_mark)
    ∷ tagged [] target.Drop reason.NoProfileRule
    ∷ []
no_third = refl
