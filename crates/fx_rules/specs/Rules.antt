-- Words for the contracts of what renders rules to rules of iptables(8).
use Rattle.std.specs.Prelude.{◌≡◌, ℕ, List, [], ◌∷◌, ◌++◌, Bool, true, false}
use Rattle.fx_base.specs.declared.net.Net.{Net}
use Rattle.fx_model.specs.Directions.{Direction, Ingress, Egress}
use Rattle.fx_model.specs.Rendering.{all_blocks, is_set, proto_match, nets_match, sets_match, ports_match, icmp_match}
use Rattle.fx_model.specs.declared.view_rule.ViewRule.{ViewRule}
use Rattle.fx_model.specs.declared.chain.End.TheVariants.{Source, Dest}
use Rattle.fx_model.specs.declared.chain.Match.{Match}
use Rattle.fx_model.specs.declared.chain.Reason.{Reason}
use Rattle.fx_model.specs.declared.chain.Reason.TheVariants as reason
use Rattle.fx_model.specs.declared.chain.ChainRule.{ChainRule}
use Rattle.fx_rules.specs.declared.reasons.Owner.{Owner}
use Rattle.fx_rules.specs.declared.reasons.Owner.TheVariants.{Policy, Profile}

abbrev pub direction_of : Bool → Direction
direction_of true = Ingress
direction_of false = Egress

-- the reason that a rule of this owner gives, by its place
abbrev pub reason_at : Owner → ℕ → Reason
reason_at (Policy id) place = reason.Policy id.now place
reason_at (Profile name) place = reason.Profile name.now place

-- behind what was there stands a prefix of these rules
abbrev pub GrowsByPrefix : List ChainRule → List ChainRule → List ChainRule → Type 0
GrowsByPrefix before now rules = (prefix : List ChainRule) × (rest : List ChainRule) × (rules ≡ prefix ++ rest) × (now ≡ before ++ prefix)

-- the main rule's match on what the blocks left, where there are blocks
abbrev pub mark_match : Bool → List Match
mark_match true = is_set all_blocks ∷ []
mark_match false = []

-- what iptables(8) tests by itself
abbrev pub base_matches : ViewRule → List Match
base_matches r = proto_match r.protocol r.not_protocol ++ (nets_match Source r.source ++ nets_match Dest r.destination)

-- what its extensions test
abbrev pub extension_matches : Bool → ViewRule → List Match
extension_matches is_blocked r =
    mark_match is_blocked ++ (sets_match Source r.source ++ (sets_match Dest r.destination ++ (ports_match Source r.source ++ (ports_match Dest r.destination
    ++ (icmp_match false r.icmp ++ icmp_match true r.not_icmp)))))

-- negated nets are a block: two or more, or one beside a single net
abbrev pub is_excluded_by_block : List Net → List Net → Bool
is_excluded_by_block nets [] = false
is_excluded_by_block [] (x ∷ []) = false
is_excluded_by_block (n ∷ []) (x ∷ []) = true
is_excluded_by_block (n ∷ k ∷ nets) (x ∷ []) = false
is_excluded_by_block nets (x ∷ y ∷ others) = true
