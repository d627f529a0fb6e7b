-- The matches of a main rule from their two parts.
use Rattle.std.proofs.Common.{◌≡◌, Bool, true, false, List, [], ◌∷◌, ◌++◌, refl, ap, ◌∙◌, append_assoc}
use Rattle.fx_model.specs.declared.chain.ChainRule.{ChainRule}
use Rattle.fx_model.specs.declared.chain.End.TheVariants.{Source, Dest}
use Rattle.fx_model.specs.declared.chain.Match.{Match}
use Rattle.fx_model.specs.declared.view_rule.ViewRule.{ViewRule}
use Rattle.fx_model.specs.Rendering.{proto_match, nets_match, block_match, sets_match, ports_match, icmp_match, blocks_of, main_matches}
use Rattle.fx_base.specs.Given.{is_given}
use Rattle.fx_rules.specs.Rules.{mark_match, base_matches, extension_matches}

mark_match-given : (blocks : List (List ChainRule)) → mark_match (is_given blocks) ≡ block_match blocks
mark_match-given [] = refl
mark_match-given (b ∷ bs) = refl

regroup : (a b c rest : List Match) → (a ++ (b ++ c)) ++ rest ≡ a ++ (b ++ (c ++ rest))
regroup a b c rest = append_assoc a (b ++ c) rest ∙ ap (λ (l : List Match). a ++ l) (append_assoc b c rest)

-- with the match on the mark that the rule's blocks call for
both_parts : (r : ViewRule) (is_blocked : Bool) → is_blocked ≡ is_given (blocks_of r) → base_matches r ++ extension_matches is_blocked r ≡ main_matches r
both_parts r is_blocked is =
    regroup (proto_match r.protocol r.not_protocol) (nets_match Source r.source) (nets_match Dest r.destination) (extension_matches is_blocked r)
    ∙ ap (λ (mark : List Match).
    proto_match r.protocol r.not_protocol ++ (nets_match Source r.source ++ (nets_match Dest r.destination
    ++ (mark ++ (sets_match Source r.source ++ (sets_match Dest r.destination
    ++ (ports_match Source r.source ++ (ports_match Dest r.destination ++ (icmp_match false r.icmp ++ icmp_match true r.not_icmp)))))))))
    (ap mark_match is ∙ mark_match-given (blocks_of r))

pub whole_matches : (r : ViewRule) (is_blocked : Bool) (none base whole : List Match) → none ≡ [] → base ≡ none ++ base_matches r → whole ≡ base ++ extension_matches is_blocked r → is_blocked ≡ is_given (blocks_of r) → whole ≡ main_matches r
whole_matches r is_blocked none base whole empty first then blocked =
    then ∙ ap (λ (l : List Match). l ++ extension_matches is_blocked r) (first ∙ ap (λ (l : List Match). l ++ base_matches r) empty) ∙ both_parts r is_blocked blocked
