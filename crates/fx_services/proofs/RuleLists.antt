-- Walks over the rules of a direction: the rules that stand for those that are left, and their places.
use Rattle.std.proofs.Common.{◌≡◌, ◌<◌, ◌≤◌, ℕ, suc, ◌+◌, true, ◌&&◌, List, [], ◌∷◌, ◌++◌, length, get_or, drop, Option, None, sym, ap, ◌∙◌, subst, append_assoc, arith}
use Rattle.std.proofs.lemmas.List.{append-nil, drop_more, drop_all}
use Rattle.std.specs.List.{list_all}
use Rattle.fx_model.specs.declared.rules.Rule.{Rule}
use Rattle.fx_fields.specs.declared.names.NamespacedName.{NamespacedName}
use Rattle.fx_fields.specs.declared.policy_fields.PolicyType.{PolicyType}
use Rattle.fx_fields.proofs.Readings.{first_of, second_of}
use Rattle.fx_services.specs.Lowerable.{is_lowerable}
use Rattle.fx_services.specs.Lowering.{WrittenRule, first_service, later_services, written_rules, to_ports, tcp, udp, sctp, for_protocols, lowered_rule, lowered_rules, is_tripled, rule_places, places_from}

-- the services of rules, one after another, where rules name some
abbrev pub Services : Type 0
Services = List (Option NamespacedName)

abbrev first_written : Rule → Services → WrittenRule
first_written r services = record { plain = r; service = first_service services }

-- ---- the rules that stand for others

-- with what stands for the rules that are left behind them, the rules that were made are all
pub record IsLowering (d : PolicyType) (all : List WrittenRule) (made left : List Rule) (services : Services) : Type 0 where
  pub whole : made ++ lowered_rules d (written_rules left services) ≡ lowered_rules d all
  pub low : list_all (is_lowerable d) (written_rules left services) ≡ true

module _ (d : PolicyType) (all : List WrittenRule) (made left rest : List Rule) (services : Services) (r : Rule) (is : left ≡ r ∷ rest) (lowering : IsLowering d all made left services) where
  here_low : (is_lowerable d (first_written r services) && list_all (is_lowerable d) (written_rules rest (later_services services))) ≡ true
  here_low = subst (λ (rs : List Rule). list_all (is_lowerable d) (written_rules rs services) ≡ true) is lowering.low

  -- the next rule may be lowered
  pub next_low : is_lowerable d (first_written r services) ≡ true
  next_low =
      first_of (is_lowerable d (first_written r services)) (list_all (is_lowerable d) (written_rules rest (later_services services))) here_low

  -- and is
  pub next_lowered : (now : List Rule) → now ≡ made ++ lowered_rule d (first_written r services) → IsLowering d all now rest (later_services services)
  next_lowered now longer =
      let later : List Rule = lowered_rules d (written_rules rest (later_services services)) in
      record {
        whole = ap (λ (rs : List Rule). rs ++ later) longer
            ∙ (append_assoc made (lowered_rule d (first_written r services)) later
            ∙ (ap (λ (rs : List Rule). made ++ lowered_rules d (written_rules rs services)) (sym is) ∙ lowering.whole));
        low = second_of (is_lowerable d (first_written r services)) (list_all (is_lowerable d) (written_rules rest (later_services services))) here_low;
      }

-- three rules, one behind another
pub three_pushed : (r first second : Rule) (old once twice thrice : List Rule) → first ≡ r → second ≡ r → once ≡ old ++ to_ports first tcp ∷ [] → twice ≡ once ++ to_ports second udp ∷ [] → thrice ≡ twice ++ to_ports r sctp ∷ [] → thrice ≡ old ++ for_protocols r None
three_pushed r first second old once twice thrice copies again one two three =
    let begun : once ≡ old ++ to_ports r tcp ∷ [] = one ∙ ap (λ (q : Rule). old ++ to_ports q tcp ∷ []) copies in
    let both : twice ≡ old ++ to_ports r tcp ∷ to_ports r udp ∷ [] =
    two ∙ ((λ i. begun i ++ to_ports (again i) udp ∷ []) ∙ append_assoc old (to_ports r tcp ∷ []) (to_ports r udp ∷ [])) in
    three
    ∙ (ap (λ (rs : List Rule). rs ++ to_ports r sctp ∷ []) both ∙ append_assoc old (to_ports r tcp ∷ to_ports r udp ∷ []) (to_ports r sctp ∷ []))

-- ---- places

-- what is left of the rules begins with the next one
next_left : (rules : List Rule) (i : ℕ) (r : Rule) → i < length rules → r ≡ get_or rules i r → drop i rules ≡ r ∷ drop (i + 1) rules
next_left rules i r below is = drop_more rules i r below ∙ ap (λ (q : Rule). q ∷ drop (i + 1) rules) (sym is)

module _ (d : PolicyType) (rules : List Rule) (all places : List ℕ) (services : Services) (i : ℕ) (whole : places ++ places_from d (i + 1) (written_rules (drop i rules) services) ≡ all) where
  pub next_placed : (r : Rule) (now : List ℕ) → i < length rules → r ≡ get_or rules i r → now ≡ places ++ rule_places (is_tripled d (first_written r services)) (i + 1) → now ++ places_from d (i + 1 + 1) (written_rules (drop (i + 1) rules) (later_services services)) ≡ all
  next_placed r now below is longer =
      let here : List ℕ = rule_places (is_tripled d (first_written r services)) (i + 1) in
      let rest : List WrittenRule = written_rules (drop (i + 1) rules) (later_services services) in
      let after : i + 1 + 1 ≡ suc (i + 1) = omega arith in
      (λ j. longer j ++ places_from d (after j) rest)
      ∙ (append_assoc places here (places_from d (suc (i + 1)) rest)
      ∙ (ap (λ (rs : List Rule). places ++ places_from d (i + 1) (written_rules rs services)) (sym (next_left rules i r below is)) ∙ whole))

  -- none is left
  pub all_placed : length rules ≤ i → places ≡ all
  all_placed none =
      sym (append-nil places)
      ∙ (sym (ap (λ (rs : List Rule). places ++ places_from d (i + 1) (written_rules rs services)) (drop_all i rules none)) ∙ whole)
