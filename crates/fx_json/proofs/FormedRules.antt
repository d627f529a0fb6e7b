-- Each rule that is read is formed: beside what its sides are it asks for messages of ICMP beside ICMP alone, and it passes
-- where it may.
use Rattle.std.proofs.Common.{◌≡◌, ℕ, List, Bool, true, false, ◌&&◌, ◌||◌, ◌==◌, not, Option, Some, None, Ok, Err, IfOk, refl}
use Rattle.std.specs.Prelude.{codes, if◌then◌else◌, is_some, option_and_then}
use Rattle.serde_json.specs.Data.{Data}
use Rattle.serde_json.specs.Find.{as_str}
use Rattle.fx_base.specs.declared.net.Proto.{Proto}
use Rattle.fx_model.specs.declared.rules.Action.{Action}
use Rattle.fx_model.specs.declared.rules.Icmp.{Icmp}
use Rattle.fx_model.specs.declared.rules.Rule.{Rule}
use Rattle.fx_model.specs.Formed.{implies, has_port_protocol, has_icmp_protocol, passes, is_formed_side, is_formed_rule, is_formed_profile_rule}
use Rattle.fx_fields.specs.declared.fault.ReadFault.TheVariants.{IcmpWithoutProtocol, PassInProfile}
use Rattle.fx_fields.specs.declared.rule_form.RuleForm.{RuleForm}
use Rattle.fx_fields.specs.declared.rule_form.RulePlace.TheVariants.{OfProfile}
use Rattle.fx_fields.specs.declared.rule_form.Services.{Services}
use Rattle.fx_json.specs.declared.rules.ReadProtocols.{ReadProtocols}
use Rattle.fx_fields.specs.Paths.{member_path}
use Rattle.fx_fields.specs.Fields.{◌>>=◌, is_absent, formed, required, defaulted, optional, unread, object_at, section}
use Rattle.fx_fields.specs.Values.{version, protocol}
use Rattle.fx_json.specs.Rules.{form_in, action_named, may_pass, allowed, action, has_messages, with_messages, message, asked_message, icmp_at, of_ipv4, protocols, side_at, rule_fields, rule}
use Rattle.fx_fields.proofs.Readings.{then-if, read-if, required-if, choice-if, weaker-if, both}
use Rattle.fx_fields.proofs.SideTrees.{IsPlace}
use Rattle.fx_json.proofs.Implied.{implies_either}
use Rattle.fx_json.proofs.FormedSides.{lists, IsSideOf, side-formed}

-- ---- actions

-- whether a rule may do so
abbrev pub IsAllowed : Bool → Action → Type 0
IsAllowed may a = implies (passes a) may ≡ true

allowed-formed : (may : Bool) (path : List ℕ) (a : Action) → IfOk (allowed may path a) (IsAllowed may)
allowed-formed may path a = by (passes a) may refl refl
  where
    by : (p m : Bool) → passes a ≡ p → may ≡ m → IfOk (if p && not m then Err (PassInProfile path) else Ok a) (IsAllowed may)
    by true true e f = rw (e, f) refl
    by true false e f = tt
    by false m e f = rw e refl

action-formed : (may : Bool) (path : List ℕ) (d : Data) → IfOk (action may path d) (IsAllowed may)
action-formed may path d =
    then-if (IsAllowed may) (formed path (option_and_then action_named (as_str d))) (allowed may path) (λ a _. allowed-formed may path a)

-- ---- messages

with_messages-has : (proto : Option Proto) (path : List ℕ) → IfOk (with_messages proto path) (λ _. has_messages proto ≡ true)
with_messages-has proto path = choice-if (λ (x : Unit {0}). has_messages proto ≡ true) (has_messages proto) tt (IcmpWithoutProtocol path) (λ e. e)

asked_message-formed : (proto : Option Proto) (path : List ℕ) (d : Data) → IfOk (asked_message proto path d) (λ m. implies (is_some m) (has_messages proto) ≡ true)
asked_message-formed proto path d = by_members (is_absent (codes "type") d && is_absent (codes "code") d)
  where
    P : Option Icmp → Type 0
    P m = implies (is_some m) (has_messages proto) ≡ true

    by_members : (absent : Bool) → IfOk (if absent then Ok None else (with_messages proto path >>= λ _. message path d >>= λ m. Ok (Some m))) P
    by_members true = refl
    by_members false =
        then-if P (with_messages proto path) _ (λ x is.
        then-if P (message path d) _ (λ m read.
        read-if (λ _. has_messages proto ≡ true) (with_messages proto path) x (with_messages-has proto path) is))

icmp_at-formed : (proto : Option Proto) (path k : List ℕ) (d : Data) → IfOk (icmp_at proto path k d) (λ m. implies (is_some m) (has_messages proto) ≡ true)
unfolding icmp_at
icmp_at-formed proto path k d =
    then-if (λ m. implies (is_some m) (has_messages proto) ≡ true) (section (member_path path k) k d) _ (λ v is. asked_message-formed proto (member_path path k) v)

-- what is left beside ICMP alone
of_ipv4-formed : (proto : Option Proto) (m : Option Icmp) → implies (is_some m) (has_messages proto) ≡ true → implies (is_some (of_ipv4 proto m)) (has_icmp_protocol proto) ≡ true
unfolding of_ipv4
of_ipv4-formed None m e = e
of_ipv4-formed (Some p) m e = by_number (p.0 == 58) (p.0 == 1) e
  where
    by_number : (six four : Bool) → implies (is_some m) (four || six) ≡ true → implies (is_some (if six then None else m)) four ≡ true
    by_number true four f = refl
    by_number false true f = f
    by_number false false f = f

protocols-formed : (path : List ℕ) (d : Data) → IfOk (protocols path d) (λ a. implies (is_some a.icmp || is_some a.not_icmp) (has_icmp_protocol a.protocol) ≡ true)
unfolding protocols
protocols-formed path d =
    then-if P (defaulted 4 version path (codes "ipVersion") d) _ (λ ip_version _.
    then-if P (optional protocol path (codes "protocol") d) _ (λ proto _.
    then-if P (optional protocol path (codes "notProtocol") d) _ (λ not_proto _.
    then-if P (icmp_at proto path (codes "icmp") d) _ (λ m m_read.
    then-if P (icmp_at proto path (codes "notICMP") d) _ (λ not_m not_m_read.
    implies_either (is_some (of_ipv4 proto m)) (is_some (of_ipv4 proto not_m)) (has_icmp_protocol proto)
    (of_ipv4-formed proto m (read-if (λ (o : Option Icmp). implies (is_some o) (has_messages proto) ≡ true) (icmp_at proto path (codes "icmp") d) m (icmp_at-formed proto path (codes "icmp") d) m_read))
    (of_ipv4-formed proto not_m (read-if (λ (o : Option Icmp). implies (is_some o) (has_messages proto) ≡ true) (icmp_at proto path (codes "notICMP") d) not_m (icmp_at-formed proto path (codes "notICMP") d) not_m_read)))))))
  where
    P : ReadProtocols → Type 0
    P a = implies (is_some a.icmp || is_some a.not_icmp) (has_icmp_protocol a.protocol) ≡ true

-- ---- a rule

side_at-formed : (form : RuleForm) → IsPlace form.place → (proto : Option Proto) (path key : List ℕ) (d : Data) → IfOk (side_at form proto path key d) (IsSideOf proto)
unfolding side_at
side_at-formed form stands proto path key d =
    then-if (IsSideOf proto) (section (member_path path key) key d) _ (λ v is. side-formed form stands proto (member_path path key) v)

-- a rule that stands where it may
abbrev pub IsRuleOf : RuleForm → Rule → Type 0
IsRuleOf form r = (is_formed_rule r ≡ true) × IsAllowed (may_pass form.place) r.action

abbrev AreAsked : ReadProtocols → Type 0
AreAsked a = implies (is_some a.icmp || is_some a.not_icmp) (has_icmp_protocol a.protocol) ≡ true

rule_fields-formed : (form : RuleForm) → IsPlace form.place → (path : List ℕ) (o : Data) → IfOk (rule_fields form path o) (IsRuleOf form)
unfolding rule_fields
rule_fields-formed form stands path o =
    then-if P (required (action (may_pass form.place)) path (codes "action") o) _ (λ a a_read.
    then-if P (protocols path o) _ (λ asked asked_read.
    then-if P (side_at form asked.protocol path (codes "source") o) _ (λ source source_read.
    then-if P (side_at form asked.protocol path (codes "destination") o) _ (λ destination destination_read.
    then-if P (optional unread path (codes "http") o) _ (λ absent _.
    let from : IsSideOf asked.protocol source = read-if (IsSideOf asked.protocol) (side_at form asked.protocol path (codes "source") o) source (side_at-formed form stands asked.protocol path (codes "source") o) source_read in
    let to : IsSideOf asked.protocol destination = read-if (IsSideOf asked.protocol) (side_at form asked.protocol path (codes "destination") o) destination (side_at-formed form stands asked.protocol path (codes "destination") o) destination_read in
    let messages : AreAsked asked = read-if AreAsked (protocols path o) asked (protocols-formed path o) asked_read in
    let listed : implies (lists source || lists destination) (has_port_protocol asked.protocol) ≡ true = implies_either (lists source) (lists destination) (has_port_protocol asked.protocol) from.0 to.0 in (
      both (implies (lists source || lists destination) (has_port_protocol asked.protocol) && implies (is_some asked.icmp || is_some asked.not_icmp) (has_icmp_protocol asked.protocol)) (is_formed_side source.side && is_formed_side destination.side)
          (both (implies (lists source || lists destination) (has_port_protocol asked.protocol)) (implies (is_some asked.icmp || is_some asked.not_icmp) (has_icmp_protocol asked.protocol)) listed messages)
          (both (is_formed_side source.side) (is_formed_side destination.side) from.1 to.1),
      read-if (IsAllowed (may_pass form.place)) (required (action (may_pass form.place)) path (codes "action") o) a (required-if (IsAllowed (may_pass form.place)) (action (may_pass form.place)) (action-formed (may_pass form.place)) path (codes "action") o) a_read,
    ))))))
  where
    P : Rule → Type 0
    P = IsRuleOf form

rule-formed : (form : RuleForm) → IsPlace form.place → (path : List ℕ) (d : Data) → IfOk (rule form path d) (IsRuleOf form)
unfolding rule
rule-formed form stands path d = then-if (IsRuleOf form) (object_at path d) (rule_fields form path) (λ o _. rule_fields-formed form stands path o)

pub policy_rule-formed : (form : RuleForm) → IsPlace form.place → (path : List ℕ) (d : Data) → IfOk (rule form path d) (λ r. is_formed_rule r ≡ true)
policy_rule-formed form stands path d =
    weaker-if (IsRuleOf form) (λ r. is_formed_rule r ≡ true) (rule form path d) (λ r is. is.0) (rule-formed form stands path d)

pub profile_rule-formed : (services : Services) (path : List ℕ) (d : Data) → IfOk (rule (form_in OfProfile services) path d) (λ r. is_formed_profile_rule r ≡ true)
profile_rule-formed services path d =
    weaker-if (IsRuleOf (form_in OfProfile services)) (λ r. is_formed_profile_rule r ≡ true) (rule (form_in OfProfile services) path d) (λ r is. both (is_formed_rule r) (not (passes r.action)) is.0 (is_not (passes r.action) is.1)) (rule-formed (form_in OfProfile services) tt path d)
  where
    is_not : (p : Bool) → implies p false ≡ true → not p ≡ true
    is_not true e = e
    is_not false e = refl
