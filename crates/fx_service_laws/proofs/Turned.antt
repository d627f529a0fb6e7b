-- What the rules that stand for others say, with their places turned back, is what the others say.
use Rattle.std.proofs.Common.{◌≡◌, ℕ, suc, ◌+◌, ◌-◌, Bool, true, false, ◌||◌, List, [], ◌∷◌, ◌++◌, Option, Some, None, refl, ap, ◌∙◌, subst, arith}
use Rattle.std.specs.Prelude.{is_none, if◌then◌else◌, slice_get}
use Rattle.std.specs.List.{list_all}
use Rattle.std.specs.Option.{unwrap_or}
use Rattle.fx_base.specs.declared.net.Proto.{Proto}
use Rattle.fx_model.specs.declared.chain.Reason.{Reason}
use Rattle.fx_model.specs.declared.packet.Packet.{Packet}
use Rattle.fx_model.specs.declared.resources.Resources.{Resources}
use Rattle.fx_model.specs.declared.rules.Action.{Action}
use Rattle.fx_model.specs.declared.rules.Action.TheVariants as action
use Rattle.fx_model.specs.declared.rules.Rule.{Rule}
use Rattle.fx_model.specs.Criteria.{has_ports}
use Rattle.fx_model.specs.Directions as direction
use Rattle.fx_model.specs.Policy.{MetRule, Answer, Silent, Passed, Allowed, Denied, answer_of, first_answer, rule_matches, met_rules}
use Rattle.fx_fields.specs.declared.names.NamespacedName.{NamespacedName}
use Rattle.fx_fields.specs.declared.policy_fields.PolicyType.{PolicyType}
use Rattle.fx_fields.specs.declared.policy_fields.PolicyType.TheVariants.{Ingress, Egress}
use Rattle.fx_fields.proofs.Readings.{first_of, second_of}
use Rattle.fx_services.specs.Lowering.{WrittenRule, plain_rule, from_service, to_addresses, to_ports, never_met, tcp, udp, sctp, for_protocol, for_protocols, rules_for, lowered_rules, asks_all_protocols, rule_places, places_from}
use Rattle.fx_services.specs.Lowerable.{is_lowerable}
use Rattle.fx_services.specs.Places.{written_place}
use Rattle.fx_services.specs.Written.{Written}
use Rattle.fx_services.specs.WrittenVerdict.{met_written}
use Rattle.fx_services.specs.Standing.{StandsFor, IsSound}
use Rattle.fx_service_laws.proofs.Rules.{type_of, is_met, rule-same}

-- ---- one rule

-- what a rule says before others that say `rest`
abbrev pub said : Bool → Action → Reason → Answer → Answer
said b act why rest = elim b [ true ↦ answer_of act why rest | false ↦ rest ]

-- an answer with its reason turned back
abbrev pub turned : (Reason → Reason) → Answer → Answer
turned f Silent = Silent
turned f Passed = Passed
turned f (Allowed why) = Allowed (f why)
turned f (Denied why) = Denied (f why)

module _ (f : Reason → Reason) where
  said-turned : (b : Bool) (act : Action) (why now : Reason) (rest later : Answer) → f why ≡ now → turned f rest ≡ later → turned f (said b act why rest) ≡ said b act now later
  said-turned false act why now rest later e h = h
  said-turned true action.Allow why now rest later e h = ap Allowed e
  said-turned true action.Deny why now rest later e h = ap Denied e
  said-turned true action.Log why now rest later e h = h
  said-turned true action.Pass why now rest later e h = refl

-- one behind another of the same action says what both say together
said-twice : (b c : Bool) (act : Action) (why : Reason) (rest : Answer) → said b act why (said c act why rest) ≡ said (b || c) act why rest
said-twice false c act why rest = refl
said-twice true c action.Allow why rest = refl
said-twice true c action.Deny why rest = refl
said-twice true true action.Log why rest = refl
said-twice true false action.Log why rest = refl
said-twice true c action.Pass why rest = refl

-- ---- rules in a list

-- the reasons of rules from a place on are turned into those of these places
abbrev pub Turns : (Reason → Reason) → (ℕ → Reason) → ℕ → List ℕ → Type 0
Turns f why m [] = Unit {0}
Turns f why m (p ∷ ps) = (f (why m) ≡ why p) × Turns f why (suc m) ps

module _ (R : Resources) (a : Packet) (f : Reason → Reason) (why : ℕ → Reason) where
  abbrev met : ℕ → List Rule → List MetRule
  met m rs = met_rules R a why m rs

  -- one rule that stands for another
  one-turned : (r : Rule) (act : Action) (m n : ℕ) (rest : List MetRule) (later : Answer) → r.action ≡ act → f (why m) ≡ why n → turned f (first_answer rest) ≡ later → turned f (first_answer (record { why = why m; action = r.action; matches = rule_matches R r a } ∷ rest)) ≡ said (rule_matches R r a || false) act (why n) later
  one-turned r act m n rest later acts place h =
      said-turned f (rule_matches R r a) r.action (why m) (why n) (first_answer rest) later place h
      ∙ (λ i. said (unmoved (rule_matches R r a) i) (acts i) (why n) later)
    where
      unmoved : (b : Bool) → b ≡ (b || false)
      unmoved true = refl
      unmoved false = refl

  -- three that stand for one
  three-turned : (r s t : Rule) (act : Action) (m n : ℕ) (rest : List MetRule) (later : Answer) → r.action ≡ act → s.action ≡ act → t.action ≡ act → f (why m) ≡ why n → f (why (suc m)) ≡ why n → f (why (suc (suc m))) ≡ why n → turned f (first_answer rest) ≡ later → turned f (first_answer (met m (r ∷ s ∷ t ∷ []) ++ rest)) ≡ said (is_met R a (r ∷ s ∷ t ∷ [])) act (why n) later
  three-turned r s t act m n rest later r_acts s_acts t_acts first second third h =
      let last = one-turned t act (suc (suc m)) n rest later t_acts third h in
      let middle =
      said-turned f (rule_matches R s a) s.action (why (suc m)) (why n) (first_answer (met (suc (suc m)) (t ∷ []) ++ rest)) (said (rule_matches R t a || false) act (why n) later) second last
      ∙ ((λ i. said (rule_matches R s a) (s_acts i) (why n) (said (rule_matches R t a || false) act (why n) later))
      ∙ said-twice (rule_matches R s a) (rule_matches R t a || false) act (why n) later) in
      said-turned f (rule_matches R r a) r.action (why m) (why n) (first_answer (met (suc m) (s ∷ t ∷ []) ++ rest)) (said (rule_matches R s a || (rule_matches R t a || false)) act (why n) later) first middle
      ∙ ((λ i. said (rule_matches R r a) (r_acts i) (why n) (said (rule_matches R s a || (rule_matches R t a || false)) act (why n) later))
      ∙ said-twice (rule_matches R r a) (rule_matches R s a || (rule_matches R t a || false)) act (why n) later)

  -- ---- the rules that stand for one, before others

  -- what the others say, from each place on from which their places are turned back
  abbrev OthersSay : List ℕ → List Rule → List MetRule → Answer → Type 0
  OthersSay ps rs rest later = (k : ℕ) → Turns f why k ps → turned f (first_answer (met k rs ++ rest)) ≡ later

  -- the rules that stand for a rule say what it says, before what the others say
  abbrev SaysSo : List Rule → Bool → Action → Type 0
  SaysSo made tripled act =
      (m n : ℕ) (ps : List ℕ) (rs : List Rule) (rest : List MetRule) (later : Answer)
      → Turns f why m (rule_places tripled n ++ ps) → OthersSay ps rs rest later
      → turned f (first_answer (met m (made ++ rs) ++ rest)) ≡ said (is_met R a made) act (why n) later

  one-says : (r : Rule) (act : Action) → r.action ≡ act → SaysSo (r ∷ []) false act
  one-says r act acts m n ps rs rest later places others =
      one-turned r act m n (met (suc m) rs ++ rest) later acts places.0 (others (suc m) places.1)

  three-say : (r s t : Rule) (act : Action) → r.action ≡ act → s.action ≡ act → t.action ≡ act → SaysSo (r ∷ s ∷ t ∷ []) true act
  three-say r s t act r_acts s_acts t_acts m n ps rs rest later places others =
      three-turned r s t act m n (met (suc (suc (suc m))) rs ++ rest) later r_acts s_acts t_acts places.0 places.1.0 places.1.1.0 (others (suc (suc (suc m))) places.1.1.1)

  for-acts : (r : Rule) (p : Proto) → (for_protocol r p).action ≡ r.action
  for-acts r p = by (has_ports p.0)
    where
      by : (b : Bool) → (if b then to_ports r p else never_met r).action ≡ r.action
      by true = refl
      by false = refl

  for-says : (v : NamespacedName) (r : Rule) (o : Option Proto) → SaysSo (for_protocols (to_addresses v r) o) (is_none o) r.action
  for-says v r None = three-say (to_ports (to_addresses v r) tcp) (to_ports (to_addresses v r) udp) (to_ports (to_addresses v r) sctp) r.action refl refl refl
  for-says v r (Some p) = one-says (for_protocol (to_addresses v r) p) r.action (for-acts (to_addresses v r) p)

  rule-says : (d : PolicyType) (r : Rule) (o : Option NamespacedName) → SaysSo (rules_for d r o) (asks_all_protocols d r o) r.action
  rule-says d r None = one-says (plain_rule r) r.action refl
  rule-says Ingress r (Some v) = one-says (from_service v r) r.action refl
  rule-says Egress r (Some v) = for-says v r r.protocol

-- ---- all rules of a direction

module _ (W : Written) (R : Resources) (stands : StandsFor W R) (sound : IsSound W) (a : Packet) (f : Reason → Reason) (why : ℕ → Reason) (d : direction.Direction) where
  -- the rules that stand for these, before others, say what these say before what the others say
  pub rules-turned : (ws : List WrittenRule) → list_all (is_lowerable (type_of d)) ws ≡ true → (m n : ℕ) (rest others : List MetRule) → Turns f why m (places_from (type_of d) n ws) → turned f (first_answer rest) ≡ first_answer others → turned f (first_answer (met_rules R a why m (lowered_rules (type_of d) ws) ++ rest)) ≡ first_answer (met_written W d a why n ws ++ others)
  rules-turned [] low m n rest others places h = h
  rules-turned (w ∷ ws) low m n rest others places h =
      rule-says R a f why (type_of d) w.plain w.service m n (places_from (type_of d) (suc n) ws) (lowered_rules (type_of d) ws) rest (first_answer (met_written W d a why (suc n) ws ++ others)) places
      (λ k turns. rules-turned ws (second_of (is_lowerable (type_of d) w) (list_all (is_lowerable (type_of d)) ws) low) k (suc n) rest others turns h)
      ∙ ap (λ b. said b w.plain.action (why n) (first_answer (met_written W d a why (suc n) ws ++ others)))
      (rule-same W R stands sound a d w (first_of (is_lowerable (type_of d) w) (list_all (is_lowerable (type_of d)) ws) low))

-- ---- places from 1 on

-- the places that a list gives are turned back
turns-by : (f : Reason → Reason) (why : ℕ → Reason) (m : ℕ) (ps : List ℕ) → ((k p : ℕ) → slice_get ps k ≡ Some p → f (why (k + m)) ≡ why p) → Turns f why m ps
turns-by f why m [] h = tt
turns-by f why m (p ∷ ps) h =
    let first : 0 + m ≡ m = omega arith in
    (subst (λ n. f (why n) ≡ why p) first (h 0 p refl), turns-by f why (suc m) ps later)
  where
    later : (k q : ℕ) → slice_get ps k ≡ Some q → f (why (k + suc m)) ≡ why q
    later k q e = (let place : suc k + m ≡ k + suc m = omega arith in subst (λ n. f (why n) ≡ why q) place (h (suc k) q e))

pub turns-written : (f : Reason → Reason) (why : ℕ → Reason) (ps : List ℕ) → ((n : ℕ) → f (why n) ≡ why (written_place ps n)) → Turns f why 1 ps
turns-written f why ps h =
    turns-by f why 1 ps (λ k p e.
    let before : (k + 1) - 1 ≡ k = omega arith in
    let place : written_place ps (k + 1) ≡ p = ap (λ n. unwrap_or (slice_get ps n) (k + 1)) before ∙ ap (λ (o : Option ℕ). unwrap_or o (k + 1)) e in
    h (k + 1) ∙ ap why place)
