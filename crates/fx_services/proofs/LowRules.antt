-- The rules that are read of a list, with the services that they name, may be lowered.
use Rattle.std.proofs.Common.{◌≡◌, ℕ, ◌+◌, List, ◌∷◌, true, false, ◌&&◌, Option, Some, None, Result, Ok, Err, IfOk, refl, sym, ◌∙◌, subst}
use Rattle.std.specs.Prelude.{codes}
use Rattle.std.specs.List.{list_all}
use Rattle.serde_json.specs.Data.{Data, Items, no_items, item as cons_item}
use Rattle.fx_base.specs.declared.net.Proto.{Proto}
use Rattle.fx_model.specs.declared.rules.Rule.{Rule}
use Rattle.fx_fields.specs.declared.fault.ReadFault.{ReadFault}
use Rattle.fx_fields.specs.declared.names.NamespacedName.{NamespacedName}
use Rattle.fx_fields.specs.declared.policy_fields.PolicyType.{PolicyType}
use Rattle.fx_fields.specs.declared.policy_fields.PolicyType.TheVariants.{Ingress, Egress}
use Rattle.fx_fields.specs.declared.rule_form.RuleForm.{RuleForm}
use Rattle.fx_fields.specs.Paths.{member_path, item_path}
use Rattle.fx_fields.specs.Fields.{required, optional, unread, object_at, section, list_at, items, items_from}
use Rattle.fx_fields.proofs.Readings.{then-if, read-if, weaker-if, both}
use Rattle.fx_json.specs.declared.sides.ReadSide.{ReadSide}
use Rattle.fx_json.specs.Rules.{may_pass, action, protocols, side_at, is_never, rule_fields, rule}
use Rattle.fx_json.specs.Sides.{side}
use Rattle.fx_services.specs.Lowering.{written_rules}
use Rattle.fx_services.specs.Lowerable.{is_lowerable_side, is_service, asks_nothing, may_name, is_lowerable}
use Rattle.fx_services.specs.Services.{service_at, service_on, side_service, service_of_rule, rule_service}
use Rattle.fx_services.proofs.AloneSides.{IsOwn, AsksNothing, alone-side, IsGivenBy, service_at-if}
use Rattle.fx_services.proofs.LowSides.{IsLowerableSide, side-low}

-- what is read of one thing twice is one
pub same-read : {A : Type 0} (answer : Result A ReadFault) (x y : A) → answer ≡ Ok x → answer ≡ Ok y → x ≡ y
same-read answer x y e f = (let both_read : Ok x ≡ Ok y = sym e ∙ f in cc)

-- ---- a side

-- what a side is that is read beside the service that it names
abbrev Fits : Option NamespacedName → ReadSide → Type 0
Fits None s = Unit {0}
Fits (Some v) s = (is_service v && asks_nothing s.side) ≡ true

fits : (form : RuleForm) (proto : Option Proto) (path : List ℕ) (d : Data) (o : Option NamespacedName) → IsGivenBy d o → IfOk (side form proto path d) (Fits o)
fits form proto path d None h = anything (side form proto path d)
  where
    anything : (answer : Result ReadSide ReadFault) → IfOk answer (Fits None)
    anything (Ok s) = tt
    anything (Err fault) = tt
fits form proto path d (Some v) h = by (side form proto path d) (alone-side form proto path d h.1)
  where
    by : (answer : Result ReadSide ReadFault) → IfOk answer AsksNothing → IfOk answer (Fits (Some v))
    by (Ok s) is = both (is_service v) (asks_nothing s.side) h.0 is
    by (Err fault) is = tt

-- what a side is that is read from the same data as a service
abbrev SideFits : RuleForm → Option Proto → List ℕ → List ℕ → Data → Option NamespacedName → Type 0
SideFits form proto path key d o = IfOk (side_at form proto path key d) (Fits o)

side-given : (form : RuleForm) (proto : Option Proto) (path key : List ℕ) (d v : Data) → section (member_path path key) key d ≡ Ok v → (o : Option NamespacedName) → IsGivenBy v o → SideFits form proto path key d o
unfolding side_at
side-given form proto path key d v v_read o is =
    then-if (Fits o) (section (member_path path key) key d) (side form proto (member_path path key)) (λ w w_read.
    let same : v ≡ w = same-read (section (member_path path key) key d) v w v_read w_read in
    let Q : Data → Type 0 = λ x. IfOk (side form proto (member_path path key) x) (Fits o) in
    subst Q same (fits form proto (member_path path key) v o is))

side-fits : (form : RuleForm) (proto : Option Proto) (own : Option (List ℕ)) → IsOwn own → (path key : List ℕ) (d : Data) → IfOk (side_service true own path key d) (SideFits form proto path key d)
unfolding side_service
side-fits form proto own h path key d =
    then-if (SideFits form proto path key d) (section (member_path path key) key d) (service_on true own (member_path path key)) (λ v v_read.
    weaker-if (IsGivenBy v) (SideFits form proto path key d) (service_at own (member_path path key) v) (side-given form proto path key d v v_read) (service_at-if own h (member_path path key) v))

side_at-low : (form : RuleForm) (proto : Option Proto) (path key : List ℕ) (d : Data) → IfOk (side_at form proto path key d) IsLowerableSide
unfolding side_at
side_at-low form proto path key d =
    then-if IsLowerableSide (section (member_path path key) key d) _ (λ v is. side-low form proto (member_path path key) v)

-- ---- a rule

-- a rule that may be lowered beside this service
abbrev IsLowered : PolicyType → Option NamespacedName → Rule → Type 0
IsLowered direction o r = is_lowerable direction (record { plain = r; service = o }) ≡ true

abbrev pub AreLowered : PolicyType → List (Option NamespacedName) → List Rule → Type 0
AreLowered direction os rs = list_all (is_lowerable direction) (written_rules rs os) ≡ true

-- the rules of this name beside the services that they name
abbrev pub RulesFit : RuleForm → PolicyType → List ℕ → List ℕ → Data → List (Option NamespacedName) → Type 0
RulesFit form direction path key d os = IfOk (items (rule form) path key d) (AreLowered direction os)

module _ (form : RuleForm) (own : Option (List ℕ)) (h : IsOwn own) where
  -- the fields of a rule whose sides fit the service
  fields-low : (direction : PolicyType) (o : Option NamespacedName) (path : List ℕ) (d : Data) → ((proto : Option Proto) (source destination : ReadSide) → side_at form proto path (codes "source") d ≡ Ok source → side_at form proto path (codes "destination") d ≡ Ok destination → (r : Rule) → r.source ≡ source.side → r.destination ≡ destination.side → may_name direction r o ≡ true) → IfOk (rule_fields form path d) (IsLowered direction o)
  unfolding rule_fields
  fields-low direction o path d stands =
      then-if P (required (action (may_pass form.place)) path (codes "action") d) _ (λ a _.
      then-if P (protocols path d) _ (λ asked _.
      then-if P (side_at form asked.protocol path (codes "source") d) _ (λ source source_read.
      then-if P (side_at form asked.protocol path (codes "destination") d) _ (λ destination destination_read.
      then-if P (optional unread path (codes "http") d) _ (λ absent _.
      let r : Rule = record {
        action = a;
        never = is_never asked source destination;
        protocol = asked.protocol;
        not_protocol = asked.not_protocol;
        icmp = asked.icmp;
        not_icmp = asked.not_icmp;
        source = source.side;
        destination = destination.side;
      } in
      both (is_lowerable_side source.side && is_lowerable_side destination.side) (may_name direction r o)
      (both (is_lowerable_side source.side) (is_lowerable_side destination.side)
      (read-if IsLowerableSide (side_at form asked.protocol path (codes "source") d) source (side_at-low form asked.protocol path (codes "source") d) source_read)
      (read-if IsLowerableSide (side_at form asked.protocol path (codes "destination") d) destination (side_at-low form asked.protocol path (codes "destination") d) destination_read))
      (stands asked.protocol source destination source_read destination_read r refl refl))))))
    where
      P : Rule → Type 0
      P = IsLowered direction o

  -- where the source fits, so does a rule for packets to endpoints
  source-stands : (o : Option NamespacedName) (path : List ℕ) (d : Data) → ((proto : Option Proto) → SideFits form proto path (codes "source") d o) → (proto : Option Proto) (source destination : ReadSide) → side_at form proto path (codes "source") d ≡ Ok source → side_at form proto path (codes "destination") d ≡ Ok destination → (r : Rule) → r.source ≡ source.side → r.destination ≡ destination.side → may_name Ingress r o ≡ true
  source-stands None path d fit proto source destination source_read destination_read r e f = refl
  source-stands (Some v) path d fit proto source destination source_read destination_read r e f =
      let is : (is_service v && asks_nothing source.side) ≡ true = read-if (Fits (Some v)) (side_at form proto path (codes "source") d) source (fit proto) source_read in
      rw e is

  destination-stands : (o : Option NamespacedName) (path : List ℕ) (d : Data) → ((proto : Option Proto) → SideFits form proto path (codes "destination") d o) → (proto : Option Proto) (source destination : ReadSide) → side_at form proto path (codes "source") d ≡ Ok source → side_at form proto path (codes "destination") d ≡ Ok destination → (r : Rule) → r.source ≡ source.side → r.destination ≡ destination.side → may_name Egress r o ≡ true
  destination-stands None path d fit proto source destination source_read destination_read r e f = refl
  destination-stands (Some v) path d fit proto source destination source_read destination_read r e f =
      let is : (is_service v && asks_nothing destination.side) ≡ true = read-if (Fits (Some v)) (side_at form proto path (codes "destination") d) destination (fit proto) destination_read in
      rw f is

  -- a rule's fields beside the service that they name
  abbrev FieldsFit : PolicyType → List ℕ → Data → Option NamespacedName → Type 0
  FieldsFit direction path d o = IfOk (rule_fields form path d) (IsLowered direction o)

  service-low : (direction : PolicyType) (path : List ℕ) (d : Data) → IfOk (service_of_rule direction own path d) (FieldsFit direction path d)
  unfolding service_of_rule
  service-low Ingress path d =
      then-if (FieldsFit Ingress path d) (side_service true own path (codes "source") d) _ (λ o o_read.
      then-if (FieldsFit Ingress path d) (side_service false own path (codes "destination") d) _ (λ none _.
      fields-low Ingress o path d (source-stands o path d (λ proto.
      read-if (SideFits form proto path (codes "source") d) (side_service true own path (codes "source") d) o (side-fits form proto own h path (codes "source") d) o_read))))
  service-low Egress path d =
      then-if (FieldsFit Egress path d) (side_service false own path (codes "source") d) _ (λ none _.
      then-if (FieldsFit Egress path d) (side_service true own path (codes "destination") d) _ (λ o o_read.
      fields-low Egress o path d (destination-stands o path d (λ proto.
      read-if (SideFits form proto path (codes "destination") d) (side_service true own path (codes "destination") d) o (side-fits form proto own h path (codes "destination") d) o_read))))

  -- a rule beside the service that it names
  abbrev RuleFits : PolicyType → List ℕ → Data → Option NamespacedName → Type 0
  RuleFits direction path d o = IfOk (rule form path d) (IsLowered direction o)

  rule-given : (direction : PolicyType) (path : List ℕ) (d v : Data) → object_at path d ≡ Ok v → (o : Option NamespacedName) → FieldsFit direction path v o → RuleFits direction path d o
  unfolding rule
  rule-given direction path d v v_read o is =
      then-if (IsLowered direction o) (object_at path d) (rule_fields form path) (λ w w_read.
      let same : v ≡ w = same-read (object_at path d) v w v_read w_read in
      let Q : Data → Type 0 = λ x. IfOk (rule_fields form path x) (IsLowered direction o) in
      subst Q same is)

  rule-low : (direction : PolicyType) (path : List ℕ) (d : Data) → IfOk (rule_service direction own path d) (RuleFits direction path d)
  unfolding rule_service
  rule-low direction path d =
      then-if (RuleFits direction path d) (object_at path d) (service_of_rule direction own path) (λ v v_read.
      weaker-if (FieldsFit direction path v) (RuleFits direction path d) (service_of_rule direction own path v) (rule-given direction path d v v_read) (service-low direction path v))

  -- ---- lists of rules

  rules_from-low : (direction : PolicyType) (path : List ℕ) (index : ℕ) (ds : Items) → IfOk (items_from (rule_service direction own) path index ds) (λ os. IfOk (items_from (rule form) path index ds) (AreLowered direction os))
  rules_from-low direction path index no_items = refl
  rules_from-low direction path index (cons_item d ds) =
      then-if P (rule_service direction own (item_path path index) d) _ (λ o o_read.
      then-if P (items_from (rule_service direction own) path (index + 1) ds) _ (λ os os_read.
      then-if (AreLowered direction (o ∷ os)) (rule form (item_path path index) d) _ (λ r r_read.
      then-if (AreLowered direction (o ∷ os)) (items_from (rule form) path (index + 1) ds) _ (λ rs rs_read.
      let first : RuleFits direction (item_path path index) d o = read-if (RuleFits direction (item_path path index) d) (rule_service direction own (item_path path index) d) o (rule-low direction (item_path path index) d) o_read in
      let rest : IfOk (items_from (rule form) path (index + 1) ds) (AreLowered direction os) = read-if (λ (qs : List (Option NamespacedName)). IfOk (items_from (rule form) path (index + 1) ds) (AreLowered direction qs)) (items_from (rule_service direction own) path (index + 1) ds) os (rules_from-low direction path (index + 1) ds) os_read in
      both (is_lowerable direction (record { plain = r; service = o })) (list_all (is_lowerable direction) (written_rules rs os))
      (read-if (IsLowered direction o) (rule form (item_path path index) d) r first r_read)
      (read-if (AreLowered direction os) (items_from (rule form) path (index + 1) ds) rs rest rs_read)))))
    where
      P : List (Option NamespacedName) → Type 0
      P os = IfOk (items_from (rule form) path index (cons_item d ds)) (AreLowered direction os)

  -- those of these items
  abbrev ItemsFit : PolicyType → List ℕ → Items → List (Option NamespacedName) → Type 0
  ItemsFit direction path ds os = IfOk (items_from (rule form) path 0 ds) (AreLowered direction os)

  rules-given : (direction : PolicyType) (path key : List ℕ) (d : Data) (ds : Items) → list_at path key d ≡ Ok ds → (os : List (Option NamespacedName)) → ItemsFit direction (member_path path key) ds os → RulesFit form direction path key d os
  unfolding items
  rules-given direction path key d ds ds_read os is =
      then-if (AreLowered direction os) (list_at path key d) (items_from (rule form) (member_path path key) 0) (λ es es_read.
      let same : ds ≡ es = same-read (list_at path key d) ds es ds_read es_read in
      let Q : Items → Type 0 = λ xs. ItemsFit direction (member_path path key) xs os in
      subst Q same is)

  pub rules-low : (direction : PolicyType) (path key : List ℕ) (d : Data) → IfOk (items (rule_service direction own) path key d) (RulesFit form direction path key d)
  unfolding items
  rules-low direction path key d =
      then-if (RulesFit form direction path key d) (list_at path key d) (items_from (rule_service direction own) (member_path path key) 0) (λ ds ds_read.
      weaker-if (ItemsFit direction (member_path path key) ds) (RulesFit form direction path key d) (items_from (rule_service direction own) (member_path path key) 0 ds) (rules-given direction path key d ds ds_read) (rules_from-low direction (member_path path key) 0 ds))
