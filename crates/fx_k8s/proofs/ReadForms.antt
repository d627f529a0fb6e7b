-- What is read of a policy of Kubernetes is formed: keys and values of labels are such as may stand in a selector, and a port's name
-- is one.
use Rattle.std.proofs.Common.{◌≡◌, ℕ, List, [], ◌∷◌, ◌++◌, Bool, true, false, Option, Some, None, Ok, IfOk, refl, subst}
use Rattle.std.specs.Prelude.{not, ◌&&◌, codes, IfSome, if◌then◌else◌, option_map, option_and_then}
use Rattle.std.specs.List.{list_all}
use Rattle.std.specs.Str.{bytes_eq}
use Rattle.serde_json.specs.Data.{Data, null, boolean, number, string, array, object, Items, no_items, item as cons_item, Members, no_members, member}
use Rattle.serde_json.specs.Find.{as_str, as_array, as_object}
use Rattle.fx_base.specs.Given.{is_given}
use Rattle.fx_base.specs.declared.net.PortRange.{PortRange}
use Rattle.fx_model.specs.declared.rules.PortSpec.{PortSpec}
use Rattle.fx_model.specs.declared.rules.PortSpec.TheVariants.{Number, Named}
use Rattle.fx_fields.specs.declared.fault.ReadFault.TheVariants.{BadField}
use Rattle.fx_fields.specs.declared.policy_fields.PolicyType.{PolicyType}
use Rattle.fx_fields.specs.declared.policy_fields.PolicyType.TheVariants.{Ingress, Egress}
use Rattle.fx_fields.specs.Fields.{◌>>=◌, field, formed, defaulted, optional, required, object_at, section, items}
use Rattle.fx_fields.specs.Forms.{is_label_value, is_port_name, passing}
use Rattle.fx_fields.specs.Kinds.{text_at}
use Rattle.fx_fields.specs.Paths.{member_path}
use Rattle.fx_fields.specs.PolicyFields.{policy_type}
use Rattle.fx_fields.specs.Values.{whole_in, range}
use Rattle.fx_fields.proofs.Readings.{then-if, read-if, at_member-if, formed-if, choice-if, both, items-each}
use Rattle.fx_k8s.specs.declared.entries.PortEntry.{PortEntry}
use Rattle.fx_k8s.specs.declared.expressions.Expression.{Expression}
use Rattle.fx_k8s.specs.declared.expressions.Expression.TheVariants.{In, NotIn, Exists, DoesNotExist}
use Rattle.fx_k8s.specs.declared.label_selectors.LabelPair.{LabelPair}
use Rattle.fx_k8s.specs.declared.label_selectors.LabelSelector.{LabelSelector}
use Rattle.fx_k8s.specs.declared.peers.Peer.{Peer}
use Rattle.fx_k8s.specs.declared.peers.Peer.TheVariants.{Block, Pods}
use Rattle.fx_k8s.specs.declared.policies.NetworkPolicy.{NetworkPolicy}
use Rattle.fx_k8s.specs.declared.policy_rules.PolicyRule.{PolicyRule}
use Rattle.fx_k8s.specs.LabelSelectors.{is_label_key, is_pair, pair, with_pair, pairs_from, pairs_in, match_labels, key_at, value_in, values_from, values_at, when, expression_named, expression_in, told, expression, selector_fields, label_selector, any_labels}
use Rattle.fx_k8s.specs.declared.entries.Protocol.TheVariants.{Tcp}
use Rattle.fx_k8s.specs.Entries.{protocol, numbered, named, entry_port, range_from, ranged, ended, entry_end, entry_fields, port_entry}
use Rattle.fx_k8s.specs.Peers.{ip_block, block_peer, pods_peer, peer_by, peer}
use Rattle.fx_k8s.specs.PolicyRules.{peers_key, rule_fields, policy_rule}
use Rattle.fx_k8s.specs.Policies.{policy_of, selected_at, rules_at, with_rules, network_policy, policy_in}
use Rattle.fx_k8s.proofs.Pushed.{one_more_passes}

-- ---- forms

abbrev pub is_formed_pair : LabelPair → Bool
is_formed_pair p = is_label_key p.key && is_label_value p.value

abbrev pub is_formed_expression : Expression → Bool
is_formed_expression (In k vs) = is_label_key k && list_all is_label_value vs
is_formed_expression (NotIn k vs) = is_label_key k && list_all is_label_value vs
is_formed_expression (Exists k) = is_label_key k
is_formed_expression (DoesNotExist k) = is_label_key k

abbrev pub is_formed_selector : LabelSelector → Bool
is_formed_selector s = list_all is_formed_pair s.labels && list_all is_formed_expression s.expressions

abbrev pub is_formed_part : Option LabelSelector → Bool
is_formed_part None = true
is_formed_part (Some s) = is_formed_selector s

abbrev pub is_formed_peer : Peer → Bool
is_formed_peer (Block b) = true
is_formed_peer (Pods p) = is_formed_part p.pods && is_formed_part p.namespaces

abbrev pub is_formed_spec : Option PortSpec → Bool
is_formed_spec None = true
is_formed_spec (Some (Number r)) = true
is_formed_spec (Some (Named name)) = is_port_name name

abbrev pub is_formed_entry : PortEntry → Bool
is_formed_entry e = is_formed_spec e.port

abbrev pub is_formed_rule : PolicyRule → Bool
is_formed_rule r = list_all is_formed_peer r.peers && list_all is_formed_entry r.ports

abbrev pub IsFormedPolicy : NetworkPolicy → Type 0
IsFormedPolicy p = (is_formed_selector p.pods ≡ true) × ((list_all is_formed_rule p.ingress ≡ true) × (list_all is_formed_rule p.egress ≡ true))

-- ---- what is there

some-if : {A B : Type 0} (P : B → Type 0) (o : Option A) (next : A → Option B) → ((x : A) → o ≡ Some x → IfSome (next x) P) → IfSome (option_and_then next o) P
some-if P None next h = tt
some-if P (Some x) next h = h x refl

passed : {A : Type 0} (test : A → Bool) (o : Option A) (x : A) → passing test o ≡ Some x → test x ≡ true
passed test None x e = cc
passed {A = A} test (Some y) x e = by (test y) refl e
  where
    by : (b : Bool) → test y ≡ b → (if b then Some y else None) ≡ Some x → test x ≡ true
    by true t is = let same : y ≡ x = cc in subst (λ (z : A). test z ≡ true) same t
    by false t is = cc

-- ---- labels

abbrev ArePairs : List LabelPair → Type 0
ArePairs ps = list_all is_formed_pair ps ≡ true

with_pair-formed : (k : List ℕ) (d : Data) (ps : List LabelPair) → ArePairs ps → IfSome (with_pair k d ps) ArePairs
with_pair-formed k null ps h = h
with_pair-formed k (boolean b) ps h = tt
with_pair-formed k (number n) ps h = tt
with_pair-formed k (string v) ps h = by (is_pair k v) refl
  where
    by : (b : Bool) → is_pair k v ≡ b → IfSome (if b then Some (ps ++ pair k v ∷ []) else None) ArePairs
    by true t = one_more_passes is_formed_pair ps (pair k v) h t
    by false t = tt
with_pair-formed k (array ds) ps h = tt
with_pair-formed k (object ms) ps h = tt

pairs_from-formed : (ms : Members) (ps : List LabelPair) → ArePairs ps → IfSome (pairs_from ms ps) ArePairs
pairs_from-formed no_members ps h = h
pairs_from-formed (member k d ms) ps h =
    some-if ArePairs (with_pair k d ps) (pairs_from ms) (λ qs is. pairs_from-formed ms qs (subst (λ o. IfSome o ArePairs) is (with_pair-formed k d ps h)))

match_labels-formed : (path : List ℕ) (d : Data) → IfOk (match_labels path d) ArePairs
match_labels-formed path d =
    formed-if ArePairs path (pairs_in d) (some-if ArePairs (as_object d) (λ ms. pairs_from ms []) (λ ms is. pairs_from-formed ms [] refl))

-- ---- expressions

abbrev AreValues : List (List ℕ) → Type 0
AreValues vs = list_all is_label_value vs ≡ true

values_from-formed : (ds : Items) (vs : List (List ℕ)) → AreValues vs → IfSome (values_from ds vs) AreValues
values_from-formed no_items vs h = h
values_from-formed (cons_item d ds) vs h =
    some-if AreValues (value_in d) (λ v. values_from ds (vs ++ v ∷ [])) (λ v is. values_from-formed ds (vs ++ v ∷ []) (one_more_passes is_label_value vs v h (passed is_label_value (as_str d) v is)))

values_at-formed : (d : Data) → IfSome (values_at d) AreValues
values_at-formed d =
    elim (field (codes "values") d) as (λ o. IfSome (elim o [ None ↦ Some [] | Some v ↦ option_and_then (λ ds. values_from ds []) (as_array v) ]) AreValues) [
      | None ↦ refl
      | Some v ↦ some-if AreValues (as_array v) (λ ds. values_from ds []) (λ ds is. values_from-formed ds [] refl)
    ]

abbrev IsExpression : Expression → Type 0
IsExpression x = is_formed_expression x ≡ true

when-formed : (b : Bool) (x : Expression) → IsExpression x → IfSome (when b x) IsExpression
when-formed true x h = h
when-formed false x h = tt

named-formed : (operator k : List ℕ) (vs : List (List ℕ)) → is_label_key k ≡ true → AreValues vs → IfSome (expression_named operator k vs) IsExpression
named-formed operator k vs h g =
    by (bytes_eq operator (codes "In")) (bytes_eq operator (codes "NotIn")) (bytes_eq operator (codes "Exists")) (bytes_eq operator (codes "DoesNotExist"))
  where
    listed : (is_label_key k && list_all is_label_value vs) ≡ true
    listed = both (is_label_key k) (list_all is_label_value vs) h g

    by : (a b c e : Bool) → IfSome (if a then when (is_given vs) (In k vs) else (if b then when (is_given vs) (NotIn k vs) else (if c then when (not (is_given vs)) (Exists k) else (if e then when (not (is_given vs)) (DoesNotExist k) else None)))) IsExpression
    by true b c e = when-formed (is_given vs) (In k vs) listed
    by false true c e = when-formed (is_given vs) (NotIn k vs) listed
    by false false true e = when-formed (not (is_given vs)) (Exists k) h
    by false false false true = when-formed (not (is_given vs)) (DoesNotExist k) h
    by false false false false = tt

expression_in-formed : (d : Data) → IfSome (expression_in d) IsExpression
expression_in-formed d =
    some-if IsExpression (key_at d) _ (λ k key.
    some-if IsExpression (values_at d) _ (λ vs values.
    some-if IsExpression (text_at (codes "operator") d) _ (λ operator _.
    named-formed operator k vs (passed is_label_key (text_at (codes "key") d) k key) (subst (λ o. IfSome o AreValues) values (values_at-formed d)))))

told-formed : (path : List ℕ) (o : Option Expression) → IfSome o IsExpression → IfOk (told path o) IsExpression
told-formed path None h = tt
told-formed path (Some x) h = h

expression-formed : (path : List ℕ) (d : Data) → IfOk (expression path d) IsExpression
expression-formed path d = then-if IsExpression (object_at path d) _ (λ e _. told-formed path (expression_in e) (expression_in-formed e))

-- ---- label selectors

abbrev IsSelector : LabelSelector → Type 0
IsSelector s = is_formed_selector s ≡ true

pairs_at-formed : (path k : List ℕ) (d : Data) → IfOk (defaulted [] match_labels path k d) ArePairs
unfolding defaulted
pairs_at-formed path k d = at_member-if ArePairs (Ok []) (match_labels (member_path path k)) (field k d) refl (match_labels-formed (member_path path k))

selector_fields-formed : (path : List ℕ) (d : Data) → IfOk (selector_fields path d) IsSelector
unfolding selector_fields
selector_fields-formed path d =
    then-if IsSelector (defaulted [] match_labels path (codes "matchLabels") d) _ (λ pairs pairs_read.
    then-if IsSelector (items expression path (codes "matchExpressions") d) _ (λ expressions expressions_read.
    both (list_all is_formed_pair pairs) (list_all is_formed_expression expressions)
    (read-if ArePairs (defaulted [] match_labels path (codes "matchLabels") d) pairs (pairs_at-formed path (codes "matchLabels") d) pairs_read)
    (read-if (λ (xs : List Expression). list_all is_formed_expression xs ≡ true) (items expression path (codes "matchExpressions") d) expressions (items-each is_formed_expression expression expression-formed path (codes "matchExpressions") d) expressions_read)))

label_selector-formed : (path : List ℕ) (d : Data) → IfOk (label_selector path d) IsSelector
unfolding label_selector
label_selector-formed path d = then-if IsSelector (object_at path d) _ (λ o _. selector_fields-formed path o)

abbrev IsPart : Option LabelSelector → Type 0
IsPart o = is_formed_part o ≡ true

part-formed : (path k : List ℕ) (d : Data) → IfOk (optional label_selector path k d) IsPart
unfolding optional
part-formed path k d =
    at_member-if IsPart (Ok None) (λ v. label_selector (member_path path k) v >>= λ s. Ok (Some s)) (field k d) refl
    (λ v. then-if IsPart (label_selector (member_path path k) v) _ (λ s is. read-if IsSelector (label_selector (member_path path k) v) s (label_selector-formed (member_path path k) v) is))

-- ---- peers

abbrev IsPeer : Peer → Type 0
IsPeer p = is_formed_peer p ≡ true

pods_peer-formed : (path : List ℕ) (d : Data) → IfOk (pods_peer path d) IsPeer
unfolding pods_peer
pods_peer-formed path d =
    then-if IsPeer (optional label_selector path (codes "podSelector") d) _ (λ pods pods_read.
    then-if IsPeer (optional label_selector path (codes "namespaceSelector") d) _ (λ namespaces namespaces_read.
    both (is_formed_part pods) (is_formed_part namespaces)
    (read-if IsPart (optional label_selector path (codes "podSelector") d) pods (part-formed path (codes "podSelector") d) pods_read)
    (read-if IsPart (optional label_selector path (codes "namespaceSelector") d) namespaces (part-formed path (codes "namespaceSelector") d) namespaces_read)))

block_peer-formed : (path : List ℕ) (d : Data) → IfOk (block_peer path d) IsPeer
unfolding block_peer
block_peer-formed path d = then-if IsPeer (required ip_block path (codes "ipBlock") d) _ (λ block _. refl)

peer_by-formed : (a b : Bool) (path : List ℕ) (d : Data) → IfOk (peer_by a b path d) IsPeer
peer_by-formed true true path d = tt
peer_by-formed true false path d = pods_peer-formed path d
peer_by-formed false true path d = block_peer-formed path d
peer_by-formed false false path d = tt

peer-formed : (path : List ℕ) (d : Data) → IfOk (peer path d) IsPeer
unfolding peer
peer-formed path d = then-if IsPeer (object_at path d) _ (λ o _. peer_by-formed _ _ path o)

-- ---- entries

abbrev IsSpec : PortSpec → Type 0
IsSpec x = is_formed_spec (Some x) ≡ true

entry_port-formed : (path : List ℕ) (d : Data) → IfOk (entry_port path d) IsSpec
entry_port-formed path d =
    elim (as_str d) as (λ o. IfOk (elim o [ None ↦ formed path (numbered d) | Some s ↦ named path s ]) IsSpec) [
      | None ↦ formed-if IsSpec path (numbered d) (numbered-formed (whole_in 1 65535 d))
      | Some s ↦ choice-if IsSpec (is_port_name s) (Named s) (BadField path) (λ e. e)
    ]
  where
    numbered-formed : (o : Option ℕ) → IfSome (option_map (λ n. Number (range n n)) o) IsSpec
    numbered-formed None = tt
    numbered-formed (Some n) = refl

abbrev IsGivenSpec : Option PortSpec → Type 0
IsGivenSpec o = is_formed_spec o ≡ true

port_at-formed : (path k : List ℕ) (d : Data) → IfOk (optional entry_port path k d) IsGivenSpec
unfolding optional
port_at-formed path k d =
    at_member-if IsGivenSpec (Ok None) (λ v. entry_port (member_path path k) v >>= λ x. Ok (Some x)) (field k d) refl
    (λ v. then-if IsGivenSpec (entry_port (member_path path k) v) _ (λ x is. read-if IsSpec (entry_port (member_path path k) v) x (entry_port-formed (member_path path k) v) is))

-- an end gives a range
ranged-formed : (port : Option PortSpec) (d : Data) → IfSome (ranged port d) IsSpec
ranged-formed None d = tt
ranged-formed (Some (Number first)) d = by (range_from first.low d)
  where
    by : (o : Option PortRange) → IfSome (option_map Number o) IsSpec
    by None = tt
    by (Some r) = refl
ranged-formed (Some (Named name)) d = tt

ended-formed : (path : List ℕ) (o : Option PortSpec) → IfSome o IsSpec → IfOk (ended path o) IsGivenSpec
ended-formed path None h = tt
ended-formed path (Some x) h = h

entry_end-formed : (path : List ℕ) (port : Option PortSpec) (d : Data) → IsGivenSpec port → IfOk (entry_end path port d) IsGivenSpec
entry_end-formed path port d h =
    at_member-if IsGivenSpec (Ok port) (λ v. ended path (ranged port v)) (field (codes "endPort") d) h (λ v. ended-formed path (ranged port v) (ranged-formed port v))

abbrev IsEntry : PortEntry → Type 0
IsEntry e = is_formed_entry e ≡ true

entry_fields-formed : (path : List ℕ) (d : Data) → IfOk (entry_fields path d) IsEntry
unfolding entry_fields
entry_fields-formed path d =
    then-if IsEntry (defaulted Tcp protocol path (codes "protocol") d) _ (λ proto _.
    then-if IsEntry (optional entry_port path (codes "port") d) _ (λ first first_read.
    then-if IsEntry (entry_end (member_path path (codes "endPort")) first d) _ (λ port port_read.
    read-if IsGivenSpec (entry_end (member_path path (codes "endPort")) first d) port
    (entry_end-formed (member_path path (codes "endPort")) first d (read-if IsGivenSpec (optional entry_port path (codes "port") d) first (port_at-formed path (codes "port") d) first_read)) port_read)))

port_entry-formed : (path : List ℕ) (d : Data) → IfOk (port_entry path d) IsEntry
unfolding port_entry
port_entry-formed path d = then-if IsEntry (object_at path d) _ (λ o _. entry_fields-formed path o)

-- ---- rules and policies

abbrev IsRule : PolicyRule → Type 0
IsRule r = is_formed_rule r ≡ true

rule_fields-formed : (direction : PolicyType) (path : List ℕ) (d : Data) → IfOk (rule_fields direction path d) IsRule
unfolding rule_fields
rule_fields-formed direction path d =
    then-if IsRule (items peer path (peers_key direction) d) _ (λ peers peers_read.
    then-if IsRule (items port_entry path (codes "ports") d) _ (λ ports ports_read.
    both (list_all is_formed_peer peers) (list_all is_formed_entry ports)
    (read-if (λ (ps : List Peer). list_all is_formed_peer ps ≡ true) (items peer path (peers_key direction) d) peers (items-each is_formed_peer peer peer-formed path (peers_key direction) d) peers_read)
    (read-if (λ (es : List PortEntry). list_all is_formed_entry es ≡ true) (items port_entry path (codes "ports") d) ports (items-each is_formed_entry port_entry port_entry-formed path (codes "ports") d) ports_read)))

policy_rule-formed : (direction : PolicyType) (path : List ℕ) (d : Data) → IfOk (policy_rule direction path d) IsRule
unfolding policy_rule
policy_rule-formed direction path d = then-if IsRule (object_at path d) _ (λ o _. rule_fields-formed direction path o)

pods_at-formed : (path k : List ℕ) (d : Data) → IfOk (defaulted any_labels label_selector path k d) IsSelector
unfolding defaulted
pods_at-formed path k d = at_member-if IsSelector (Ok any_labels) (label_selector (member_path path k)) (field k d) refl (label_selector-formed (member_path path k))

abbrev AreRules : List PolicyRule → Type 0
AreRules rs = list_all is_formed_rule rs ≡ true

rules_at-formed : (direction : PolicyType) (path : List ℕ) (d : Data) → IfOk (rules_at direction path d) AreRules
rules_at-formed direction path d = items-each is_formed_rule (policy_rule direction) (policy_rule-formed direction) path _ d

with_rules-formed : (pods : LabelSelector) → IsSelector pods → (path : List ℕ) (d : Data) → IfOk (with_rules pods path d) IsFormedPolicy
unfolding with_rules policy_of
with_rules-formed pods formed path d =
    then-if IsFormedPolicy (items policy_type path (codes "policyTypes") d) _ (λ types _.
    then-if IsFormedPolicy (rules_at Ingress path d) _ (λ ingress ingress_read.
    then-if IsFormedPolicy (rules_at Egress path d) _ (λ egress egress_read. (
      formed,
      (
        read-if AreRules (rules_at Ingress path d) ingress (rules_at-formed Ingress path d) ingress_read,
        read-if AreRules (rules_at Egress path d) egress (rules_at-formed Egress path d) egress_read,
      ),
    ))))

network_policy-formed : (path : List ℕ) (d : Data) → IfOk (network_policy path d) IsFormedPolicy
unfolding network_policy
network_policy-formed path d =
    then-if IsFormedPolicy (selected_at path d) _ (λ pods pods_read.
    with_rules-formed pods (read-if IsSelector (selected_at path d) pods (pods_at-formed path (codes "podSelector") d) pods_read) path d)

pub policy_in-formed : (d : Data) → IfOk (policy_in d) IsFormedPolicy
unfolding policy_in
policy_in-formed d = then-if IsFormedPolicy (section (codes "spec") (codes "spec") d) _ (λ spec _. network_policy-formed (codes "spec") spec)
