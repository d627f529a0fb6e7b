-- A label selector, as Kubernetes' API reference has it (`meta/v1` LabelSelector): `matchLabels` is an object of labels, and
-- `matchExpressions` a list of requirements with a `key`, an `operator` and `values`. Keys are those of Calico's selectors
-- (`projectcalico.org/v3`, "Selectors"), and values as Kubernetes has them. Members that aren't named here are ignored.
use Rattle.std.specs.Prelude.{ℕ, List, [], ◌∷◌, ◌++◌, length, Bool, not, ◌&&◌, nat_le, if◌then◌else◌, Option, Some, None, option_and_then, Result, Ok, Err, codes}
use Rattle.std.specs.Str.{bytes_eq}
use Rattle.serde_json.specs.Data.{Data, null, boolean, number, string, array, object, Items, no_items, item, Members, no_members, member}
use Rattle.serde_json.specs.Find.{as_str, as_array, as_object}
use Rattle.fx_base.specs.Given.{is_given}
use Rattle.fx_selector.specs.Formed.{is_key_text}
use Rattle.fx_fields.specs.declared.fault.ReadFault.{ReadFault}
use Rattle.fx_fields.specs.declared.fault.ReadFault.TheVariants.{BadExpression}
use Rattle.fx_k8s.specs.declared.label_selectors.LabelPair.{LabelPair}
use Rattle.fx_k8s.specs.declared.label_selectors.LabelSelector.{LabelSelector}
use Rattle.fx_k8s.specs.declared.expressions.Expression.{Expression}
use Rattle.fx_k8s.specs.declared.expressions.Expression.TheVariants.{In, NotIn, Exists, DoesNotExist}
use Rattle.fx_fields.specs.Fields.{◌>>=◌, Reader, field, formed, defaulted, object_at, items}
use Rattle.fx_fields.specs.Forms.{is_label_value, passing}
use Rattle.fx_fields.specs.Kinds.{text_at}

-- ---- labels

-- one byte or more of `[A-Za-z0-9_./-]`, and at most 512
abbrev pub is_label_key : List ℕ → Bool
is_label_key s = nat_le (length s) 512 && is_key_text s

abbrev pub is_pair : List ℕ → List ℕ → Bool
is_pair k v = is_label_key k && is_label_value v

abbrev pub pair : List ℕ → List ℕ → LabelPair
pair k v = record { key = k; value = v }

-- one label more, whose value is a text; a member that is null counts as absent
abbrev pub with_pair : List ℕ → Data → List LabelPair → Option (List LabelPair)
with_pair k null ps = Some ps
with_pair k (boolean b) ps = None
with_pair k (number n) ps = None
with_pair k (string v) ps = if is_pair k v then Some (ps ++ pair k v ∷ []) else None
with_pair k (array ds) ps = None
with_pair k (object ms) ps = None

-- these members as labels, behind those that are there; an object has its members by the bytes of their keys
abbrev pub pairs_from : Members → List LabelPair → Option (List LabelPair)
pairs_from no_members ps = Some ps
pairs_from (member k d ms) ps = option_and_then (pairs_from ms) (with_pair k d ps)

abbrev pub pairs_in : Data → Option (List LabelPair)
pairs_in d = option_and_then (λ ms. pairs_from ms []) (as_object d)

abbrev pub match_labels : Reader (List LabelPair)
match_labels path d = formed path (pairs_in d)

-- ---- expressions

abbrev pub key_at : Data → Option (List ℕ)
key_at d = passing is_label_key (text_at (codes "key") d)

abbrev pub value_in : Data → Option (List ℕ)
value_in d = passing is_label_value (as_str d)

-- these items as values, behind those that are there
abbrev pub values_from : Items → List (List ℕ) → Option (List (List ℕ))
values_from no_items vs = Some vs
values_from (item d ds) vs = option_and_then (λ v. values_from ds (vs ++ v ∷ [])) (value_in d)

-- the values that are listed, none where the list is absent
abbrev pub values_at : Data → Option (List (List ℕ))
values_at d = of_member (field (codes "values") d)
  where
    of_member : Option Data → Option (List (List ℕ))
    of_member None = Some []
    of_member (Some v) = option_and_then (λ ds. values_from ds []) (as_array v)

abbrev pub when : Bool → Expression → Option Expression
when right x = if right then Some x else None

-- `In` and `NotIn` need values, and `Exists` and `DoesNotExist` have none
abbrev pub expression_named : List ℕ → List ℕ → List (List ℕ) → Option Expression
expression_named operator k vs =
    if bytes_eq operator (codes "In") then when (is_given vs) (In k vs)
    else (if bytes_eq operator (codes "NotIn") then when (is_given vs) (NotIn k vs)
    else (if bytes_eq operator (codes "Exists") then when (not (is_given vs)) (Exists k)
    else (if bytes_eq operator (codes "DoesNotExist") then when (not (is_given vs)) (DoesNotExist k) else None)))

abbrev pub expression_in : Data → Option Expression
expression_in d =
    option_and_then (λ k. option_and_then (λ vs. option_and_then (λ operator. expression_named operator k vs) (text_at (codes "operator") d)) (values_at d)) (key_at d)

-- whatever is wrong in an expression, the fault is the expression's
abbrev pub told : List ℕ → Option Expression → Result Expression ReadFault
told path None = Err (BadExpression path)
told path (Some x) = Ok x

abbrev pub expression : Reader Expression
expression path d = object_at path d >>= λ e. told path (expression_in e)

-- ---- both

unfoldable pub selector_fields : Reader LabelSelector
selector_fields path d = do
  pairs ← defaulted [] match_labels path (codes "matchLabels") d
  expressions ← items expression path (codes "matchExpressions") d
  Ok (record { labels = pairs; expressions = expressions })

unfoldable pub label_selector : Reader LabelSelector
label_selector path d = object_at path d >>= selector_fields path

-- a selector that asks nothing
abbrev pub any_labels : LabelSelector
any_labels = record { labels = []; expressions = [] }
