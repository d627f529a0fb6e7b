-- A side that is read beside a service asks for no selector and no ports, and the service is one of a namespace.
use Rattle.std.proofs.Common.{◌≡◌, ℕ, List, [], ◌∷◌, true, ◌&&◌, Option, Some, None, Result, Ok, Err, IfOk, refl, sym, subst, arith}
use Rattle.std.specs.Prelude.{codes, if◌then◌else◌}
use Rattle.std.specs.Ordering.{nat_cmp, match_ordering}
use Rattle.std.specs.declared.cmp.Ordering.{Ordering}
use Rattle.std.specs.declared.cmp.Ordering.TheVariants.{Less, Equal, Greater}
use Rattle.std.specs.Cmp.Lexicographic.{slice_cmp}
use Rattle.std.proofs.lemmas.Bool.{eqb-true}
use Rattle.serde_json.specs.Data.{Data, null, boolean, number, string, array, object, Items, no_items, item as cons_item, Members, no_members, member}
use Rattle.serde_json.specs.Find.{get_member, as_array}
use Rattle.fx_base.specs.declared.net.Proto.{Proto}
use Rattle.fx_selector.specs.Tree.{Tree}
use Rattle.fx_model.specs.declared.rules.PortSpec.{PortSpec}
use Rattle.fx_fields.specs.declared.fault.ReadFault.{ReadFault}
use Rattle.fx_fields.specs.declared.fault.ReadFault.TheVariants.{BadField}
use Rattle.fx_fields.specs.declared.names.NamespacedName.{NamespacedName}
use Rattle.fx_fields.specs.declared.rule_form.RuleForm.{RuleForm}
use Rattle.fx_fields.specs.declared.rule_form.RulePlace.{RulePlace}
use Rattle.fx_fields.specs.declared.side_selectors.SideSelectors.{SideSelectors}
use Rattle.fx_fields.specs.declared.texts.TextForm.TheVariants.{Name, Namespace}
use Rattle.fx_fields.specs.Forms.{is_name, is_namespace, text}
use Rattle.fx_fields.specs.Paths.{member_path}
use Rattle.fx_fields.specs.Fields.{◌>>=◌, Reader, present, field, is_object, member_count, formed, required, defaulted, optional, object_at, section, list_at, items}
use Rattle.fx_fields.specs.Nets.{nets_of}
use Rattle.fx_fields.specs.Selectors.{selector, selector_at}
use Rattle.fx_fields.specs.SideSelectors.{accounts_in, accounts_at, with_namespaces, asked_by, side_selectors}
use Rattle.fx_fields.proofs.Readings.{then-if, read-if, at_member-if, required-if, choice-if, both, first_of, second_of, text-formed}
use Rattle.fx_json.specs.declared.sides.ReadSide.{ReadSide}
use Rattle.fx_json.specs.declared.sides.ReadPorts.{ReadPorts}
use Rattle.fx_json.specs.Sides.{ports_in, ports_at, ports_of, services_at, side}
use Rattle.fx_services.specs.Lowerable.{is_service, asks_nothing}
use Rattle.fx_services.proofs.LowSides.{asked_earlier}
use Rattle.fx_services.specs.Services.{is_empty, is_empty_at, asks_no_addresses, asks_no_selector, stands_alone, alone, namespace_of, service_fields, asked_service, service_at}

-- ---- empty members

-- an object without members has none of any name
nothing-there : (ms : Members) (k : List ℕ) → member_count ms ≡ 0 → present (get_member k ms) ≡ None
nothing-there no_members k e = refl
nothing-there (member l null ms) k e = by (slice_cmp nat_cmp k l) (nothing-there ms k (omega (arith, e)))
  where
    by : (o : Ordering) → present (get_member k ms) ≡ None → present (match_ordering o (get_member k ms) (Some null) (get_member k ms)) ≡ None
    by Less rest = rest
    by Equal rest = refl
    by Greater rest = rest
nothing-there (member l (boolean b) ms) k e = absurd (omega (arith, e))
nothing-there (member l (number n) ms) k e = absurd (omega (arith, e))
nothing-there (member l (string s) ms) k e = absurd (omega (arith, e))
nothing-there (member l (array ds) ms) k e = absurd (omega (arith, e))
nothing-there (member l (object ns) ms) k e = absurd (omega (arith, e))

no-member : (ms : Members) (k : List ℕ) → is_empty (object ms) ≡ true → field k (object ms) ≡ None
no-member ms k e = nothing-there ms k (eqb-true (member_count ms) 0 e)

abbrev IsNoItems : Items → Type 0
IsNoItems ds = ds ≡ no_items

empty-list : (path k : List ℕ) (d : Data) → is_empty_at k d ≡ true → IfOk (list_at path k d) IsNoItems
unfolding list_at defaulted
empty-list path k d e = by (field k d) e
  where
    by : (o : Option Data) → elim o [ None ↦ true | Some v ↦ is_empty v ] ≡ true → IfOk (elim o [ None ↦ Ok no_items | Some v ↦ formed (member_path path k) (as_array v) ]) IsNoItems
    by None h = refl
    by (Some null) h = tt
    by (Some (boolean b)) h = tt
    by (Some (number n)) h = tt
    by (Some (string s)) h = tt
    by (Some (array no_items)) h = refl
    by (Some (array (cons_item v vs))) h = cc
    by (Some (object ms)) h = tt

-- ---- ports

abbrev AreNoPorts : List PortSpec → Type 0
AreNoPorts ports = ports ≡ []

empty-ports : (proto : Option Proto) (path k : List ℕ) (d : Data) → is_empty_at k d ≡ true → IfOk (ports_at proto path k d) AreNoPorts
unfolding ports_at
empty-ports proto path k d e =
    then-if AreNoPorts (list_at path k d) _ (λ ds is.
    let none : ds ≡ no_items = read-if IsNoItems (list_at path k d) ds (empty-list path k d e) is in
    let P : Items → Type 0 = λ es. IfOk (ports_in proto (member_path path k) es) AreNoPorts in
    subst P (sym none) refl)

abbrev ListsNone : ReadPorts → Type 0
ListsNone p = (p.ports ≡ []) × (p.not_ports ≡ [])

alone-ports : (proto : Option Proto) (path : List ℕ) (d : Data) → is_empty_at (codes "ports") d ≡ true → is_empty_at (codes "notPorts") d ≡ true → IfOk (ports_of proto path d) ListsNone
unfolding ports_of
alone-ports proto path d e f =
    then-if ListsNone (ports_at proto path (codes "ports") d) _ (λ ports ports_read.
    then-if ListsNone (ports_at proto path (codes "notPorts") d) _ (λ not_ports not_ports_read. (
      read-if AreNoPorts (ports_at proto path (codes "ports") d) ports (empty-ports proto path (codes "ports") d e) ports_read,
      read-if AreNoPorts (ports_at proto path (codes "notPorts") d) not_ports (empty-ports proto path (codes "notPorts") d f) not_ports_read,
    )))

-- ---- selectors

abbrev IsNoTree : Option Tree → Type 0
IsNoTree t = t ≡ None

empty-selector : (path k : List ℕ) (d : Data) → is_empty_at k d ≡ true → IfOk (selector_at path k d) IsNoTree
unfolding selector_at defaulted
empty-selector path k d e = by (field k d) e
  where
    by : (o : Option Data) → elim o [ None ↦ true | Some v ↦ is_empty v ] ≡ true → IfOk (elim o [ None ↦ Ok None | Some v ↦ selector (member_path path k) v ]) IsNoTree
    by None h = refl
    by (Some null) h = tt
    by (Some (boolean b)) h = tt
    by (Some (number n)) h = tt
    by (Some (string [])) h = refl
    by (Some (string (b ∷ s))) h = cc
    by (Some (array ds)) h = tt
    by (Some (object ms)) h = tt

-- what holds of what is read, told by the reading
pub read_as : {A : Type 0} (answer : Result A ReadFault) (P : A → Type 0) (x : A) → IfOk answer P → answer ≡ Ok x → P x
read_as answer P x = read-if P answer x

absent-items : {A : Type 0} (read : Reader A) (path k : List ℕ) (d : Data) → field k d ≡ None → items read path k d ≡ Ok []
unfolding items list_at defaulted
absent-items read path k d e = rw e refl

absent-selector : (path k : List ℕ) (d : Data) → field k d ≡ None → selector_at path k d ≡ Ok None
unfolding selector_at defaulted
absent-selector path k d e = rw e refl

-- an object without the members that are read
without-members : (path : List ℕ) (d : Data) → field (codes "names") d ≡ None → field (codes "selector") d ≡ None → IfOk (accounts_in path d) (λ a. (a.names ≡ []) × (a.chosen ≡ None))
unfolding accounts_in
without-members path d e f =
    rw (absent-items (text Name) path (codes "names") d e, absent-selector path (codes "selector") d f) (refl, refl)

empty-accounts : (path : List ℕ) (d : Data) → is_empty_at (codes "serviceAccounts") d ≡ true → IfOk (accounts_at path d) (λ a. (a.names ≡ []) × (a.chosen ≡ None))
unfolding accounts_at section object_at
empty-accounts path d e = by (field (codes "serviceAccounts") d) e
  where
    here : List ℕ
    here = member_path path (codes "serviceAccounts")

    by : (o : Option Data) → elim o [ None ↦ true | Some v ↦ is_empty v ] ≡ true → IfOk (elim o [ None ↦ Ok null | Some v ↦ formed here (if is_object v then Some v else None) ] >>= accounts_in here) (λ a. (a.names ≡ []) × (a.chosen ≡ None))
    by None h = without-members here null refl refl
    by (Some null) h = tt
    by (Some (boolean b)) h = tt
    by (Some (number n)) h = tt
    by (Some (string s)) h = tt
    by (Some (array ds)) h = tt
    by (Some (object ms)) h = without-members here (object ms) (no-member ms (codes "names") h) (no-member ms (codes "selector") h)

abbrev IsUnasked : SideSelectors → Type 0
IsUnasked s = s.selector ≡ None

-- where no part is given nothing is asked
unasked : (place : RulePlace) (own : Option Tree) (names : List (List ℕ)) (chosen namespaces : Option Tree) → own ≡ None → names ≡ [] → chosen ≡ None → namespaces ≡ None → asked_by (with_namespaces place namespaces (asked_earlier own names chosen)) ≡ None
unasked place own names chosen namespaces o a b n = (λ i. asked_by (with_namespaces place (n i) (asked_earlier (o i) (a i) (b i))))

alone-selectors : (place : RulePlace) (path : List ℕ) (d : Data) → asks_no_selector d ≡ true → IfOk (side_selectors place path d) IsUnasked
unfolding side_selectors asks_no_selector
alone-selectors place path d e =
    let own_empty = is_empty_at (codes "selector") d in
    let not_empty = is_empty_at (codes "notSelector") d in
    let namespaces_empty = is_empty_at (codes "namespaceSelector") d in
    let accounts_empty = is_empty_at (codes "serviceAccounts") d in
    let last = second_of not_empty (namespaces_empty && accounts_empty) (second_of own_empty (not_empty && (namespaces_empty && accounts_empty)) e) in
    then-if IsUnasked (selector_at path (codes "selector") d) _ (λ own own_read.
    then-if IsUnasked (selector_at path (codes "notSelector") d) _ (λ not_own _.
    then-if IsUnasked (selector_at path (codes "namespaceSelector") d) _ (λ namespaces namespaces_read.
    then-if IsUnasked (accounts_at path d) _ (λ accounts accounts_read.
    let nobody = read_as (accounts_at path d) (λ a. (a.names ≡ []) × (a.chosen ≡ None)) accounts (empty-accounts path d (second_of namespaces_empty accounts_empty last)) accounts_read in
    unasked place own accounts.names accounts.chosen namespaces
    (read-if IsNoTree (selector_at path (codes "selector") d) own (empty-selector path (codes "selector") d (first_of own_empty (not_empty && (namespaces_empty && accounts_empty)) e)) own_read)
    nobody.0 nobody.1
    (read-if IsNoTree (selector_at path (codes "namespaceSelector") d) namespaces (empty-selector path (codes "namespaceSelector") d (first_of namespaces_empty accounts_empty last)) namespaces_read)))))

-- ---- sides

abbrev pub AsksNothing : ReadSide → Type 0
AsksNothing s = asks_nothing s.side ≡ true

pub alone-side : (form : RuleForm) (proto : Option Proto) (path : List ℕ) (d : Data) → stands_alone d ≡ true → IfOk (side form proto path d) AsksNothing
unfolding side asks_no_addresses
alone-side form proto path d e =
    let nets_empty = is_empty_at (codes "nets") d in
    let not_nets_empty = is_empty_at (codes "notNets") d in
    let ports_empty = is_empty_at (codes "ports") d in
    let not_ports_empty = is_empty_at (codes "notPorts") d in
    let addresses = first_of (asks_no_addresses d) (asks_no_selector d) e in
    let last = second_of not_nets_empty (ports_empty && not_ports_empty) (second_of nets_empty (not_nets_empty && (ports_empty && not_ports_empty)) addresses) in
    then-if AsksNothing (nets_of path d) _ (λ nets _.
    then-if AsksNothing (side_selectors form.place path d) _ (λ chosen chosen_read.
    then-if AsksNothing (ports_of proto path d) _ (λ ports ports_read.
    then-if AsksNothing (services_at form.services path d) _ (λ passed _.
    let s : chosen.selector ≡ None = read-if IsUnasked (side_selectors form.place path d) chosen (alone-selectors form.place path d (second_of (asks_no_addresses d) (asks_no_selector d) e)) chosen_read in
    let p : ListsNone ports = read-if ListsNone (ports_of proto path d) ports (alone-ports proto path d (first_of ports_empty not_ports_empty last) (second_of ports_empty not_ports_empty last)) ports_read in
    rw (s, p.0, p.1) refl))))

-- ---- services

-- the namespace of a policy, if it is of one
abbrev pub IsOwn : Option (List ℕ) → Type 0
IsOwn None = Unit {0}
IsOwn (Some ns) = is_namespace ns ≡ true

abbrev IsService : NamespacedName → Type 0
IsService v = is_service v ≡ true

abbrev AreOfNamespace : List ℕ → Type 0
AreOfNamespace s = is_namespace s ≡ true

namespace_of-if : (own : Option (List ℕ)) → IsOwn own → (path : List ℕ) (d : Data) → IfOk (namespace_of own path d) AreOfNamespace
unfolding defaulted
namespace_of-if None h path d = required-if AreOfNamespace (text Namespace) (text-formed Namespace) path (codes "namespace") d
namespace_of-if (Some ns) h path d =
    at_member-if AreOfNamespace (Ok ns) (text Namespace (member_path path (codes "namespace"))) (field (codes "namespace") d) h (text-formed Namespace (member_path path (codes "namespace")))

service_fields-if : (own : Option (List ℕ)) → IsOwn own → (path : List ℕ) (d : Data) → IfOk (service_fields own path d) IsService
unfolding service_fields
service_fields-if own h path d =
    then-if IsService (required (text Name) path (codes "name") d) _ (λ name name_read.
    then-if IsService (namespace_of own path d) _ (λ ns ns_read.
    both (is_namespace ns) (is_name name)
    (read-if AreOfNamespace (namespace_of own path d) ns (namespace_of-if own h path d) ns_read)
    (read-if (λ (s : List ℕ). is_name s ≡ true) (required (text Name) path (codes "name") d) name (required-if (λ s. is_name s ≡ true) (text Name) (text-formed Name) path (codes "name") d) name_read)))

-- a service that this side names
abbrev IsNamedBy : Data → NamespacedName → Type 0
IsNamedBy side v = (is_service v ≡ true) × (stands_alone side ≡ true)

asked_service-if : (own : Option (List ℕ)) → IsOwn own → (side : Data) (path : List ℕ) (d : Data) → IfOk (asked_service own side path d) (IsNamedBy side)
unfolding asked_service
asked_service-if own h side path d =
    then-if (IsNamedBy side) (object_at path d) _ (λ service _.
    then-if (IsNamedBy side) (alone path side) _ (λ x alone_read.
    let is_alone : stands_alone side ≡ true = read-if (λ _. stands_alone side ≡ true) (alone path side) x (choice-if (λ (y : Unit {0}). stands_alone side ≡ true) (stands_alone side) tt (BadField path) (λ e. e)) alone_read in
    named is_alone (service_fields own path service) (service_fields-if own h path service)))
  where
    named : stands_alone side ≡ true → (answer : Result NamespacedName ReadFault) → IfOk answer IsService → IfOk answer (IsNamedBy side)
    named is_alone (Ok v) is = (is, is_alone)
    named is_alone (Err fault) is = tt

abbrev pub IsGivenBy : Data → Option NamespacedName → Type 0
IsGivenBy side None = Unit {0}
IsGivenBy side (Some v) = IsNamedBy side v

pub service_at-if : (own : Option (List ℕ)) → IsOwn own → (path : List ℕ) (side : Data) → IfOk (service_at own path side) (IsGivenBy side)
unfolding service_at optional
service_at-if own h path side =
    at_member-if (IsGivenBy side) (Ok None) (λ v. asked_service own side (member_path path (codes "services")) v >>= λ x. Ok (Some x)) (field (codes "services") side) tt
    (λ v. then-if (IsGivenBy side) (asked_service own side (member_path path (codes "services")) v) _ (λ x is.
    read-if (IsNamedBy side) (asked_service own side (member_path path (codes "services")) v) x (asked_service-if own h side (member_path path (codes "services")) v) is))
