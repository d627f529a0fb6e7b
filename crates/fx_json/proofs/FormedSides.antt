-- Each side that is read is formed: it lists ports beside a protocol that has them alone, the names of its ports have no
-- comma, and its selectors are ones that some text spells.
use Rattle.std.proofs.Common.{◌≡◌, ℕ, List, nat_le, Bool, true, ◌&&◌, ◌||◌, Option, Some, None, Result, Ok, Err, IfOk, refl}
use Rattle.std.specs.Prelude.{codes, option_map}
use Rattle.std.specs.List.{list_all}
use Rattle.serde_json.specs.Data.{Data, null, boolean, number, string, array, object, Items, no_items, item as cons_item}
use Rattle.fx_base.specs.declared.net.Proto.{Proto}
use Rattle.fx_base.specs.Given.{is_given}
use Rattle.fx_base.specs.TextValues.{ports_of as port_ends}
use Rattle.std.proofs.lemmas.Bool.{le-leb}
use Rattle.fx_selector.specs.Formed.{is_tree}
use Rattle.fx_selector.specs.Tree.{Tree, height}
use Rattle.fx_selector.proofs.FormedTrees.{tree_tested}
use Rattle.fx_model.specs.declared.rules.PortSpec.{PortSpec}
use Rattle.fx_model.specs.declared.rules.PortSpec.TheVariants.{Number, Named}
use Rattle.fx_model.specs.Formed.{implies, has_port_protocol, is_formed_port, is_formed_selector, is_formed_side}
use Rattle.fx_fields.specs.declared.fault.ReadFault.{ReadFault}
use Rattle.fx_fields.specs.declared.fault.ReadFault.TheVariants.{BadField, PortsWithoutProtocol}
use Rattle.fx_fields.specs.declared.rule_form.RuleForm.{RuleForm}
use Rattle.fx_fields.specs.declared.rule_form.RulePlace.{RulePlace}
use Rattle.fx_fields.specs.declared.side_selectors.SideSelectors.{SideSelectors}
use Rattle.fx_fields.specs.Forms.{is_port_name}
use Rattle.fx_fields.specs.Paths.{member_path}
use Rattle.fx_fields.specs.Fields.{formed, items_from, list_at}
use Rattle.fx_fields.specs.Values.{whole_in, range}
use Rattle.fx_fields.specs.Nets.{nets_of}
use Rattle.fx_fields.specs.SideSelectors.{side_selectors}
use Rattle.fx_fields.proofs.Readings.{then-if, read-if, choice-if, both, items_from-each, weaker-if}
use Rattle.fx_fields.proofs.SideTrees.{IsTreeOf, IsPlace, AreTreesOf, side_selectors-trees}
use Rattle.fx_json.specs.declared.sides.ReadSide.{ReadSide}
use Rattle.fx_json.specs.declared.sides.ReadPorts.{ReadPorts}
use Rattle.fx_json.specs.Ports.{port_of_text, port}
use Rattle.fx_json.specs.Sides.{with_ports, ports_in, ports_at, ports_of, services_at, side}
use Rattle.fx_json.proofs.Implied.{implied, implies_either}
use Rattle.fx_json.proofs.FormedNames.{port_name-formed}

-- ---- one port

abbrev IsFormedPort : PortSpec → Type 0
IsFormedPort p = is_formed_port p ≡ true

port_of_text-formed : (path s : List ℕ) (o : Option (ℕ × ℕ)) → IfOk (port_of_text path s o) IsFormedPort
port_of_text-formed path s (Some ends) = refl
port_of_text-formed path s None = choice-if IsFormedPort (is_port_name s) (Named s) (BadField path) (port_name-formed s)

numbered : (path : List ℕ) (o : Option ℕ) → IfOk (formed path (option_map (λ n. Number (range n n)) o)) IsFormedPort
numbered path None = tt
numbered path (Some n) = refl

port-formed : (path : List ℕ) (d : Data) → IfOk (port path d) IsFormedPort
port-formed path null = numbered path (whole_in 0 65535 null)
port-formed path (boolean b) = numbered path (whole_in 0 65535 (boolean b))
port-formed path (number n) = numbered path (whole_in 0 65535 (number n))
port-formed path (string s) = port_of_text-formed path s (port_ends s)
port-formed path (array ds) = numbered path (whole_in 0 65535 (array ds))
port-formed path (object ms) = numbered path (whole_in 0 65535 (object ms))

-- ---- ports

-- ports stand beside a protocol that has them
with_ports-has : (proto : Option Proto) (path : List ℕ) → IfOk (with_ports proto path) (λ _. has_port_protocol proto ≡ true)
with_ports-has proto path = choice-if (λ (x : Unit {0}). has_port_protocol proto ≡ true) (has_port_protocol proto) tt (PortsWithoutProtocol path) (λ e. e)

abbrev AreFormedPorts : Option Proto → List PortSpec → Type 0
AreFormedPorts proto ports = (implies (is_given ports) (has_port_protocol proto) ≡ true) × (list_all is_formed_port ports ≡ true)

ports_in-formed : (proto : Option Proto) (path : List ℕ) (ds : Items) → IfOk (ports_in proto path ds) (AreFormedPorts proto)
ports_in-formed proto path no_items = (refl, refl)
ports_in-formed proto path (cons_item d ds) =
    then-if (AreFormedPorts proto) (with_ports proto path) _ (λ x is.
    with_protocol (items_from port path 0 (cons_item d ds)) (read-if (λ _. has_port_protocol proto ≡ true) (with_ports proto path) x (with_ports-has proto path) is)
    (items_from-each is_formed_port port port-formed path 0 (cons_item d ds)))
  where
    with_protocol : (answer : Result (List PortSpec) ReadFault) → has_port_protocol proto ≡ true → IfOk answer (λ ports. list_all is_formed_port ports ≡ true) → IfOk answer (AreFormedPorts proto)
    with_protocol (Ok ports) has all_formed = (implied (is_given ports) (has_port_protocol proto) has, all_formed)
    with_protocol (Err fault) has all_formed = tt

ports_at-formed : (proto : Option Proto) (path k : List ℕ) (d : Data) → IfOk (ports_at proto path k d) (AreFormedPorts proto)
unfolding ports_at
ports_at-formed proto path k d =
    then-if (AreFormedPorts proto) (list_at path k d) _ (λ ds is. ports_in-formed proto (member_path path k) ds)

abbrev ArePortsOf : Option Proto → ReadPorts → Type 0
ArePortsOf proto p =
    (implies (is_given p.ports || is_given p.not_ports) (has_port_protocol proto) ≡ true) × ((list_all is_formed_port p.ports && list_all is_formed_port p.not_ports) ≡ true)

ports_of-formed : (proto : Option Proto) (path : List ℕ) (d : Data) → IfOk (ports_of proto path d) (ArePortsOf proto)
unfolding ports_of
ports_of-formed proto path d =
    then-if (ArePortsOf proto) (ports_at proto path (codes "ports") d) _ (λ ports ports_read.
    then-if (ArePortsOf proto) (ports_at proto path (codes "notPorts") d) _ (λ not_ports not_ports_read.
    let p : AreFormedPorts proto ports = read-if (AreFormedPorts proto) (ports_at proto path (codes "ports") d) ports (ports_at-formed proto path (codes "ports") d) ports_read in
    let n : AreFormedPorts proto not_ports = read-if (AreFormedPorts proto) (ports_at proto path (codes "notPorts") d) not_ports (ports_at-formed proto path (codes "notPorts") d) not_ports_read in
    (implies_either (is_given ports) (is_given not_ports) (has_port_protocol proto) p.0 n.0, both (list_all is_formed_port ports) (list_all is_formed_port not_ports) p.1 n.1)))

-- ---- selectors

part-tested : (part : Option Tree) → IsTreeOf part → is_formed_selector part ≡ true
part-tested None h = refl
part-tested (Some t) h = both (is_tree t) (nat_le (height t) 139) (tree_tested t h.0) (le-leb (height t) 139 h.1)

abbrev AreSelectors : SideSelectors → Type 0
AreSelectors s = (is_formed_selector s.selector && is_formed_selector s.not_selector) ≡ true

side_selectors-formed : (place : RulePlace) → IsPlace place → (path : List ℕ) (d : Data) → IfOk (side_selectors place path d) AreSelectors
side_selectors-formed place stands path d =
    weaker-if AreTreesOf AreSelectors (side_selectors place path d) (λ s is. both (is_formed_selector s.selector) (is_formed_selector s.not_selector) (part-tested s.selector is.0) (part-tested s.not_selector is.1)) (side_selectors-trees place stands path d)

-- ---- sides

abbrev pub lists : ReadSide → Bool
lists s = is_given s.side.ports || is_given s.side.not_ports

abbrev pub IsSideOf : Option Proto → ReadSide → Type 0
IsSideOf proto s = (implies (lists s) (has_port_protocol proto) ≡ true) × (is_formed_side s.side ≡ true)

pub side-formed : (form : RuleForm) → IsPlace form.place → (proto : Option Proto) (path : List ℕ) (d : Data) → IfOk (side form proto path d) (IsSideOf proto)
unfolding side
side-formed form stands proto path d =
    then-if (IsSideOf proto) (nets_of path d) _ (λ nets _.
    then-if (IsSideOf proto) (side_selectors form.place path d) _ (λ chosen chosen_read.
    then-if (IsSideOf proto) (ports_of proto path d) _ (λ ports ports_read.
    then-if (IsSideOf proto) (services_at form.services path d) _ (λ passed _.
    let p : ArePortsOf proto ports = read-if (ArePortsOf proto) (ports_of proto path d) ports (ports_of-formed proto path d) ports_read in
    let s : AreSelectors chosen = read-if AreSelectors (side_selectors form.place path d) chosen (side_selectors-formed form.place stands path d) chosen_read in
    (p.0, both (is_formed_selector chosen.selector && is_formed_selector chosen.not_selector) (list_all is_formed_port ports.ports && list_all is_formed_port ports.not_ports) s p.1)))))
