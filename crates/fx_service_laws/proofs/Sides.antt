-- What a side that may be lowered asks among the records is what it asks as it is written.
use Rattle.std.proofs.Common.{◌≡◌, ℕ, Bool, true, false, not, ◌&&◌, ◌||◌, List, [], ◌∷◌, Option, Some, None, refl, sym, ap, ◌∙◌}
use Rattle.std.specs.Prelude.{is_none, option_map}
use Rattle.std.specs.List.{list_all}
use Rattle.std.specs.Str.{bytes_eq}
use Rattle.fx_base.specs.Given.{is_given}
use Rattle.fx_base.specs.Same.{same_bytes}
use Rattle.fx_selector.specs.Tree.{Tree}
use Rattle.fx_model.specs.declared.chain.End.{End}
use Rattle.fx_model.specs.declared.packet.Packet.{Packet}
use Rattle.fx_model.specs.declared.resources.Resources.{Resources}
use Rattle.fx_model.specs.declared.rules.PortSpec.{PortSpec}
use Rattle.fx_model.specs.declared.rules.PortSpec.TheVariants.{Number, Named}
use Rattle.fx_model.specs.declared.rules.Side.{Side}
use Rattle.fx_model.specs.Criteria.{address_at, port_at, lies_in, lies_in_given}
use Rattle.fx_model.specs.Policy.{selects_address, selected_given, not_selected_given, named_port_holds, port_holds, some_port, some_port_given, side_matches}
use Rattle.fx_fields.specs.declared.names.NamespacedName.{NamespacedName}
use Rattle.fx_fields.proofs.Readings.{first_of, second_of}
use Rattle.fx_kube_laws.proofs.Lists.{any-same, tested, each}
use Rattle.fx_services.specs.Marks.{star}
use Rattle.fx_services.specs.Lowering.{plain_tree, plain_side, of_service, service_ports}
use Rattle.fx_services.specs.Lowerable.{is_low, is_other_port, is_lowerable_side, asks_nothing}
use Rattle.fx_services.specs.Written.{Written}
use Rattle.fx_services.specs.Standing.{StandsFor, IsSound}
use Rattle.fx_service_laws.proofs.Items.{selects-same, port-same}

none_there : {A : Type 0} (o : Option A) → is_none o ≡ true → o ≡ None
none_there None e = refl
none_there (Some x) e = cc

nothing_given : {A : Type 0} (xs : List A) → not (is_given xs) ≡ true → xs ≡ []
nothing_given [] e = refl
nothing_given (x ∷ xs) e = cc

-- another name than that of slices' ports
other_name : (name : List ℕ) → not (bytes_eq name star) ≡ true → bytes_eq star name ≡ false
other_name name e = by (bytes_eq star name) refl
  where
    by : (b : Bool) → bytes_eq star name ≡ b → b ≡ false
    by false t = refl
    by true t = (let same : star ≡ name = same_bytes star name t in let contrary : false ≡ true = ap (λ (n : List ℕ). not (bytes_eq n star)) same ∙ e in cc)

module _ (W : Written) (R : Resources) (stands : StandsFor W R) (sound : IsSound W) (end : End) (a : Packet) where
  abbrev x : ℕ
  x = address_at end a

  -- ---- selectors

  selected-same : (t : Option Tree) → selected_given R (option_map plain_tree t) x ≡ selected_given W.plain t x
  selected-same None = refl
  selected-same (Some t) = selects-same W R stands sound t x

  pub not_selected-same : (t : Option Tree) → not_selected_given R (option_map plain_tree t) x ≡ not_selected_given W.plain t x
  not_selected-same None = refl
  not_selected-same (Some t) = ap not (selects-same W R stands sound t x)

  -- ---- ports

  port_holds-same : (t : Option Tree) (p : PortSpec) → is_other_port p ≡ true → port_holds R (option_map plain_tree t) end a p ≡ port_holds W.plain t end a p
  port_holds-same t (Number r) other = refl
  port_holds-same t (Named name) other =
      port-same W R stands sound t name a.proto.0 x (port_at end a) (other_name name other)

  some_port-same : (t : Option Tree) (ps : List PortSpec) → list_all is_other_port ps ≡ true → some_port R (option_map plain_tree t) end ps a ≡ some_port W.plain t end ps a
  some_port-same t ps other =
      any-same (port_holds R (option_map plain_tree t) end a) (port_holds W.plain t end a) ps
      (each (λ p. is_other_port p ≡ true) (λ p. port_holds R (option_map plain_tree t) end a p ≡ port_holds W.plain t end a p) (port_holds-same t) ps (tested is_other_port ps other))

  given_port-same : (t : Option Tree) (ps : List PortSpec) → list_all is_other_port ps ≡ true → some_port_given R (option_map plain_tree t) end ps a ≡ some_port_given W.plain t end ps a
  given_port-same t [] other = refl
  given_port-same t (p ∷ ps) other = some_port-same t (p ∷ ps) other

  -- ---- a side without a service

  abbrev nets : Side → Bool
  nets s = lies_in_given s.nets x && not (lies_in s.not_nets x)

  pub side-same : (s : Side) → is_lowerable_side s ≡ true → side_matches R end (plain_side s) a ≡ side_matches W.plain end s a
  side-same s low =
      let ports = second_of (is_low s.selector && is_low s.not_selector) (list_all is_other_port s.ports && list_all is_other_port s.not_ports) low in
      let given = given_port-same s.selector s.ports (first_of (list_all is_other_port s.ports) (list_all is_other_port s.not_ports) ports) in
      let refused = some_port-same s.selector s.not_ports (second_of (list_all is_other_port s.ports) (list_all is_other_port s.not_ports) ports) in
      (λ i. nets s && ((selected-same s.selector i && not_selected-same s.not_selector i) && (given i && not (refused i))))

  -- ---- a side with a service

  -- a side that asks for nothing but nets and what isn't selected
  abbrev bare : Side → Bool
  bare s = nets s && ((true && not_selected_given W.plain s.not_selector x) && (true && true))

  bare-is : (s : Side) → asks_nothing s ≡ true → side_matches W.plain end s a ≡ bare s
  bare-is s e =
      let rest = second_of (is_none s.selector) (not (is_given s.ports) && not (is_given s.not_ports)) e in
      let selector : s.selector ≡ None = none_there s.selector (first_of (is_none s.selector) (not (is_given s.ports) && not (is_given s.not_ports)) e) in
      let ports : s.ports ≡ [] = nothing_given s.ports (first_of (not (is_given s.ports)) (not (is_given s.not_ports)) rest) in
      let not_ports : s.not_ports ≡ [] = nothing_given s.not_ports (second_of (not (is_given s.ports)) (not (is_given s.not_ports)) rest) in
      (λ i. nets s && ((selected_given W.plain (selector i) x && not_selected_given W.plain s.not_selector x) && (some_port_given W.plain (selector i) end (ports i) a && not (some_port W.plain (selector i) end (not_ports i) a))))

  asked-last : (n q h : Bool) → (n && ((h && q) && (true && true))) ≡ ((n && ((true && q) && (true && true))) && h)
  asked-last false q h = refl
  asked-last true true true = refl
  asked-last true true false = refl
  asked-last true false true = refl
  asked-last true false false = refl

  -- packets from a service ask for addresses of it beside what else is asked
  pub addresses-asked : (v : NamespacedName) (s : Side) → asks_nothing s ≡ true → side_matches R end (record (plain_side s) { selector = Some (of_service v) }) a ≡ (side_matches W.plain end s a && selects_address R (of_service v) x)
  addresses-asked v s e =
      let rest = second_of (is_none s.selector) (not (is_given s.ports) && not (is_given s.not_ports)) e in
      let ports : s.ports ≡ [] = nothing_given s.ports (first_of (not (is_given s.ports)) (not (is_given s.not_ports)) rest) in
      let not_ports : s.not_ports ≡ [] = nothing_given s.not_ports (second_of (not (is_given s.ports)) (not (is_given s.not_ports)) rest) in
      let t : Option Tree = Some (of_service v) in
      (λ i. nets s && ((selects_address R (of_service v) x && not_selected-same s.not_selector i) && (some_port_given R t end (ports i) a && not (some_port R t end (not_ports i) a))))
      ∙ (asked-last (nets s) (not_selected_given W.plain s.not_selector x) (selects_address R (of_service v) x)
      ∙ ap (λ b. b && selects_address R (of_service v) x) (sym (bare-is s e)))

  -- where a port of the service is asked for, so is its address
  ports-last : (n q h b : Bool) → (b ≡ true → h ≡ true) → (n && ((h && q) && ((b || false) && true))) ≡ ((n && ((true && q) && (true && true))) && b)
  ports-last false q h b implied = refl
  ports-last true false true b implied = refl
  ports-last true false false b implied = refl
  ports-last true true true true implied = refl
  ports-last true true true false implied = refl
  ports-last true true false true implied = (let contrary : false ≡ true = implied refl in cc)
  ports-last true true false false implied = refl

  abbrev port_of : NamespacedName → Bool
  port_of v = named_port_holds R (Some (of_service v)) star a.proto.0 x (port_at end a)

  -- packets to a service ask for a port at an address of it
  pub ports-asked : (v : NamespacedName) (s : Side) → asks_nothing s ≡ true → (port_of v ≡ true → selects_address R (of_service v) x ≡ true) → side_matches R end (record (record (plain_side s) { selector = Some (of_service v) }) { ports = service_ports }) a ≡ (side_matches W.plain end s a && port_of v)
  ports-asked v s e implied =
      let rest = second_of (is_none s.selector) (not (is_given s.ports) && not (is_given s.not_ports)) e in
      let not_ports : s.not_ports ≡ [] = nothing_given s.not_ports (second_of (not (is_given s.ports)) (not (is_given s.not_ports)) rest) in
      let t : Option Tree = Some (of_service v) in
      (λ i. nets s && ((selects_address R (of_service v) x && not_selected-same s.not_selector i) && ((port_of v || false) && not (some_port R t end (not_ports i) a))))
      ∙ (ports-last (nets s) (not_selected_given W.plain s.not_selector x) (selects_address R (of_service v) x) (port_of v) implied
      ∙ ap (λ b. b && port_of v) (sym (bare-is s e)))
