-- What the matches and the blocks of each criterion say of a packet, against what the rule says.
use Rattle.std.proofs.Common.{◌≡◌, ℕ, Bool, true, false, not, ◌&&◌, ◌||◌, nat_eq, List, [], ◌∷◌, ◌++◌, map, Option, Some, None, is_some, refl, sym, ap, ◌∙◌, eqb-true}
use Rattle.std.proofs.Math.Bool.{and_assoc, and-true}
use Rattle.std.specs.List.{list_any}
use Rattle.fx_base.specs.declared.net.Net.{Net}
use Rattle.fx_base.specs.declared.net.PortRange.{PortRange}
use Rattle.fx_base.specs.declared.net.Proto.{Proto}
use Rattle.fx_model.specs.declared.rules.Icmp.{Icmp}
use Rattle.fx_model.specs.declared.packet.Packet.{Packet}
use Rattle.fx_model.specs.declared.chain.End.{End}
use Rattle.fx_model.specs.declared.chain.Match.{Match}
use Rattle.fx_model.specs.declared.chain.Match.TheVariants as match
use Rattle.fx_model.specs.declared.view_rule.ViewPort.{ViewPort}
use Rattle.fx_model.specs.declared.view_rule.ViewPort.TheVariants.{Range, Named}
use Rattle.fx_model.specs.Criteria.{address_at, port_at, has_ports, proto_is, proto_is_not, in_net, lies_in, lies_in_given, in_range, in_ranges, holds_port, is_icmp, is_message, icmp_is, icmp_is_not}
use Rattle.fx_base.specs.Given.{is_given}
use Rattle.fx_model.specs.Rendering.{one_net, net_match, not_net_match, proto_match, icmp_match, port_lists, ranges_of, names_of, PortChoice, Listed, InSet, port_choices, choice_alternative, listed_match, in_set_match, not_listed_match, not_in_set_match, set_match, is_void}
use Rattle.fx_model.specs.Tables.{Sets}
use Rattle.fx_model.specs.Machine.{set_holds, holds, hold_all}
use Rattle.fx_model.specs.ViewPolicy.{view_port_holds, some_view_port, some_view_port_given, in_given_set, not_in_given_set}
use Rattle.fx_walk.proofs.PortLists.{any_list, choice_says, any_choice, port_says, any_port, choices_not_nil}

or_false : (x : Bool) → (x || false) ≡ x
or_false true = refl
or_false false = refl

-- a match alone, with nothing asked beside it
alone : (x : Bool) → (x && true) && true ≡ x
alone x = and-true (x && true) ∙ and-true x

not_or : (x y : Bool) → (not x && not y) ≡ not (x || y)
not_or true y = refl
not_or false y = refl

any_and : {X : Type 0} (b : Bool) (t : X → Bool) (xs : List X) → list_any (λ x. b && t x) xs ≡ (b && list_any t xs)
any_and true t [] = refl
any_and false t [] = refl
any_and true t (x ∷ xs) = ap (λ u. t x || u) (any_and true t xs)
any_and false t (x ∷ xs) = any_and false t xs

any_same : {X : Type 0} (t u : X → Bool) (same : (x : X) → t x ≡ u x) (xs : List X) → list_any t xs ≡ list_any u xs
any_same t u same [] = refl
any_same t u same (x ∷ xs) = ap (λ b. b || list_any t xs) (same x) ∙ ap (λ b. u x || b) (any_same t u same xs)

one_of_two : (x p q : ℕ) → nat_eq p q ≡ false → (nat_eq x p && true) ≡ (nat_eq x p && not (nat_eq x q))
one_of_two x p q v = by_test (nat_eq x p) refl
  where
    by_test : (b : Bool) → nat_eq x p ≡ b → (b && true) ≡ (b && not (nat_eq x q))
    by_test true h = sym (ap not (ap (λ y. nat_eq y q) (eqb-true x p h) ∙ v))
    by_test false h = refl

none_of_two : (x p q : ℕ) → nat_eq p q ≡ true → (nat_eq x p && not (nat_eq x q)) ≡ false
none_of_two x p q v = by_test (nat_eq x p) refl
  where
    by_test : (b : Bool) → nat_eq x p ≡ b → (b && not (nat_eq x q)) ≡ false
    by_test true h = ap not (ap (λ y. nat_eq y q) (eqb-true x p h) ∙ v)
    by_test false h = refl

module _ (sets : Sets) (a : Packet) where
  abbrev pub met : ℕ → List Match → Bool
  met m ms = hold_all (holds sets a) m ms

  pub met-append : (m : ℕ) (xs ys : List Match) → met m (xs ++ ys) ≡ (met m xs && met m ys)
  met-append m [] ys = refl
  met-append m (x ∷ xs) ys = ap (λ t. holds sets a m x && t) (met-append m xs ys) ∙ sym (and_assoc (holds sets a m x) (met m xs) (met m ys))

  -- ---- protocols

  pub proto_truth : (m : ℕ) (is isnt : Option Proto) → is_void is isnt ≡ false → met m (proto_match is isnt) ≡ (proto_is is a.proto.0 && proto_is_not isnt a.proto.0)
  unfolding holds
  proto_truth m None None v = refl
  proto_truth m None (Some q) v = and-true _
  proto_truth m (Some p) None v = refl
  proto_truth m (Some p) (Some q) v = one_of_two a.proto.0 p.0 q.0 v

  pub void_truth : (is isnt : Option Proto) → is_void is isnt ≡ true → (proto_is is a.proto.0 && proto_is_not isnt a.proto.0) ≡ false
  void_truth None isnt v = cc
  void_truth (Some p) None v = cc
  void_truth (Some p) (Some q) v = none_of_two a.proto.0 p.0 q.0 v

  proto_alone : (m : ℕ) (proto : Option Proto) → met m (proto_match proto None) ≡ proto_is proto a.proto.0
  unfolding holds
  proto_alone m None = refl
  proto_alone m (Some p) = and-true _

  -- ---- nets

  net_fits : (end : End) (m : ℕ) (n : Net) → holds sets a m (match.Net end n false) ≡ in_net n (address_at end a)
  unfolding holds
  net_fits end m n = refl

  not_net_fits : (end : End) (m : ℕ) (n : Net) → holds sets a m (match.Net end n true) ≡ not (in_net n (address_at end a))
  unfolding holds
  not_net_fits end m n = refl

  pub one_net_fits : (end : End) (m : ℕ) (n : Net) → met m (one_net end n) ≡ in_net n (address_at end a)
  one_net_fits end m n = and-true _ ∙ net_fits end m n

  -- what the blocks of nets ask
  abbrev pub nets_asked : End → List Net → Bool
  nets_asked end [] = true
  nets_asked end (n ∷ []) = true
  nets_asked end (n ∷ k ∷ nets) = lies_in (n ∷ k ∷ nets) (address_at end a)

  pub nets_truth : (m : ℕ) (end : End) (nets : List Net) → (met m (net_match end nets) && nets_asked end nets) ≡ lies_in_given nets (address_at end a)
  nets_truth m end [] = refl
  nets_truth m end (n ∷ []) = and-true _ ∙ one_net_fits end m n ∙ sym (or_false (in_net n (address_at end a)))
  nets_truth m end (n ∷ k ∷ nets) = refl

  -- what the blocks of negated nets ask
  abbrev pub not_nets_asked : End → List Net → List Net → Bool
  not_nets_asked end nets [] = true
  not_nets_asked end [] (x ∷ []) = true
  not_nets_asked end (n ∷ []) (x ∷ []) = not (lies_in (x ∷ []) (address_at end a))
  not_nets_asked end (n ∷ k ∷ nets) (x ∷ []) = true
  not_nets_asked end nets (x ∷ y ∷ others) = not (lies_in (x ∷ y ∷ others) (address_at end a))

  single_not : (m : ℕ) (end : End) (x : Net) → (met m (match.Net end x true ∷ []) && true) ≡ not (lies_in (x ∷ []) (address_at end a))
  single_not m end x = alone _ ∙ not_net_fits end m x ∙ ap not (sym (or_false (in_net x (address_at end a))))

  pub not_nets_truth : (m : ℕ) (end : End) (nets others : List Net) → (met m (not_net_match end nets others) && not_nets_asked end nets others) ≡ not (lies_in others (address_at end a))
  not_nets_truth m end [] [] = refl
  not_nets_truth m end (n ∷ []) [] = refl
  not_nets_truth m end (n ∷ k ∷ nets) [] = refl
  not_nets_truth m end [] (x ∷ []) = single_not m end x
  not_nets_truth m end (n ∷ []) (x ∷ []) = refl
  not_nets_truth m end (n ∷ k ∷ nets) (x ∷ []) = single_not m end x
  not_nets_truth m end [] (x ∷ y ∷ others) = refl
  not_nets_truth m end (n ∷ []) (x ∷ y ∷ others) = refl
  not_nets_truth m end (n ∷ k ∷ nets) (x ∷ y ∷ others) = refl

  -- ---- sets

  set_fits : (end : End) (m : ℕ) (name : List ℕ) → holds sets a m (match.Set end name false) ≡ set_holds sets end name a
  unfolding holds
  set_fits end m name = refl

  not_set_fits : (end : End) (m : ℕ) (name : List ℕ) → holds sets a m (match.Set end name true) ≡ not (set_holds sets end name a)
  unfolding holds
  not_set_fits end m name = refl

  pub set_truth : (m : ℕ) (end : End) (given : Option (List ℕ)) → met m (set_match end false given) ≡ in_given_set sets end given a
  set_truth m end None = refl
  set_truth m end (Some name) = and-true _ ∙ set_fits end m name

  pub not_set_truth : (m : ℕ) (end : End) (given : Option (List ℕ)) → met m (set_match end true given) ≡ not_in_given_set sets end given a
  not_set_truth m end None = refl
  not_set_truth m end (Some name) = and-true _ ∙ not_set_fits end m name

  -- ---- ports

  abbrev has : Bool
  has = has_ports a.proto.0

  ports_fit : (end : End) (m : ℕ) (c : List PortRange) → holds sets a m (match.Ports end c false) ≡ (has && in_ranges c (port_at end a))
  unfolding holds
  ports_fit end m c = refl

  not_ports_fit : (end : End) (m : ℕ) (c : List PortRange) → holds sets a m (match.Ports end c true) ≡ (has && not (in_ranges c (port_at end a)))
  unfolding holds
  not_ports_fit end m c = refl

  -- the protocol and one of a list of ranges, or a set
  abbrev pub choice_test : End → Option Proto → PortChoice → Bool
  choice_test end proto choice =
      choice_says (λ c. (proto_is proto a.proto.0 && has) && in_ranges c (port_at end a)) (λ name. set_holds sets end name a) choice

  pub choice_fits : (end : End) (proto : Option Proto) (m : ℕ) (choice : PortChoice) → met m (choice_alternative end proto choice) ≡ choice_test end proto choice
  choice_fits end proto m (Listed c) =
      met-append m (proto_match proto None) (match.Ports end c false ∷ [])
      ∙ ap (λ t. t && (holds sets a m (match.Ports end c false) && true)) (proto_alone m proto)
      ∙ ap (λ t. proto_is proto a.proto.0 && t) (and-true _ ∙ ports_fit end m c)
      ∙ sym (and_assoc (proto_is proto a.proto.0) has (in_ranges c (port_at end a)))
  choice_fits end proto m (InSet name) = and-true _ ∙ set_fits end m name

  -- what the blocks of ports ask
  abbrev pub ports_asked : End → Option Proto → List PortChoice → Bool
  ports_asked end proto [] = true
  ports_asked end proto (c ∷ []) = true
  ports_asked end proto (c ∷ d ∷ cs) = list_any (choice_test end proto) (c ∷ d ∷ cs)

  choices_truth : (m : ℕ) (end : End) (proto : Option Proto) (cs : List PortChoice) → (cs ≡ [] → ⊥) → proto_is proto a.proto.0 ≡ true → ((met m (in_set_match end cs) && met m (listed_match end cs)) && ports_asked end proto cs) ≡ list_any (choice_test end proto) cs
  choices_truth m end proto [] ne pt = absurd (ne refl)
  choices_truth m end proto (Listed c ∷ []) ne pt =
      alone _ ∙ ports_fit end m c ∙ ap (λ t. (t && has) && in_ranges c (port_at end a)) (sym pt)
      ∙ sym (or_false ((proto_is proto a.proto.0 && has) && in_ranges c (port_at end a)))
  choices_truth m end proto (InSet name ∷ []) ne pt =
      and-true _ ∙ alone _ ∙ set_fits end m name ∙ sym (or_false (set_holds sets end name a))
  choices_truth m end proto (c ∷ d ∷ cs) ne pt = refl

  -- some port, by its ranges and its sets
  ports_apart : (end : End) (ps : List ViewPort) → some_view_port sets end ps a ≡ ((has && in_ranges (ranges_of ps) (port_at end a)) || list_any (λ name. set_holds sets end name a) (names_of ps))
  ports_apart end ps =
      any_same (view_port_holds sets end a) (port_says (λ r. holds_port r a.proto.0 (port_at end a)) (λ name. set_holds sets end name a)) by_port ps
      ∙ any_port (λ r. holds_port r a.proto.0 (port_at end a)) (λ name. set_holds sets end name a) ps
      ∙ ap (λ t. t || list_any (λ name. set_holds sets end name a) (names_of ps)) (any_and has (λ r. in_range r (port_at end a)) (ranges_of ps))
    where
      by_port : (p : ViewPort) → view_port_holds sets end a p ≡ port_says (λ r. holds_port r a.proto.0 (port_at end a)) (λ name. set_holds sets end name a) p
      by_port (Range r) = refl
      by_port (Named name) = refl

  choices_say : (end : End) (proto : Option Proto) (ps : List ViewPort) → proto_is proto a.proto.0 ≡ true → list_any (choice_test end proto) (port_choices ps) ≡ some_view_port sets end ps a
  choices_say end proto ps pt =
      any_choice (λ c. (proto_is proto a.proto.0 && has) && in_ranges c (port_at end a)) (λ name. set_holds sets end name a) ps
      ∙ ap (λ t. t || list_any (λ name. set_holds sets end name a) (names_of ps)) (
      any_and (proto_is proto a.proto.0 && has) (λ c. in_ranges c (port_at end a)) (port_lists (ranges_of ps))
      ∙ ap (λ t. (t && has) && list_any (λ c. in_ranges c (port_at end a)) (port_lists (ranges_of ps))) pt
      ∙ ap (λ t. has && t) (any_list (λ r. in_range r (port_at end a)) (ranges_of ps)))
      ∙ sym (ports_apart end ps)

  -- where the protocol matches
  pub ports_truth : (m : ℕ) (end : End) (proto : Option Proto) (ps : List ViewPort) → proto_is proto a.proto.0 ≡ true → ((met m (in_set_match end (port_choices ps)) && met m (listed_match end (port_choices ps))) && ports_asked end proto (port_choices ps)) ≡ some_view_port_given sets end ps a
  ports_truth m end proto [] pt = refl
  ports_truth m end proto (p ∷ ps) pt = choices_truth m end proto (port_choices (p ∷ ps)) (choices_not_nil p ps) pt ∙ choices_say end proto (p ∷ ps) pt

  not_lists_met : (m : ℕ) (end : End) (cs : List (List PortRange)) → has ≡ true → met m (map (λ c. match.Ports end c true) cs) ≡ not (list_any (λ c. in_ranges c (port_at end a)) cs)
  not_lists_met m end [] h = refl
  not_lists_met m end (c ∷ cs) h =
      ap (λ t. t && met m (map (λ c. match.Ports end c true) cs)) (not_ports_fit end m c ∙ ap (λ t. t && not (in_ranges c (port_at end a))) h)
      ∙ ap (λ t. not (in_ranges c (port_at end a)) && t) (not_lists_met m end cs h)
      ∙ not_or (in_ranges c (port_at end a)) (list_any (λ c. in_ranges c (port_at end a)) cs)

  not_names_met : (m : ℕ) (end : End) (names : List (List ℕ)) → met m (map (λ name. match.Set end name true) names) ≡ not (list_any (λ name. set_holds sets end name a) names)
  not_names_met m end [] = refl
  not_names_met m end (name ∷ names) =
      ap (λ t. t && met m (map (λ name. match.Set end name true) names)) (not_set_fits end m name)
      ∙ ap (λ t. not (set_holds sets end name a) && t) (not_names_met m end names)
      ∙ not_or (set_holds sets end name a) (list_any (λ name. set_holds sets end name a) names)

  -- where a rule that lists negated ports meets a packet with ports
  pub not_ports_truth : (m : ℕ) (end : End) (ps : List ViewPort) → (is_given ps ≡ true → has ≡ true) → (met m (not_listed_match end ps) && met m (not_in_set_match end ps)) ≡ not (some_view_port sets end ps a)
  not_ports_truth m end [] formed = refl
  not_ports_truth m end (p ∷ ps) formed =
      ap (λ t. t && met m (not_in_set_match end (p ∷ ps))) (
      not_lists_met m end (port_lists (ranges_of (p ∷ ps))) (formed refl)
      ∙ ap not (any_list (λ r. in_range r (port_at end a)) (ranges_of (p ∷ ps)) ∙ ap (λ t. t && in_ranges (ranges_of (p ∷ ps)) (port_at end a)) (sym (formed refl))))
      ∙ ap (λ t. not (has && in_ranges (ranges_of (p ∷ ps)) (port_at end a)) && t) (not_names_met m end (names_of (p ∷ ps)))
      ∙ not_or (has && in_ranges (ranges_of (p ∷ ps)) (port_at end a)) (list_any (λ name. set_holds sets end name a) (names_of (p ∷ ps)))
      ∙ ap not (sym (ports_apart end (p ∷ ps)))

  -- ---- ICMP

  icmp_fits : (m : ℕ) (x : Icmp) → holds sets a m (match.Icmp x false) ≡ (is_icmp a && is_message x a)
  unfolding holds
  icmp_fits m x = refl

  not_icmp_fits : (m : ℕ) (x : Icmp) → holds sets a m (match.Icmp x true) ≡ (is_icmp a && not (is_message x a))
  unfolding holds
  not_icmp_fits m x = refl

  pub icmp_truth : (m : ℕ) (given : Option Icmp) → met m (icmp_match false given) ≡ icmp_is given a
  icmp_truth m None = refl
  icmp_truth m (Some x) = and-true _ ∙ icmp_fits m x

  -- where a rule that excludes a message meets a packet of ICMP
  pub not_icmp_truth : (m : ℕ) (given : Option Icmp) → (is_some given ≡ true → is_icmp a ≡ true) → met m (icmp_match true given) ≡ icmp_is_not given a
  not_icmp_truth m None formed = refl
  not_icmp_truth m (Some x) formed =
      and-true _ ∙ not_icmp_fits m x ∙ ap (λ t. t && not (is_message x a)) (formed refl) ∙ ap (λ t. not (t && is_message x a)) (sym (formed refl))
