-- The sets that the rules of a view name are those that the rules use, by their names and of their kinds.
use Rattle.std.proofs.Common.{◌≡◌, ℕ, true, List, [], ◌∷◌, ◌++◌, map, Option, Some, None, option_map, refl, sym, ap, ◌∙◌, subst}
use Rattle.std.proofs.lemmas.List.{map-append}
use Rattle.std.specs.List.{AllByRecursion, flat_map}
use Rattle.std.specs.FinMap as maps
use Rattle.fx_base.specs.declared.net.Proto.{Proto}
use Rattle.fx_base.specs.declared.set_name.SetKind.TheVariants.{Nets, Ports}
use Rattle.fx_selector.specs.Tree.{Tree}
use Rattle.fx_names.specs.Digests.{Digest}
use Rattle.fx_model.specs.declared.rules.PortSpec.{PortSpec}
use Rattle.fx_model.specs.declared.rules.PortSpec.TheVariants.{Number, Named}
use Rattle.fx_model.specs.declared.rules.Rule.{Rule}
use Rattle.fx_model.specs.declared.rules.Side.{Side}
use Rattle.fx_model.specs.declared.set_use.SetUse.{SetUse}
use Rattle.fx_model.specs.Closed.{AreThere, AreOfKind, SideNamesKinds, NamesKinds, NameSets, set_given, sets_of_side, sets_of_rule, sets_of_rules}
use Rattle.fx_model.specs.Rendering.{names_of}
use Rattle.fx_model.specs.Sets.{ports_use, ports_protocol, selector_or_all, selector_uses, port_uses, side_uses, rule_uses, rules_uses, use_name}
use Rattle.fx_model.specs.Tables.{Sets}
use Rattle.fx_model.specs.Views.{set_name, view_port, view_side, view_rule}

module _ (dg : Digest) where
  -- ---- by their names

  given_name : (o : Option Tree) → set_given (option_map (set_name dg) o) ≡ map (use_name dg) (selector_uses o)
  given_name None = refl
  given_name (Some t) = refl

  port_names : (p : Option Proto) (t : Option Tree) (ps : List PortSpec) → names_of (map (view_port dg p t) ps) ≡ map (use_name dg) (flat_map (port_uses p t) ps)
  port_names p t [] = refl
  port_names p t (Number r ∷ ps) = port_names p t ps
  port_names p t (Named name ∷ ps) = ap (λ (ns : List (List ℕ)). use_name dg (ports_use (ports_protocol p) name (selector_or_all t)) ∷ ns) (port_names p t ps)

  names-append : (us vs : List SetUse) → map (use_name dg) us ++ map (use_name dg) vs ≡ map (use_name dg) (us ++ vs)
  names-append us vs = sym (map-append (use_name dg) us vs)

  side_names : (p : Option Proto) (s : Side) → sets_of_side (view_side dg p s) ≡ map (use_name dg) (side_uses p s)
  side_names p s =
      let ports = flat_map (port_uses p s.selector) s.ports in
      let others = flat_map (port_uses p s.selector) s.not_ports in
      (λ i. given_name s.selector i ++ (given_name s.not_selector i ++ (port_names p s.selector s.ports i ++ port_names p s.selector s.not_ports i)))
      ∙ ap (λ ns. map (use_name dg) (selector_uses s.selector) ++ (map (use_name dg) (selector_uses s.not_selector) ++ ns)) (names-append ports others)
      ∙ ap (λ ns. map (use_name dg) (selector_uses s.selector) ++ ns) (names-append (selector_uses s.not_selector) (ports ++ others))
      ∙ names-append (selector_uses s.selector) (selector_uses s.not_selector ++ (ports ++ others))

  rule_names : (r : Rule) → sets_of_rule (view_rule dg r) ≡ map (use_name dg) (rule_uses r)
  rule_names r =
      (λ i. side_names r.protocol r.source i ++ side_names r.protocol r.destination i)
      ∙ names-append (side_uses r.protocol r.source) (side_uses r.protocol r.destination)

  rules_names : (rs : List Rule) → sets_of_rules (map (view_rule dg) rs) ≡ map (use_name dg) (rules_uses rs)
  rules_names [] = refl
  rules_names (r ∷ rs) = (λ i. rule_names r i ++ rules_names rs i) ∙ names-append (rule_uses r) (rules_uses rs)

  -- ---- of their kinds

  set_kinds : (o : Option Tree) → AreOfKind Nets (set_given (option_map (set_name dg) o))
  set_kinds None = tt
  set_kinds (Some t) = (refl, tt)

  port_kinds : (p : Option Proto) (t : Option Tree) (ps : List PortSpec) → AreOfKind Ports (names_of (map (view_port dg p t) ps))
  port_kinds p t [] = tt
  port_kinds p t (Number r ∷ ps) = port_kinds p t ps
  port_kinds p t (Named name ∷ ps) = (refl, port_kinds p t ps)

  side_kinds : (p : Option Proto) (s : Side) → SideNamesKinds (view_side dg p s)
  side_kinds p s = record {
    set = set_kinds s.selector;
    not_set = set_kinds s.not_selector;
    ports = port_kinds p s.selector s.ports;
    not_ports = port_kinds p s.selector s.not_ports;
  }

  rules_kinds : (rs : List Rule) → AllByRecursion NamesKinds (map (view_rule dg) rs)
  rules_kinds [] = tt
  rules_kinds (r ∷ rs) = (record { source = side_kinds r.protocol r.source; destination = side_kinds r.protocol r.destination }, rules_kinds rs)

  -- ---- there

  module _ (sets : Sets) where
    -- the set that is used is there
    abbrev pub IsThere : SetUse → Type 0
    IsThere u = maps.contains_key sets (use_name dg u) ≡ true

    names_there : (us : List SetUse) → AllByRecursion IsThere us → AreThere sets (map (use_name dg) us)
    names_there [] h = tt
    names_there (u ∷ us) h = (h.0, names_there us h.1)

    pub rules_name : (rs : List Rule) → AllByRecursion IsThere (rules_uses rs) → NameSets sets (map (view_rule dg) rs)
    rules_name rs h = record { there = subst (AreThere sets) (sym (rules_names rs)) (names_there (rules_uses rs) h); kinds = rules_kinds rs }
