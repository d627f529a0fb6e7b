-- The rendered rules of policies and profiles lead nowhere, have the shapes of rules, and name the sets that the rules name.
use Rattle.std.proofs.Common.{◌≡◌, ◌≤◌, ℕ, suc, ◌+◌, ◌-◌, Bool, true, false, ◌&&◌, ◌||◌, cond, List, [], ◌∷◌, ◌++◌, map, Option, Some, None, refl, sym, ap, ◌∙◌, subst, arith}
use Rattle.std.specs.Prelude.{nat_le, nat_eq}
use Rattle.std.specs.List.{list_all, AllByRecursion}
use Rattle.std.specs.FinMap as maps
use Rattle.std.proofs.lemmas.Bool.{leb-true, le-leb, leb-false}
use Rattle.fx_base.specs.Same.{both_pass}
use Rattle.fx_base.specs.SetName.{kind_of}
use Rattle.fx_base.specs.declared.set_name.SetKind.{SetKind}
use Rattle.fx_base.specs.declared.set_name.SetKind.TheVariants.{Nets, Ports}
use Rattle.fx_base.specs.declared.net.Net.{Net}
use Rattle.fx_base.specs.declared.net.PortRange.{PortRange}
use Rattle.fx_base.specs.declared.net.Proto.{Proto}
use Rattle.fx_model.specs.declared.rules.Action.{Action}
use Rattle.fx_model.specs.declared.rules.Action.TheVariants.{Allow, Deny, Log, Pass}
use Rattle.fx_model.specs.declared.rules.Icmp.{Icmp}
use Rattle.fx_model.specs.declared.view_rule.ViewPort.{ViewPort}
use Rattle.fx_model.specs.declared.view_rule.ViewSide.{ViewSide}
use Rattle.fx_model.specs.declared.view_rule.ViewRule.{ViewRule}
use Rattle.fx_model.specs.declared.chain.End.{End}
use Rattle.fx_model.specs.declared.chain.End.TheVariants.{Source, Dest}
use Rattle.fx_model.specs.declared.chain.Match.{Match}
use Rattle.fx_model.specs.declared.chain.Match.TheVariants as match
use Rattle.fx_model.specs.declared.chain.Target.{Target}
use Rattle.fx_model.specs.declared.chain.Target.TheVariants as target
use Rattle.fx_model.specs.declared.chain.Reason.{Reason}
use Rattle.fx_model.specs.declared.chain.ChainRule.{ChainRule}
use Rattle.fx_model.specs.Rendering.{plain, this_block, all_blocks, accept_mark, pass_mark, set_mark, is_clear, clear_mark, positive_block, negative_block, one_net, net_blocks, net_match, not_net_blocks, not_net_match, proto_match, icmp_match, slots_of, onto_first, lists_from, port_lists, ranges_of, names_of, PortChoice, Listed, InSet, port_choices, choice_alternative, port_blocks, listed_match, in_set_match, not_listed_match, not_in_set_match, set_match, blocks_of, joined, block_rules, block_match, nets_match, sets_match, ports_match, main_matches, main_rules, is_void, rendered_rule, rendered_rules}
use Rattle.fx_model.specs.Tables.{Chains, Sets}
use Rattle.fx_model.specs.Ranks.{LeadsBelow, AllLeadBelow}
use Rattle.fx_model.specs.Closed.{AreThere, AreOfKind, SideNamesKinds, NamesKinds, NameSets, LeadsThere, AllLeadThere, MatchesNameThere, AllNameThere, set_given, sets_of_side, sets_of_rule, sets_of_rules}
use Rattle.fx_model.specs.Shapes.{set_place, behind_source, behind_positive, order_of, least_after, are_ordered, slots, fits_slots, has_shape, have_shape}
use Rattle.fx_laws.proofs.Removing.{both}

there-first : {X : Type 0} (m : maps.FinMap _ X) (ks ls : List (List ℕ)) → AreThere m (ks ++ ls) → AreThere m ks
there-first m [] ls h = tt
there-first m (k ∷ ks) ls h = (h.0, there-first m ks ls h.1)

there-second : {X : Type 0} (m : maps.FinMap _ X) (ks ls : List (List ℕ)) → AreThere m (ks ++ ls) → AreThere m ls
there-second m [] ls h = h
there-second m (k ∷ ks) ls h = there-second m ks ls h.1

-- ---- the order of matches

after_later : (a b : ℕ) → a ≤ b → least_after a ≤ least_after b
after_later a b h = by_tests (nat_le a 6) refl (nat_le b 6) refl
  where
    by_tests : (p : Bool) → nat_le a 6 ≡ p → (q : Bool) → nat_le b 6 ≡ q → cond p (a + 1) a ≤ cond q (b + 1) b
    by_tests true s true t = omega arith
    by_tests true s false t = let low = leb-true a 6 s in let high = leb-false b 6 t in omega arith
    by_tests false s true t = let high = leb-false a 6 s in let low = leb-true b 6 t in omega arith
    by_tests false s false t = h

ordered_from_lower : (l k : ℕ) (ms : List Match) → l ≤ k → are_ordered k ms ≡ true → are_ordered l ms ≡ true
ordered_from_lower l k [] h e = refl
ordered_from_lower l k (m ∷ ms) h e =
    let p = both_pass (nat_le k (order_of m)) (are_ordered (least_after (order_of m)) ms) e in
    let at = leb-true k (order_of m) p.0 in
    both (nat_le l (order_of m)) (are_ordered (least_after (order_of m)) ms) (le-leb l (order_of m) (omega arith)) p.1

-- matches in order, of places from `low` to `high`
abbrev Stretch : ℕ → ℕ → List Match → Type 0
Stretch low high [] = Unit {0}
Stretch low high (m ∷ ms) = (low ≤ order_of m) × (order_of m ≤ high) × Stretch (least_after (order_of m)) high ms

ordered-append : (low high : ℕ) (xs ys : List Match) → low ≤ least_after high → Stretch low high xs → are_ordered (least_after high) ys ≡ true → are_ordered low (xs ++ ys) ≡ true
ordered-append low high [] ys l s e = ordered_from_lower low (least_after high) ys l e
ordered-append low high (x ∷ xs) ys l s e =
    both (nat_le low (order_of x)) (are_ordered (least_after (order_of x)) (xs ++ ys)) (le-leb low (order_of x) s.0)
    (ordered-append (least_after (order_of x)) high xs ys (after_later (order_of x) high s.1) s.2 e)

fit-append : (xs ys : List Match) → list_all fits_slots xs ≡ true → list_all fits_slots ys ≡ true → list_all fits_slots (xs ++ ys) ≡ true
fit-append [] ys p q = q
fit-append (x ∷ xs) ys p q = let h = both_pass (fits_slots x) (list_all fits_slots xs) p in both (fits_slots x) (list_all fits_slots (xs ++ ys)) h.0 (fit-append xs ys h.1 q)

itself : (n : ℕ) → n ≤ n
itself n = omega arith

module _ (sets : Sets) where
  named-append : (xs ys : List Match) → MatchesNameThere sets xs → MatchesNameThere sets ys → MatchesNameThere sets (xs ++ ys)
  named-append [] ys p q = q
  named-append (x ∷ xs) ys p q = (p.0, named-append xs ys p.1 q)

  -- the matches of a rule, from a place on
  pub record Good (low : ℕ) (ms : List Match) : Type 0 where
    pub named : MatchesNameThere sets ms
    pub ordered : are_ordered low ms ≡ true
    pub fit : list_all fits_slots ms ≡ true

  -- some matches of a rule
  record Piece (low high : ℕ) (ms : List Match) : Type 0 where
    named : MatchesNameThere sets ms
    stretch : Stretch low high ms
    fit : list_all fits_slots ms ≡ true

  -- the same, where all are of one place that may stand twice
  abbrev AllAt : ℕ → List Match → Type 0
  AllAt k [] = Unit {0}
  AllAt k (m ∷ ms) = (order_of m ≡ k) × AllAt k ms

  record Even (k : ℕ) (ms : List Match) : Type 0 where
    named : MatchesNameThere sets ms
    alike : AllAt k ms
    fit : list_all fits_slots ms ≡ true

  none_good : (low : ℕ) → Good low []
  none_good low = record { named = tt; ordered = refl; fit = refl }

  good-append : (low high : ℕ) (xs ys : List Match) → low ≤ least_after high → Piece low high xs → Good (least_after high) ys → Good low (xs ++ ys)
  good-append low high xs ys l p g = record {
    named = named-append xs ys p.named g.named;
    ordered = ordered-append low high xs ys l p.stretch g.ordered;
    fit = fit-append xs ys p.fit g.fit;
  }

  even_stretch : (k : ℕ) (ms : List Match) → least_after k ≡ k → AllAt k ms → Stretch k k ms
  even_stretch k [] e h = tt
  even_stretch k (m ∷ ms) e h =
      (subst (λ o. k ≤ o) (sym h.0) (itself k), subst (λ o. o ≤ k) (sym h.0) (itself k), subst (λ l. Stretch l k ms) (sym (ap least_after h.0 ∙ e)) (even_stretch k ms e h.1))

  even_piece : (k : ℕ) (ms : List Match) → least_after k ≡ k → Even k ms → Piece k k ms
  even_piece k ms e h = record { named = h.named; stretch = even_stretch k ms e h.alike; fit = h.fit }

  alike-append : (k : ℕ) (xs ys : List Match) → AllAt k xs → AllAt k ys → AllAt k (xs ++ ys)
  alike-append k [] ys p q = q
  alike-append k (x ∷ xs) ys p q = (p.0, alike-append k xs ys p.1 q)

  even-append : (k : ℕ) (xs ys : List Match) → Even k xs → Even k ys → Even k (xs ++ ys)
  even-append k xs ys p q = record {
    named = named-append xs ys p.named q.named;
    alike = alike-append k xs ys p.alike q.alike;
    fit = fit-append xs ys p.fit q.fit;
  }

  even_none : (k : ℕ) → Even k []
  even_none k = record { named = tt; alike = tt; fit = refl }

  -- ---- protocols, nets and what blocks left

  proto_piece : (p q : Option Proto) → Piece 0 0 (proto_match p q)
  proto_piece None None = record { named = tt; stretch = tt; fit = refl }
  proto_piece None (Some q) = record { named = (tt, tt); stretch = (itself 0, itself 0, tt); fit = refl }
  proto_piece (Some p) q = record { named = (tt, tt); stretch = (itself 0, itself 0, tt); fit = refl }

  no_net : (end : End) → Piece (behind_source end 1) (behind_source end 1) []
  no_net end = record { named = tt; stretch = tt; fit = refl }

  single_net : (end : End) (n : Net) (opposite : Bool) → Piece (behind_source end 1) (behind_source end 1) (match.Net end n opposite ∷ [])
  single_net end n opposite = record { named = (tt, tt); stretch = (itself (behind_source end 1), itself (behind_source end 1), tt); fit = refl }

  nets_piece : (end : End) (nets others : List Net) → Piece (behind_source end 1) (behind_source end 1) (net_match end nets ++ not_net_match end nets others)
  nets_piece end [] [] = no_net end
  nets_piece end (n ∷ []) [] = single_net end n false
  nets_piece end (n ∷ k ∷ nets) [] = no_net end
  nets_piece end [] (x ∷ []) = single_net end x true
  nets_piece end (n ∷ []) (x ∷ []) = single_net end n false
  nets_piece end (n ∷ k ∷ nets) (x ∷ []) = single_net end x true
  nets_piece end [] (x ∷ y ∷ others) = no_net end
  nets_piece end (n ∷ []) (x ∷ y ∷ others) = single_net end n false
  nets_piece end (n ∷ k ∷ nets) (x ∷ y ∷ others) = no_net end

  block_piece : (bs : List (List ChainRule)) → Piece 5 5 (block_match bs)
  block_piece [] = record { named = tt; stretch = tt; fit = refl }
  block_piece (b ∷ bs) = record { named = (tt, tt); stretch = (itself 5, itself 5, tt); fit = refl }

  -- ---- lists of ports

  abbrev AllFit : List (List PortRange) → Type 0
  AllFit [] = Unit {0}
  AllFit (c ∷ cs) = (slots c ≤ 15) × AllFit cs

  -- the first list fits into this room
  abbrev FirstFits : ℕ → List (List PortRange) → Type 0
  FirstFits room [] = Unit {0}
  FirstFits room (c ∷ cs) = (slots c ≤ room) × AllFit cs

  few_slots : (r : PortRange) → slots_of r ≤ 2
  few_slots r = by_test (nat_eq r.low r.high)
    where
      by_test : (b : Bool) → cond b 1 2 ≤ 2
      by_test true = omega arith
      by_test false = omega arith

  onto_fits : (room : ℕ) (r : PortRange) (cs : List (List PortRange)) → slots_of r ≤ room → FirstFits (room - slots_of r) cs → FirstFits room (onto_first r cs)
  onto_fits room r [] h f = (omega arith, tt)
  onto_fits room r (c ∷ cs) h f = let first = f.0 in (omega arith, f.1)

  from_fits : (room : ℕ) (rs : List PortRange) → FirstFits room (lists_from room rs)
  from_fits room [] = (omega arith, tt)
  from_fits room (r ∷ rs) = by_test (nat_le (slots_of r) room) refl (from_fits (room - slots_of r) rs) (from_fits (15 - slots_of r) rs)
    where
      all_fit : (cs : List (List PortRange)) → FirstFits 15 cs → AllFit cs
      all_fit [] f = tt
      all_fit (c ∷ cs) f = f

      by_test : (b : Bool) → nat_le (slots_of r) room ≡ b → FirstFits (room - slots_of r) (lists_from (room - slots_of r) rs) → FirstFits (15 - slots_of r) (lists_from (15 - slots_of r) rs) → FirstFits room (elim b [ true ↦ onto_first r (lists_from (room - slots_of r) rs) | false ↦ [] ∷ onto_first r (lists_from (15 - slots_of r) rs) ])
      by_test true e f g = onto_fits room r (lists_from (room - slots_of r) rs) (leb-true (slots_of r) room e) f
      by_test false e f g = let few = few_slots r in (omega arith, all_fit (onto_first r (lists_from (15 - slots_of r) rs)) (onto_fits 15 r (lists_from (15 - slots_of r) rs) (omega arith) g))

  lists_fit : (rs : List PortRange) → AllFit (port_lists rs)
  lists_fit [] = tt
  lists_fit (r ∷ rs) = by_lists (lists_from 15 (r ∷ rs)) (from_fits 15 (r ∷ rs))
    where
      by_lists : (cs : List (List PortRange)) → FirstFits 15 cs → AllFit cs
      by_lists [] f = tt
      by_lists (c ∷ cs) f = f

  -- ---- choices of ports

  abbrev ChoiceFits : PortChoice → Type 0
  ChoiceFits (Listed c) = slots c ≤ 15
  ChoiceFits (InSet name) = (maps.contains_key sets name ≡ true) × (kind_of name ≡ Ports)

  listed_fit : (cs : List (List PortRange)) (more : List PortChoice) → AllFit cs → AllByRecursion ChoiceFits more → AllByRecursion ChoiceFits (map Listed cs ++ more)
  listed_fit [] more f h = h
  listed_fit (c ∷ cs) more f h = (f.0, listed_fit cs more f.1 h)

  in_sets_fit : (names : List (List ℕ)) → AreThere sets names → AreOfKind Ports names → AllByRecursion ChoiceFits (map InSet names)
  in_sets_fit [] h k = tt
  in_sets_fit (n ∷ names) h k = ((h.0, k.0), in_sets_fit names h.1 k.1)

  choices_fit : (ps : List ViewPort) → AreThere sets (names_of ps) → AreOfKind Ports (names_of ps) → AllByRecursion ChoiceFits (port_choices ps)
  choices_fit ps h k = listed_fit (port_lists (ranges_of ps)) (map InSet (names_of ps)) (lists_fit (ranges_of ps)) (in_sets_fit (names_of ps) h k)

  abbrev ports_place : End → ℕ
  ports_place Source = 15
  ports_place Dest = 17

  -- an end's first place of sets
  abbrev sets_place : End → ℕ
  sets_place Source = 7
  sets_place Dest = 11

  sets_order : (end : End) (name : List ℕ) (k : SetKind) (opposite : Bool) → kind_of name ≡ k → order_of (match.Set end name opposite) ≡ set_place k opposite + sets_place end
  sets_order Source name k opposite is = ap (λ (t : SetKind). set_place t opposite + 7) is
  sets_order Dest name k opposite is = ap (λ (t : SetKind). set_place t opposite + 11) is

  ports_order : (end : End) (c : List PortRange) (opposite : Bool) → order_of (match.Ports end c opposite) ≡ behind_positive opposite (ports_place end)
  ports_order Source c opposite = refl
  ports_order Dest c opposite = refl

  listed_even : (end : End) (cs : List PortChoice) → AllByRecursion ChoiceFits cs → Even (ports_place end) (listed_match end cs)
  listed_even end [] h = even_none (ports_place end)
  listed_even end (Listed c ∷ []) h = record { named = (tt, tt); alike = (ports_order end c false, tt); fit = both (nat_le (slots c) 15) true (le-leb (slots c) 15 h.0) refl }
  listed_even end (InSet name ∷ []) h = even_none (ports_place end)
  listed_even end (c ∷ d ∷ cs) h = even_none (ports_place end)

  in_set_even : (end : End) (cs : List PortChoice) → AllByRecursion ChoiceFits cs → Even (2 + sets_place end) (in_set_match end cs)
  in_set_even end [] h = even_none (2 + sets_place end)
  in_set_even end (Listed c ∷ []) h = even_none (2 + sets_place end)
  in_set_even end (InSet name ∷ []) h = record { named = (h.0.0, tt); alike = (sets_order end name Ports false h.0.1, tt); fit = refl }
  in_set_even end (c ∷ d ∷ cs) h = even_none (2 + sets_place end)

  not_listed_even : (end : End) (cs : List (List PortRange)) → AllFit cs → Even (behind_positive true (ports_place end)) (map (λ c. match.Ports end c true) cs)
  not_listed_even end [] h = even_none (behind_positive true (ports_place end))
  not_listed_even end (c ∷ cs) h =
      let later = not_listed_even end cs h.1 in
      record { named = (tt, later.named); alike = (ports_order end c true, later.alike); fit = both (nat_le (slots c) 15) (list_all fits_slots (map (λ c. match.Ports end c true) cs)) (le-leb (slots c) 15 h.0) later.fit }

  not_in_sets_even : (end : End) (names : List (List ℕ)) → AreThere sets names → AreOfKind Ports names → Even (3 + sets_place end) (map (λ name. match.Set end name true) names)
  not_in_sets_even end [] h k = even_none (3 + sets_place end)
  not_in_sets_even end (n ∷ names) h k =
      let later = not_in_sets_even end names h.1 k.1 in
      record { named = (h.0, later.named); alike = (sets_order end n Ports true k.0, later.alike); fit = later.fit }

  set_even : (end : End) (opposite : Bool) (o : Option (List ℕ)) → AreThere sets (set_given o) → AreOfKind Nets (set_given o) → Even (set_place Nets opposite + sets_place end) (set_match end opposite o)
  set_even end opposite None h k = even_none (set_place Nets opposite + sets_place end)
  set_even end opposite (Some name) h k = record { named = (h.0, tt); alike = (sets_order end name Nets opposite k.0, tt); fit = refl }

  -- the sets of an end, in their parts
  record SideThere (s : ViewSide) : Type 0 where
    set : AreThere sets (set_given s.set)
    not_set : AreThere sets (set_given s.not_set)
    ports : AreThere sets (names_of s.ports)
    not_ports : AreThere sets (names_of s.not_ports)
    kinds : SideNamesKinds s

  side_there : (s : ViewSide) → AreThere sets (sets_of_side s) → SideNamesKinds s → SideThere s
  side_there s h kinds =
      let a = there-second sets (set_given s.set) (set_given s.not_set ++ (names_of s.ports ++ names_of s.not_ports)) h in
      let b = there-second sets (set_given s.not_set) (names_of s.ports ++ names_of s.not_ports) a in
      record {
        set = there-first sets (set_given s.set) (set_given s.not_set ++ (names_of s.ports ++ names_of s.not_ports)) h;
        not_set = there-first sets (set_given s.not_set) (names_of s.ports ++ names_of s.not_ports) a;
        ports = there-first sets (names_of s.ports) (names_of s.not_ports) b;
        not_ports = there-second sets (names_of s.ports) (names_of s.not_ports) b;
        kinds = kinds;
      }

  icmp_even : (opposite : Bool) (o : Option Icmp) → Even 19 (icmp_match opposite o)
  icmp_even opposite None = even_none 19
  icmp_even opposite (Some m) = record { named = (tt, tt); alike = (refl, tt); fit = refl }

  -- ---- the main rule

  even_good : (k : ℕ) (ms : List Match) → least_after k ≡ k → Even k ms → Good k ms
  even_good k ms e h = record { named = h.named; ordered = from_alike k ms e h.alike; fit = h.fit }
    where
      from_alike : (k : ℕ) (ms : List Match) → least_after k ≡ k → AllAt k ms → are_ordered k ms ≡ true
      from_alike k [] e h = refl
      from_alike k (m ∷ ms) e h =
          both (nat_le k (order_of m)) (are_ordered (least_after (order_of m)) ms) (le-leb k (order_of m) (subst (λ o. k ≤ o) (sym h.0) (itself k)))
          (subst (λ l. are_ordered l ms ≡ true) (sym (ap least_after h.0 ∙ e)) (from_alike k ms e h.1))

  good_from_lower : (l k : ℕ) (ms : List Match) → l ≤ k → Good k ms → Good l ms
  good_from_lower l k ms h g = record { named = g.named; ordered = ordered_from_lower l k ms h g.ordered; fit = g.fit }

  good_step : (low high next : ℕ) (xs ys : List Match) → low ≤ least_after high → least_after high ≤ next → Piece low high xs → Good next ys → Good low (xs ++ ys)
  good_step low high next xs ys l h p g = good-append low high xs ys l p (good_from_lower (least_after high) next ys h g)

  stretch_from_lower : (l k high : ℕ) (ms : List Match) → l ≤ k → Stretch k high ms → Stretch l high ms
  stretch_from_lower l k high [] h s = tt
  stretch_from_lower l k high (m ∷ ms) h s = let first = s.0 in (omega arith, s.1, s.2)

  stretch-append : (low mid next high : ℕ) (xs ys : List Match) → low ≤ next → least_after mid ≤ next → mid ≤ high → Stretch low mid xs → Stretch next high ys → Stretch low high (xs ++ ys)
  stretch-append low mid next high [] ys l n h s t = stretch_from_lower low next high ys l t
  stretch-append low mid next high (x ∷ xs) ys l n h s t =
      let second = s.1 in let later = after_later (order_of x) mid s.1 in
      (s.0, omega arith, stretch-append (least_after (order_of x)) mid next high xs ys (omega arith) n h s.2 t)

  piece-append : (low mid next high : ℕ) (xs ys : List Match) → low ≤ next → least_after mid ≤ next → mid ≤ high → Piece low mid xs → Piece next high ys → Piece low high (xs ++ ys)
  piece-append low mid next high xs ys l n h p q = record {
    named = named-append xs ys p.named q.named;
    stretch = stretch-append low mid next high xs ys l n h p.stretch q.stretch;
    fit = fit-append xs ys p.fit q.fit;
  }

  -- the sets of an end stand in four places, one behind the other
  four_pieces : (end : End) (s : ViewSide) (k : ℕ) → least_after k ≡ k → least_after (1 + k) ≡ 1 + k → least_after (2 + k) ≡ 2 + k → least_after (3 + k) ≡ 3 + k
      → Even k (set_match end false s.set) → Even (1 + k) (set_match end true s.not_set) → Even (2 + k) (in_set_match end (port_choices s.ports)) → Even (3 + k) (not_in_set_match end s.not_ports)
      → Piece k (3 + k) (sets_match end s)
  four_pieces end s k a b c d first second third fourth =
      piece-append k k (1 + k) (3 + k) (set_match end false s.set) _ (omega arith) (omega arith) (omega arith) (even_piece k _ a first)
      (piece-append (1 + k) (1 + k) (2 + k) (3 + k) (set_match end true s.not_set) _ (omega arith) (omega arith) (omega arith) (even_piece (1 + k) _ b second)
      (piece-append (2 + k) (2 + k) (3 + k) (3 + k) (in_set_match end (port_choices s.ports)) (not_in_set_match end s.not_ports) (omega arith) (omega arith) (omega arith) (even_piece (2 + k) _ c third)
      (even_piece (3 + k) _ d fourth)))

  source_sets : (s : ViewSide) → SideThere s → Piece 7 10 (sets_match Source s)
  source_sets s h =
      four_pieces Source s 7 refl refl refl refl (set_even Source false s.set h.set h.kinds.set) (set_even Source true s.not_set h.not_set h.kinds.not_set)
      (in_set_even Source (port_choices s.ports) (choices_fit s.ports h.ports h.kinds.ports)) (not_in_sets_even Source (names_of s.not_ports) h.not_ports h.kinds.not_ports)

  dest_sets : (s : ViewSide) → SideThere s → Piece 11 14 (sets_match Dest s)
  dest_sets s h =
      four_pieces Dest s 11 refl refl refl refl (set_even Dest false s.set h.set h.kinds.set) (set_even Dest true s.not_set h.not_set h.kinds.not_set)
      (in_set_even Dest (port_choices s.ports) (choices_fit s.ports h.ports h.kinds.ports)) (not_in_sets_even Dest (names_of s.not_ports) h.not_ports h.kinds.not_ports)

  source_ports : (s : ViewSide) → SideThere s → Piece 15 16 (ports_match Source s)
  source_ports s h =
      piece-append 15 15 16 16 (listed_match Source (port_choices s.ports)) (not_listed_match Source s.not_ports) (omega arith) (omega arith) (omega arith)
      (even_piece 15 _ refl (listed_even Source (port_choices s.ports) (choices_fit s.ports h.ports h.kinds.ports)))
      (even_piece 16 _ refl (not_listed_even Source (port_lists (ranges_of s.not_ports)) (lists_fit (ranges_of s.not_ports))))

  dest_ports : (s : ViewSide) → SideThere s → Piece 17 18 (ports_match Dest s)
  dest_ports s h =
      piece-append 17 17 18 18 (listed_match Dest (port_choices s.ports)) (not_listed_match Dest s.not_ports) (omega arith) (omega arith) (omega arith)
      (even_piece 17 _ refl (listed_even Dest (port_choices s.ports) (choices_fit s.ports h.ports h.kinds.ports)))
      (even_piece 18 _ refl (not_listed_even Dest (port_lists (ranges_of s.not_ports)) (lists_fit (ranges_of s.not_ports))))

  main_good : (r : ViewRule) → SideThere r.source → SideThere r.destination → Good 0 (main_matches r)
  main_good r s d =
      let icmp = even_good 19 (icmp_match false r.icmp ++ icmp_match true r.not_icmp) refl (even-append 19 (icmp_match false r.icmp) (icmp_match true r.not_icmp) (icmp_even false r.icmp) (icmp_even true r.not_icmp)) in
      let ports_d = good_step 17 18 19 (ports_match Dest r.destination) _ (omega arith) (omega arith) (dest_ports r.destination d) icmp in
      let ports_s = good_step 15 16 17 (ports_match Source r.source) _ (omega arith) (omega arith) (source_ports r.source s) ports_d in
      let sets_d = good_step 11 14 15 (sets_match Dest r.destination) _ (omega arith) (omega arith) (dest_sets r.destination d) ports_s in
      let sets_s = good_step 7 10 11 (sets_match Source r.source) _ (omega arith) (omega arith) (source_sets r.source s) sets_d in
      let blocks = good_step 5 5 7 (block_match (blocks_of r)) _ (omega arith) (omega arith) (block_piece (blocks_of r)) sets_s in
      let nets_d = good_step 2 2 5 (nets_match Dest r.destination) _ (omega arith) (omega arith) (nets_piece Dest r.destination.nets r.destination.not_nets) blocks in
      let nets_s = good_step 1 1 2 (nets_match Source r.source) _ (omega arith) (omega arith) (nets_piece Source r.source.nets r.source.not_nets) nets_d in
      good_step 0 0 1 (proto_match r.protocol r.not_protocol) _ (omega arith) (omega arith) (proto_piece r.protocol r.not_protocol) nets_s

  -- ---- rules that lead nowhere

  abbrev pub LeadsNowhere : Target → Type 0
  LeadsNowhere target.Accept = Unit {0}
  LeadsNowhere target.Drop = Unit {0}
  LeadsNowhere target.Return = Unit {0}
  LeadsNowhere (target.Jump to) = ⊥
  LeadsNowhere (target.Goto to) = ⊥
  LeadsNowhere (target.Mark value mask) = Unit {0}
  LeadsNowhere target.Log = Unit {0}

  abbrev pub Leaf : List ChainRule → Type 0
  Leaf [] = Unit {0}
  Leaf (r ∷ rs) = LeadsNowhere r.target × Good 0 r.matches × Leaf rs

  leaf-append : (rs ts : List ChainRule) → Leaf rs → Leaf ts → Leaf (rs ++ ts)
  leaf-append [] ts p q = q
  leaf-append (r ∷ rs) ts p q = (p.0, p.1, leaf-append rs ts p.2 q)

  mark_match : (value mask : ℕ) → Good 0 (match.Mark value mask ∷ [])
  mark_match value mask = record { named = (tt, tt); ordered = refl; fit = refl }

  marking : (value mask : ℕ) (alternatives : List (List Match)) → AllByRecursion (Good 0) alternatives → Leaf (map (λ ms. plain ms (target.Mark value mask)) alternatives)
  marking value mask [] h = tt
  marking value mask (ms ∷ alternatives) h = (tt, h.0, marking value mask alternatives h.1)

  positive_leaf : (alternatives : List (List Match)) → AllByRecursion (Good 0) alternatives → Leaf (positive_block alternatives)
  positive_leaf alternatives h =
      (tt, none_good 0, leaf-append (map (λ ms. plain ms (set_mark this_block)) alternatives) (plain (is_clear this_block ∷ []) (clear_mark all_blocks) ∷ []) (marking this_block this_block alternatives h) (tt, mark_match 0 this_block, tt))

  joined_leaf : (bs : List (List ChainRule)) → AllByRecursion Leaf bs → Leaf (joined bs)
  joined_leaf [] h = tt
  joined_leaf (b ∷ bs) h = leaf-append b (joined bs) h.0 (joined_leaf bs h.1)

  block_leaf : (bs : List (List ChainRule)) → AllByRecursion Leaf bs → Leaf (block_rules bs)
  block_leaf [] h = tt
  block_leaf (b ∷ bs) h = (tt, none_good 0, joined_leaf (b ∷ bs) h)

  blocks-append : (xs ys : List (List ChainRule)) → AllByRecursion Leaf xs → AllByRecursion Leaf ys → AllByRecursion Leaf (xs ++ ys)
  blocks-append [] ys p q = q
  blocks-append (x ∷ xs) ys p q = (p.0, blocks-append xs ys p.1 q)

  net_good : (end : End) (n : Net) → Good 0 (one_net end n)
  net_good Source n = record { named = (tt, tt); ordered = refl; fit = refl }
  net_good Dest n = record { named = (tt, tt); ordered = refl; fit = refl }

  nets_good : (end : End) (nets : List Net) → AllByRecursion (Good 0) (map (one_net end) nets)
  nets_good end [] = tt
  nets_good end (n ∷ nets) = (net_good end n, nets_good end nets)

  net_blocks_leaf : (end : End) (nets : List Net) → AllByRecursion Leaf (net_blocks end nets)
  net_blocks_leaf end [] = tt
  net_blocks_leaf end (n ∷ []) = tt
  net_blocks_leaf end (n ∷ k ∷ nets) = (positive_leaf (map (one_net end) (n ∷ k ∷ nets)) (nets_good end (n ∷ k ∷ nets)), tt)

  negative_leaf : (end : End) (nets : List Net) → AllByRecursion Leaf (negative_block (map (one_net end) nets) ∷ [])
  negative_leaf end nets = (marking 0 all_blocks (map (one_net end) nets) (nets_good end nets), tt)

  not_net_blocks_leaf : (end : End) (nets others : List Net) → AllByRecursion Leaf (not_net_blocks end nets others)
  not_net_blocks_leaf end [] [] = tt
  not_net_blocks_leaf end (n ∷ []) [] = tt
  not_net_blocks_leaf end (n ∷ k ∷ nets) [] = tt
  not_net_blocks_leaf end [] (x ∷ []) = tt
  not_net_blocks_leaf end (n ∷ []) (x ∷ []) = negative_leaf end (x ∷ [])
  not_net_blocks_leaf end (n ∷ k ∷ nets) (x ∷ []) = tt
  not_net_blocks_leaf end [] (x ∷ y ∷ others) = negative_leaf end (x ∷ y ∷ others)
  not_net_blocks_leaf end (n ∷ []) (x ∷ y ∷ others) = negative_leaf end (x ∷ y ∷ others)
  not_net_blocks_leaf end (n ∷ k ∷ nets) (x ∷ y ∷ others) = negative_leaf end (x ∷ y ∷ others)

  listed_good : (end : End) (c : List PortRange) → slots c ≤ 15 → Good 1 (match.Ports end c false ∷ [])
  listed_good Source c h = record { named = (tt, tt); ordered = refl; fit = both (nat_le (slots c) 15) true (le-leb (slots c) 15 h) refl }
  listed_good Dest c h = record { named = (tt, tt); ordered = refl; fit = both (nat_le (slots c) 15) true (le-leb (slots c) 15 h) refl }

  in_set_good : (end : End) (name : List ℕ) → maps.contains_key sets name ≡ true → kind_of name ≡ Ports → Good 0 (match.Set end name false ∷ [])
  in_set_good Source name h is = record { named = (h, tt); ordered = ap (λ (k : SetKind). nat_le 0 (set_place k false + 7) && true) is; fit = refl }
  in_set_good Dest name h is = record { named = (h, tt); ordered = ap (λ (k : SetKind). nat_le 0 (set_place k false + 11) && true) is; fit = refl }

  choice_good : (end : End) (proto : Option Proto) (c : PortChoice) → ChoiceFits c → Good 0 (choice_alternative end proto c)
  choice_good end proto (Listed c) h = good_step 0 0 1 (proto_match proto None) (match.Ports end c false ∷ []) (omega arith) (omega arith) (proto_piece proto None) (listed_good end c h)
  choice_good end proto (InSet name) h = in_set_good end name h.0 h.1

  choices_good : (end : End) (proto : Option Proto) (cs : List PortChoice) → AllByRecursion ChoiceFits cs → AllByRecursion (Good 0) (map (choice_alternative end proto) cs)
  choices_good end proto [] h = tt
  choices_good end proto (c ∷ cs) h = (choice_good end proto c h.0, choices_good end proto cs h.1)

  port_blocks_leaf : (end : End) (proto : Option Proto) (cs : List PortChoice) → AllByRecursion ChoiceFits cs → AllByRecursion Leaf (port_blocks end proto cs)
  port_blocks_leaf end proto [] h = tt
  port_blocks_leaf end proto (c ∷ []) h = tt
  port_blocks_leaf end proto (c ∷ d ∷ cs) h = (positive_leaf (map (choice_alternative end proto) (c ∷ d ∷ cs)) (choices_good end proto (c ∷ d ∷ cs) h), tt)

  rule_blocks_leaf : (r : ViewRule) → SideThere r.source → SideThere r.destination → AllByRecursion Leaf (blocks_of r)
  rule_blocks_leaf r s d =
      blocks-append (net_blocks Source r.source.nets) _ (net_blocks_leaf Source r.source.nets)
      (blocks-append (net_blocks Dest r.destination.nets) _ (net_blocks_leaf Dest r.destination.nets)
      (blocks-append (port_blocks Source r.protocol (port_choices r.source.ports)) _ (port_blocks_leaf Source r.protocol (port_choices r.source.ports) (choices_fit r.source.ports s.ports s.kinds.ports))
      (blocks-append (port_blocks Dest r.protocol (port_choices r.destination.ports)) _ (port_blocks_leaf Dest r.protocol (port_choices r.destination.ports) (choices_fit r.destination.ports d.ports d.kinds.ports))
      (blocks-append (not_net_blocks Source r.source.nets r.source.not_nets) _ (not_net_blocks_leaf Source r.source.nets r.source.not_nets)
      (not_net_blocks_leaf Dest r.destination.nets r.destination.not_nets)))))

  main_leaf : (a : Action) (ms : List Match) (why : Reason) → Good 0 ms → Leaf (main_rules a ms why)
  main_leaf Allow ms why g = (tt, g, (tt, mark_match accept_mark accept_mark, tt))
  main_leaf Deny ms why g = (tt, g, tt)
  main_leaf Log ms why g = (tt, g, tt)
  main_leaf Pass ms why g = (tt, g, (tt, mark_match pass_mark pass_mark, tt))

  rule_leaf : (r : ViewRule) (why : Reason) → AreThere sets (sets_of_rule r) → NamesKinds r → Leaf (rendered_rule r why)
  rule_leaf r why h kinds = by_test (r.never || is_void r.protocol r.not_protocol)
    where
      source : SideThere r.source
      source = side_there r.source (there-first sets (sets_of_side r.source) (sets_of_side r.destination) h) kinds.source

      destination : SideThere r.destination
      destination = side_there r.destination (there-second sets (sets_of_side r.source) (sets_of_side r.destination) h) kinds.destination

      by_test : (b : Bool) → Leaf (elim b [ true ↦ [] | false ↦ block_rules (blocks_of r) ++ main_rules r.action (main_matches r) why ])
      by_test true = tt
      by_test false =
          leaf-append (block_rules (blocks_of r)) (main_rules r.action (main_matches r) why) (block_leaf (blocks_of r) (rule_blocks_leaf r source destination))
          (main_leaf r.action (main_matches r) why (main_good r source destination))

  pub rules_leaf : (why : ℕ → Reason) (place : ℕ) (rs : List ViewRule) → NameSets sets rs → Leaf (rendered_rules why place rs)
  rules_leaf why place [] h = tt
  rules_leaf why place (r ∷ rs) h =
      leaf-append (rendered_rule r (why place)) (rendered_rules why (suc place) rs) (rule_leaf r (why place) (there-first sets (sets_of_rule r) (sets_of_rules rs) h.there) h.kinds.0)
      (rules_leaf why (suc place) rs (record { there = there-second sets (sets_of_rule r) (sets_of_rules rs) h.there; kinds = h.kinds.1 }))

  -- ---- what a chain can be written with

  pub record Lead (chains : Chains) (rank : ℕ) (rules : List ChainRule) : Type 0 where
    pub there : AllLeadThere chains rules
    pub below : AllLeadBelow rank rules
    pub named : AllNameThere sets rules
    pub shaped : have_shape rules ≡ true

  nowhere_there : (chains : Chains) (t : Target) → LeadsNowhere t → LeadsThere chains t
  nowhere_there chains target.Accept h = tt
  nowhere_there chains target.Drop h = tt
  nowhere_there chains target.Return h = tt
  nowhere_there chains (target.Jump to) h = absurd h
  nowhere_there chains (target.Goto to) h = absurd h
  nowhere_there chains (target.Mark value mask) h = tt
  nowhere_there chains target.Log h = tt

  nowhere_below : (rank : ℕ) (t : Target) → LeadsNowhere t → LeadsBelow rank t
  nowhere_below rank target.Accept h = tt
  nowhere_below rank target.Drop h = tt
  nowhere_below rank target.Return h = tt
  nowhere_below rank (target.Jump to) h = absurd h
  nowhere_below rank (target.Goto to) h = absurd h
  nowhere_below rank (target.Mark value mask) h = tt
  nowhere_below rank target.Log h = tt

  pub leaf_lead : (chains : Chains) (rank : ℕ) (rules : List ChainRule) → Leaf rules → Lead chains rank rules
  leaf_lead chains rank [] h = record { there = tt; below = tt; named = tt; shaped = refl }
  leaf_lead chains rank (r ∷ rs) h =
      let later = leaf_lead chains rank rs h.2 in
      record {
        there = (nowhere_there chains r.target h.0, later.there);
        below = (nowhere_below rank r.target h.0, later.below);
        named = (h.1.named, later.named);
        shaped = both (has_shape r) (have_shape rs) (both (are_ordered 0 r.matches) (list_all fits_slots r.matches) h.1.ordered h.1.fit) later.shaped;
      }
