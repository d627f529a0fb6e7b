-- What the rendered rules of policies and profiles do, against what the rules say.
use Rattle.std.proofs.Common.{◌≡◌, ℕ, suc, ◌^◌, Bool, true, false, not, ◌&&◌, ◌||◌, List, [], ◌∷◌, ◌++◌, map, Option, Some, None, is_some, refl, sym, ap, ◌∙◌, subst, arith, lit<, append_assoc, eqb-true, nat_eq}
use Rattle.std.proofs.lemmas.Bool.{or_left, or_right}
use Rattle.std.specs.Int.{bit_at}
use Rattle.std.specs.List.{list_all}
use Rattle.std.specs.Str.{bytes_eq}
use Rattle.fx_base.specs.declared.net.Net.{Net}
use Rattle.fx_base.specs.declared.net.Proto.{Proto}
use Rattle.fx_base.specs.Same.{both_pass}
use Rattle.fx_model.specs.declared.packet.Packet.{Packet}
use Rattle.fx_model.specs.declared.rules.Action.{Action}
use Rattle.fx_model.specs.declared.rules.Action.TheVariants as action
use Rattle.fx_model.specs.declared.chain.End.{End}
use Rattle.fx_model.specs.declared.chain.End.TheVariants.{Source, Dest}
use Rattle.fx_model.specs.declared.chain.Reason.{Reason}
use Rattle.fx_model.specs.declared.chain.Match.{Match}
use Rattle.fx_model.specs.declared.chain.Target.TheVariants as target
use Rattle.fx_model.specs.declared.chain.Tag.TheVariants as tag
use Rattle.fx_model.specs.declared.chain.ChainRule.{ChainRule}
use Rattle.fx_model.specs.declared.view_rule.ViewRule.{ViewRule}
use Rattle.fx_model.specs.declared.view_rule.ViewSide.{ViewSide}
use Rattle.fx_model.specs.Criteria.{address_at, in_net, lies_in, has_ports, icmp_number, proto_is, proto_is_not, is_icmp, icmp_is, icmp_is_not}
use Rattle.fx_base.specs.Given.{is_given}
use Rattle.fx_model.specs.Formed.{implies, has_port_protocol, has_icmp_protocol, lists_view_ports, passes, is_formed_view_rule, is_formed_view_profile_rule}
use Rattle.fx_model.specs.Tables.{ChainName, Sets, forward}
use Rattle.fx_model.specs.Rendering.{negative_block, plain, tagged, set_mark, is_set, accept_mark, pass_mark, one_net, net_blocks, not_net_blocks, net_match, not_net_match, proto_match, icmp_match, PortChoice, port_choices, choice_alternative, port_blocks, in_set_match, listed_match, not_in_set_match, not_listed_match, set_match, blocks_of, block_rules, block_match, nets_match, sets_match, ports_match, main_matches, main_rules, is_void, rendered_rule, rendered_rules}
use Rattle.fx_model.specs.Machine.{holds, hold_all, marked, Reasons, with_reason, last_reason}
use Rattle.fx_model.specs.Walk.{Onward, Ended, Dropped, Left}
use Rattle.fx_model.specs.Policy.{Answer, Silent, Passed, Allowed, Denied, answer_of, first_answer}
use Rattle.fx_model.specs.ViewPolicy.{view_side_matches, view_rule_matches, met_view_rules}
use Rattle.fx_walk.specs.Endings.{KeepsBits, EndsAs, IsClearFor, AllClearFor}
use Rattle.fx_walk.proofs.Walks.{walk_hit, walk-end}
use Rattle.fx_walk.proofs.Marks.{set_same, set_other, is_one, is_not_one}
use Rattle.fx_walk.proofs.Blocks.{keeps_same, keeps_on, only, walk, noted_as, miss, Part, part_none, part_one, part_join, positive_does, negative_does, before_main}
use Rattle.fx_walk.proofs.Criteria.{met, met-append, proto_truth, void_truth, one_net_fits, nets_asked, nets_truth, not_nets_asked, not_nets_truth, set_truth, not_set_truth, choice_test, choice_fits, ports_asked, ports_truth, not_ports_truth, icmp_truth, not_icmp_truth}

pub to_ends : (e f : Ended Reasons) (m : ℕ) (s : Reasons) (ans : Answer) → e ≡ f → EndsAs f m s ans → EndsAs e m s ans
to_ends e f m s ans q h = subst (λ x. EndsAs x m s ans) (sym q) h

ends_from : (e : Ended Reasons) (m n : ℕ) (s : Reasons) (ans : Answer) → KeepsBits m n → EndsAs e n s ans → EndsAs e m s ans
ends_from e m n s Silent k h = (h.0, h.1, keeps_on m n h.0 k h.2)
ends_from e m n s (Allowed why) k h = h
ends_from e m n s (Denied why) k h = h
ends_from e m n s Passed k h = h

clear_kept : (x : Action) (m n : ℕ) → KeepsBits m n → IsClearFor x m → IsClearFor x n
clear_kept action.Allow m n k h = tt
clear_kept action.Deny m n k h = tt
clear_kept action.Log m n k h = tt
clear_kept action.Pass m n k h = k.pass ∙ h

all_clear_kept : (rs : List ViewRule) (m n : ℕ) → KeepsBits m n → AllClearFor rs m → AllClearFor rs n
all_clear_kept [] m n k h = tt
all_clear_kept (r ∷ rs) m n k h = (clear_kept r.action m n k h.0, all_clear_kept rs m n k h.1)

clear_for : (x : Action) (m : ℕ) → bit_at m 17 ≡ 0 → IsClearFor x m
clear_for action.Allow m h = tt
clear_for action.Deny m h = tt
clear_for action.Log m h = tt
clear_for action.Pass m h = h

-- rules of a policy, where the pass bit is clear
pub all_clear : (rs : List ViewRule) (m : ℕ) → bit_at m 17 ≡ 0 → AllClearFor rs m
all_clear [] m h = tt
all_clear (r ∷ rs) m h = (clear_for r.action m h, all_clear rs m h)

clear_without : (x : Action) (m : ℕ) → not (passes x) ≡ true → IsClearFor x m
clear_without action.Allow m h = tt
clear_without action.Deny m h = tt
clear_without action.Log m h = tt
clear_without action.Pass m h = cc

-- a formed rule of a profile is formed, and doesn't pass
pub formed_parts : (r : ViewRule) → is_formed_view_profile_rule r ≡ true → (is_formed_view_rule r ≡ true) × (not (passes r.action) ≡ true)
formed_parts r h = both_pass (is_formed_view_rule r) (not (passes r.action)) h

pub each_formed : (rs : List ViewRule) → list_all is_formed_view_profile_rule rs ≡ true → list_all is_formed_view_rule rs ≡ true
each_formed [] h = refl
each_formed (r ∷ rs) h =
    let split = both_pass (is_formed_view_profile_rule r) (list_all is_formed_view_profile_rule rs) h in
    ap (λ b. b && list_all is_formed_view_rule rs) (formed_parts r split.0).0 ∙ each_formed rs split.1

pub profile_clear : (rs : List ViewRule) (m : ℕ) → list_all is_formed_view_profile_rule rs ≡ true → AllClearFor rs m
profile_clear [] m h = tt
profile_clear (r ∷ rs) m h =
    let split = both_pass (is_formed_view_profile_rule r) (list_all is_formed_view_profile_rule rs) h in
    (clear_without r.action m (formed_parts r split.0).1, profile_clear rs m split.1)

-- ---- what a formed rule asks

implied : (b c : Bool) → implies b c ≡ true → b ≡ true → c ≡ true
implied true c h e = h
implied false c h e = cc

-- a packet of the protocol of a rule
module _ (a : Packet) where
  of_ports : (proto : Option Proto) → has_port_protocol proto ≡ true → proto_is proto a.proto.0 ≡ true → has_ports a.proto.0 ≡ true
  of_ports None h e = cc
  of_ports (Some p) h e = ap has_ports (eqb-true a.proto.0 p.0 e) ∙ h

  of_icmp : (proto : Option Proto) → has_icmp_protocol proto ≡ true → proto_is proto a.proto.0 ≡ true → is_icmp a ≡ true
  of_icmp None h e = cc
  of_icmp (Some p) h e = ap (λ n. nat_eq n icmp_number) (eqb-true a.proto.0 p.0 e) ∙ h

  formed_ports : (r : ViewRule) → is_formed_view_rule r ≡ true → proto_is r.protocol a.proto.0 ≡ true → lists_view_ports r ≡ true → has_ports a.proto.0 ≡ true
  formed_ports r formed e lists =
      of_ports r.protocol (implied (lists_view_ports r) (has_port_protocol r.protocol) (both_pass (implies (lists_view_ports r) (has_port_protocol r.protocol)) _ formed).0 lists) e

  formed_icmp : (r : ViewRule) → is_formed_view_rule r ≡ true → proto_is r.protocol a.proto.0 ≡ true → is_some r.not_icmp ≡ true → is_icmp a ≡ true
  formed_icmp r formed e given =
      of_icmp r.protocol (implied (is_some r.icmp || is_some r.not_icmp) (has_icmp_protocol r.protocol) (both_pass (implies (lists_view_ports r) (has_port_protocol r.protocol)) _ formed).1 (or_right _ _ given)) e

-- ---- matches of the main rule and what the blocks ask, side by side

interchange : (w x y z : Bool) → ((w && x) && (y && z)) ≡ ((w && y) && (x && z))
interchange w x y z = grind arith

-- of one end: its sets, its ports in sets and lists, and what its blocks of ports ask
end_shuffle : (s1 s2 s3 s4 p1 p2 asked : Bool) → (((s1 && (s2 && (s3 && s4))) && (p1 && p2)) && asked) ≡ ((s1 && s2) && (((s3 && p1) && asked) && (p2 && s4)))
end_shuffle s1 s2 s3 s4 p1 p2 asked = grind arith

-- of the rule: the protocol, each end's nets, sets and ports, what the blocks ask of both ends, and ICMP
rule_shuffle : (p n1 n2 s1 s2 q1 q2 i b1 b2 c1 c2 d1 d2 : Bool) → (p && (n1 && (n2 && ((b1 && (b2 && (c1 && (c2 && (d1 && d2))))) && (s1 && (s2 && (q1 && (q2 && i)))))))) ≡ (p && (i && (((n1 && (b1 && d1)) && ((s1 && q1) && c1)) && ((n2 && (b2 && d2)) && ((s2 && q2) && c2)))))
rule_shuffle p n1 n2 s1 s2 q1 q2 i b1 b2 c1 c2 d1 d2 = grind arith

-- ---- what the matches of the main rule say, where the blocks left what they asked
module _ (sets : Sets) (a : Packet) where
  abbrev nets_of : End → ViewSide → Bool
  nets_of end s = nets_asked sets a end s.nets

  abbrev others_of : End → ViewSide → Bool
  others_of end s = not_nets_asked sets a end s.nets s.not_nets

  abbrev ports_of : End → ViewRule → ViewSide → Bool
  ports_of end r s = ports_asked sets a end r.protocol (port_choices s.ports)

  -- what the blocks of a rule ask
  abbrev asked : ViewRule → Bool
  asked r =
      nets_of Source r.source && (nets_of Dest r.destination
      && (ports_of Source r r.source && (ports_of Dest r r.destination && (others_of Source r.source && others_of Dest r.destination))))

  nets_met : (m : ℕ) (end : End) (s : ViewSide) → met sets a m (nets_match end s) ≡ (met sets a m (net_match end s.nets) && met sets a m (not_net_match end s.nets s.not_nets))
  nets_met m end s = met-append sets a m (net_match end s.nets) (not_net_match end s.nets s.not_nets)

  sets_met : (m : ℕ) (end : End) (s : ViewSide) → met sets a m (sets_match end s) ≡ (met sets a m (set_match end false s.set) && (met sets a m (set_match end true s.not_set) && (met sets a m (in_set_match end (port_choices s.ports)) && met sets a m (not_in_set_match end s.not_ports))))
  sets_met m end s = simp (met-append sets a m)

  ports_met : (m : ℕ) (end : End) (s : ViewSide) → met sets a m (ports_match end s) ≡ (met sets a m (listed_match end (port_choices s.ports)) && met sets a m (not_listed_match end s.not_ports))
  ports_met m end s = met-append sets a m (listed_match end (port_choices s.ports)) (not_listed_match end s.not_ports)

  -- one end's nets, sets and ports, with what its blocks ask
  end_truth : (m : ℕ) (end : End) (proto : Option Proto) (s : ViewSide) → proto_is proto a.proto.0 ≡ true → (is_given s.not_ports ≡ true → has_ports a.proto.0 ≡ true)
      → ((met sets a m (nets_match end s) && (nets_asked sets a end s.nets && not_nets_asked sets a end s.nets s.not_nets)) && ((met sets a m (sets_match end s) && met sets a m (ports_match end s)) && ports_asked sets a end proto (port_choices s.ports))) ≡ view_side_matches sets end s a
  end_truth m end proto s pt formed =
      let nets = ap (λ t. t && (nets_asked sets a end s.nets && not_nets_asked sets a end s.nets s.not_nets)) (nets_met m end s)
      ∙ interchange (met sets a m (net_match end s.nets)) (met sets a m (not_net_match end s.nets s.not_nets)) (nets_asked sets a end s.nets) (not_nets_asked sets a end s.nets s.not_nets) in
      let rest = ap (λ t. (t && met sets a m (ports_match end s)) && ports_asked sets a end proto (port_choices s.ports)) (sets_met m end s)
      ∙ ap (λ t. ((met sets a m (set_match end false s.set) && (met sets a m (set_match end true s.not_set) && (met sets a m (in_set_match end (port_choices s.ports)) && met sets a m (not_in_set_match end s.not_ports)))) && t) && ports_asked sets a end proto (port_choices s.ports)) (ports_met m end s)
      ∙ end_shuffle (met sets a m (set_match end false s.set)) (met sets a m (set_match end true s.not_set)) (met sets a m (in_set_match end (port_choices s.ports))) (met sets a m (not_in_set_match end s.not_ports)) (met sets a m (listed_match end (port_choices s.ports))) (met sets a m (not_listed_match end s.not_ports)) (ports_asked sets a end proto (port_choices s.ports)) in
      cc (nets, rest, nets_truth sets a m end s.nets, not_nets_truth sets a m end s.nets s.not_nets, set_truth sets a m end s.set, not_set_truth sets a m end s.not_set, ports_truth sets a m end proto s.ports pt, not_ports_truth sets a m end s.not_ports formed)

  main_met : (r : ViewRule) (m : ℕ) → met sets a m (main_matches r) ≡ (met sets a m (proto_match r.protocol r.not_protocol) && (met sets a m (nets_match Source r.source) && (met sets a m (nets_match Dest r.destination)
      && (met sets a m (block_match (blocks_of r)) && (met sets a m (sets_match Source r.source) && (met sets a m (sets_match Dest r.destination)
      && (met sets a m (ports_match Source r.source) && (met sets a m (ports_match Dest r.destination) && (met sets a m (icmp_match false r.icmp) && met sets a m (icmp_match true r.not_icmp))))))))))
  main_met r m = simp (met-append sets a m)

  abbrev criteria : ViewRule → Bool
  criteria r =
      (proto_is r.protocol a.proto.0 && proto_is_not r.not_protocol a.proto.0)
      && ((icmp_is r.icmp a && icmp_is_not r.not_icmp a)
      && (view_side_matches sets Source r.source a && view_side_matches sets Dest r.destination a))

  main_truth : (r : ViewRule) (m : ℕ) → is_formed_view_rule r ≡ true → is_void r.protocol r.not_protocol ≡ false → met sets a m (block_match (blocks_of r)) ≡ asked r → met sets a m (main_matches r) ≡ criteria r
  main_truth r m formed void ok = by_protocol (proto_is r.protocol a.proto.0) refl
    where
      rest : Bool
      rest =
          met sets a m (nets_match Source r.source) && (met sets a m (nets_match Dest r.destination)
          && (met sets a m (block_match (blocks_of r)) && (met sets a m (sets_match Source r.source) && (met sets a m (sets_match Dest r.destination)
          && (met sets a m (ports_match Source r.source) && (met sets a m (ports_match Dest r.destination) && (met sets a m (icmp_match false r.icmp) && met sets a m (icmp_match true r.not_icmp))))))))

      protocol : met sets a m (proto_match r.protocol r.not_protocol) ≡ (proto_is r.protocol a.proto.0 && proto_is_not r.not_protocol a.proto.0)
      protocol = proto_truth sets a m r.protocol r.not_protocol void

      by_protocol : (b : Bool) → proto_is r.protocol a.proto.0 ≡ b → met sets a m (main_matches r) ≡ criteria r
      by_protocol true pt =
          let source = end_truth m Source r.protocol r.source pt (λ n. formed_ports a r formed pt (or_left _ _ (or_right _ _ n))) in
          let destination = end_truth m Dest r.protocol r.destination pt (λ n. formed_ports a r formed pt (or_right _ _ (or_right _ _ n))) in
          let icmp = icmp_truth sets a m r.icmp in
          let not_icmp = not_icmp_truth sets a m r.not_icmp (λ n. formed_icmp a r formed pt n) in
          let mixed = rule_shuffle (met sets a m (proto_match r.protocol r.not_protocol)) (met sets a m (nets_match Source r.source)) (met sets a m (nets_match Dest r.destination)) (met sets a m (sets_match Source r.source)) (met sets a m (sets_match Dest r.destination))
          (met sets a m (ports_match Source r.source)) (met sets a m (ports_match Dest r.destination)) (met sets a m (icmp_match false r.icmp) && met sets a m (icmp_match true r.not_icmp))
          (nets_of Source r.source) (nets_of Dest r.destination) (ports_of Source r r.source) (ports_of Dest r r.destination) (others_of Source r.source) (others_of Dest r.destination) in
          cc (main_met r m, ok, mixed, protocol, source, destination, icmp, not_icmp)
      by_protocol false pt =
          main_met r m ∙ ap (λ t. t && rest) (protocol ∙ ap (λ t. t && proto_is_not r.not_protocol a.proto.0) pt)
          ∙ sym (ap (λ t. (t && proto_is_not r.not_protocol a.proto.0) && ((icmp_is r.icmp a && icmp_is_not r.not_icmp a) && (view_side_matches sets Source r.source a && view_side_matches sets Dest r.destination a))) pt)

  never_met : (r : ViewRule) → r.never ≡ true → view_rule_matches sets r a ≡ false
  never_met r e = ap (λ t. not t && criteria r) e

  void_met : (r : ViewRule) → r.never ≡ false → is_void r.protocol r.not_protocol ≡ true → view_rule_matches sets r a ≡ false
  void_met r e void =
      ap (λ t. not t && criteria r) e
      ∙ ap (λ t. t && ((icmp_is r.icmp a && icmp_is_not r.not_icmp a) && (view_side_matches sets Source r.source a && view_side_matches sets Dest r.destination a))) (void_truth sets a r.protocol r.not_protocol void)

-- ---- within a chain that isn't the first one
module _ (sets : Sets) (a : Packet) (call : ChainName → Onward Reasons) (c : ChainName) (inner : bytes_eq c forward ≡ false) where
  abbrev goes : ℕ → List ChainRule → ℕ → Reasons → Ended Reasons
  goes p rs m s = walk sets a call c inner p rs m s

  -- ---- the blocks

  abbrev Asks : List (List ChainRule) → Bool → Type 0
  Asks bs ok = Part sets a call c inner bs ok

  nets_part : (end : End) (nets : List Net) → Asks (net_blocks end nets) (nets_asked sets a end nets)
  nets_part end [] = part_none sets a call c inner
  nets_part end (n ∷ []) = part_none sets a call c inner
  nets_part end (n ∷ k ∷ nets) = part_one sets a call c inner _ _ (positive_does sets a call c inner Net (one_net end) (λ x. in_net x (address_at end a)) (one_net_fits sets a end) (n ∷ k ∷ nets))

  negative : (end : End) (nets : List Net) → Asks (negative_block (map (one_net end) nets) ∷ []) (not (lies_in nets (address_at end a)))
  negative end nets = part_one sets a call c inner _ _ (negative_does sets a call c inner Net (one_net end) (λ x. in_net x (address_at end a)) (one_net_fits sets a end) nets)

  not_nets_part : (end : End) (nets others : List Net) → Asks (not_net_blocks end nets others) (not_nets_asked sets a end nets others)
  not_nets_part end [] [] = part_none sets a call c inner
  not_nets_part end (n ∷ []) [] = part_none sets a call c inner
  not_nets_part end (n ∷ k ∷ nets) [] = part_none sets a call c inner
  not_nets_part end [] (x ∷ []) = part_none sets a call c inner
  not_nets_part end (n ∷ []) (x ∷ []) = negative end (x ∷ [])
  not_nets_part end (n ∷ k ∷ nets) (x ∷ []) = part_none sets a call c inner
  not_nets_part end [] (x ∷ y ∷ others) = negative end (x ∷ y ∷ others)
  not_nets_part end (n ∷ []) (x ∷ y ∷ others) = negative end (x ∷ y ∷ others)
  not_nets_part end (n ∷ k ∷ nets) (x ∷ y ∷ others) = negative end (x ∷ y ∷ others)

  ports_part : (end : End) (proto : Option Proto) (cs : List PortChoice) → Asks (port_blocks end proto cs) (ports_asked sets a end proto cs)
  ports_part end proto [] = part_none sets a call c inner
  ports_part end proto (x ∷ []) = part_none sets a call c inner
  ports_part end proto (x ∷ y ∷ cs) = part_one sets a call c inner _ _ (positive_does sets a call c inner PortChoice (choice_alternative end proto) (choice_test sets a end proto) (choice_fits sets a end proto) (x ∷ y ∷ cs))

  rule_part : (r : ViewRule) → Asks (blocks_of r) (asked sets a r)
  rule_part r =
      part_join sets a call c inner _ _ _ _ (nets_part Source r.source.nets) (
      part_join sets a call c inner _ _ _ _ (nets_part Dest r.destination.nets) (
      part_join sets a call c inner _ _ _ _ (ports_part Source r.protocol (port_choices r.source.ports)) (
      part_join sets a call c inner _ _ _ _ (ports_part Dest r.protocol (port_choices r.destination.ports)) (
      part_join sets a call c inner _ _ _ _ (not_nets_part Source r.source.nets r.source.not_nets) (not_nets_part Dest r.destination.nets r.destination.not_nets)))))

  -- ---- the main rule

  -- a rule that marks and tells its reason
  tagged_hit : (p : ℕ) (ms : List Match) (v k : ℕ) (why : Reason) (rs : List ChainRule) (m : ℕ) (s : Reasons) → hold_all (holds sets a) m ms ≡ true → goes p (tagged ms (target.Mark v k) why ∷ rs) m s ≡ goes (suc p) rs (marked m v k) (with_reason s.side why s)
  tagged_hit p ms v k why rs m s h =
      walk_hit last_reason (holds sets a) call c p (tagged ms (target.Mark v k) why) rs m s h ∙ ap (λ t. goes (suc p) rs (marked m v k) t) (noted_as sets a call c inner p (tagged ms (target.Mark v k) why) s)

  -- a rule that tells its reason and drops
  pub tagged_drop : (p : ℕ) (ms : List Match) (why : Reason) (rs : List ChainRule) (m : ℕ) (s : Reasons) → hold_all (holds sets a) m ms ≡ true → goes p (tagged ms target.Drop why ∷ rs) m s ≡ Dropped (with_reason s.side why s)
  tagged_drop p ms why rs m s h =
      walk_hit last_reason (holds sets a) call c p (tagged ms target.Drop why) rs m s h ∙ ap Dropped (noted_as sets a call c inner p (tagged ms target.Drop why) s)

  -- RETURN, where a bit is set
  bit_hit : (p i : ℕ) (rs : List ChainRule) (m : ℕ) (s : Reasons) → bit_at m i ≡ 1 → goes p (plain (is_set (2 ^ i) ∷ []) target.Return ∷ rs) m s ≡ Left m s
  bit_hit p i rs m s one =
      walk_hit last_reason (holds sets a) call c p (plain (is_set (2 ^ i) ∷ []) target.Return) rs m s (only sets a m (is_set (2 ^ i)) true (is_one sets a m i one))
      ∙ ap (λ t. Left m t) (noted_as sets a call c inner p (plain (is_set (2 ^ i) ∷ []) target.Return) s)

  bit_miss : (p i : ℕ) (rs : List ChainRule) (m : ℕ) (s : Reasons) → bit_at m i ≡ 0 → goes p (plain (is_set (2 ^ i) ∷ []) target.Return ∷ rs) m s ≡ goes (suc p) rs m s
  bit_miss p i rs m s z = miss sets a call c inner p (plain (is_set (2 ^ i) ∷ []) target.Return) rs m s (only sets a m (is_set (2 ^ i)) false (is_not_one sets a m i z))

  pub return_hit : (p : ℕ) (rs : List ChainRule) (m : ℕ) (s : Reasons) → bit_at m 16 ≡ 1 → goes p (plain (is_set accept_mark ∷ []) target.Return ∷ rs) m s ≡ Left m s
  return_hit p rs m s one = bit_hit p 16 rs m s one

  pub return_miss : (p : ℕ) (rs : List ChainRule) (m : ℕ) (s : Reasons) → bit_at m 16 ≡ 0 → goes p (plain (is_set accept_mark ∷ []) target.Return ∷ rs) m s ≡ goes (suc p) rs m s
  return_miss p rs m s z = bit_miss p 16 rs m s z

  -- what rules say at the end of a walk that goes on behind them
  abbrev After : List ChainRule → ℕ → Reasons → Answer → Type 0
  After rest m s ans = (q n : ℕ) → KeepsBits m n → EndsAs (goes q rest n s) n s ans

  abbrev log_rule : List Match → ChainRule
  log_rule ms = record { matches = ms; target = target.Log; tag = tag.Log }

  -- the rules of an action, where their matches hold or not
  main_step : (x : Action) (ms : List Match) (why : Reason) (b : Bool) (rest : List ChainRule) (p m : ℕ) (s : Reasons) (ans : Answer) → hold_all (holds sets a) m ms ≡ b → bit_at m 16 ≡ 0 → IsClearFor x m → After rest m s ans → EndsAs (goes p (main_rules x ms why ++ rest) m s) m s (elim b [ true ↦ answer_of x why ans | false ↦ ans ])
  main_step action.Allow ms why true rest p m s ans h z clear after =
      let n = marked m accept_mark accept_mark in
      let one : bit_at n 16 ≡ 1 = set_same m 16 (lit< tt) in
      (n, tagged_hit p ms accept_mark accept_mark why (plain (is_set accept_mark ∷ []) target.Return ∷ rest) m s h ∙ return_hit (suc p) rest n (with_reason s.side why s) one, one)
  main_step action.Allow ms why false rest p m s ans h z clear after =
      to_ends _ _ m s ans (miss sets a call c inner p (tagged ms (set_mark accept_mark) why) (plain (is_set accept_mark ∷ []) target.Return ∷ rest) m s h ∙ return_miss (suc p) rest m s z)
      (after (suc (suc p)) m (keeps_same m))
  main_step action.Deny ms why true rest p m s ans h z clear after = tagged_drop p ms why rest m s h
  main_step action.Deny ms why false rest p m s ans h z clear after =
      to_ends _ _ m s ans (miss sets a call c inner p (tagged ms target.Drop why) rest m s h) (after (suc p) m (keeps_same m))
  main_step action.Log ms why true rest p m s ans h z clear after =
      to_ends _ _ m s ans (walk_hit last_reason (holds sets a) call c p (log_rule ms) rest m s h ∙ ap (λ t. goes (suc p) rest m t) (noted_as sets a call c inner p (log_rule ms) s))
      (after (suc p) m (keeps_same m))
  main_step action.Log ms why false rest p m s ans h z clear after =
      to_ends _ _ m s ans (miss sets a call c inner p (log_rule ms) rest m s h) (after (suc p) m (keeps_same m))
  main_step action.Pass ms why true rest p m s ans h z clear after =
      let n = marked m pass_mark pass_mark in
      let one : bit_at n 17 ≡ 1 = set_same m 17 (lit< tt) in (
        n,
        why,
        tagged_hit p ms pass_mark pass_mark why (plain (is_set pass_mark ∷ []) target.Return ∷ rest) m s h ∙ bit_hit (suc p) 17 rest n (with_reason s.side why s) one,
        set_other m 17 16 (lit< tt) (lit< tt) (omega arith) ∙ z,
        one,
      )
  main_step action.Pass ms why false rest p m s ans h z clear after =
      to_ends _ _ m s ans (miss sets a call c inner p (tagged ms (set_mark pass_mark) why) (plain (is_set pass_mark ∷ []) target.Return ∷ rest) m s h ∙ bit_miss (suc p) 17 rest m s clear)
      (after (suc (suc p)) m (keeps_same m))

  -- the rules of one rule, and then what comes behind them
  rule_step : (r : ViewRule) (why : Reason) (rest : List ChainRule) (p m : ℕ) (s : Reasons) (ans : Answer) → is_formed_view_rule r ≡ true → bit_at m 16 ≡ 0 → IsClearFor r.action m → After rest m s ans → EndsAs (goes p (rendered_rule r why ++ rest) m s) m s (elim (view_rule_matches sets r a) [ true ↦ answer_of r.action why ans | false ↦ ans ])
  rule_step r why rest p m s ans formed z clear after = by_never r.never refl (is_void r.protocol r.not_protocol) refl
    where
      answer : Bool → Answer
      answer b = elim b [ true ↦ answer_of r.action why ans | false ↦ ans ]

      main : List ChainRule
      main = main_rules r.action (main_matches r) why ++ rest

      behind_blocks : r.never ≡ false → is_void r.protocol r.not_protocol ≡ false → (q : ℕ) × (n : ℕ) × (goes p (block_rules (blocks_of r) ++ main) m s ≡ goes q main n s) × KeepsBits m n × (hold_all (holds sets a) n (block_match (blocks_of r)) ≡ asked sets a r) → EndsAs (goes p ((block_rules (blocks_of r) ++ main_rules r.action (main_matches r) why) ++ rest) m s) m s (answer (view_rule_matches sets r a))
      behind_blocks never void y =
          let says : met sets a y.1 (main_matches r) ≡ view_rule_matches sets r a = main_truth sets a r y.1 formed void y.4 ∙ sym (ap (λ t. not t && criteria sets a r) never) in
          to_ends _ _ m s (answer (view_rule_matches sets r a)) (ap (λ l. goes p l m s) (append_assoc (block_rules (blocks_of r)) (main_rules r.action (main_matches r) why) rest) ∙ y.2)
          (ends_from _ m y.1 s (answer (view_rule_matches sets r a)) y.3
          (main_step r.action (main_matches r) why (view_rule_matches sets r a) rest y.0 y.1 s ans says (y.3.accept ∙ z) (clear_kept r.action m y.1 y.3 clear) (λ q n k. after q n (keeps_on m y.1 n y.3 k))))

      nothing : view_rule_matches sets r a ≡ false → EndsAs (goes p rest m s) m s (answer (view_rule_matches sets r a))
      nothing e = subst (λ t. EndsAs (goes p rest m s) m s (answer t)) (sym e) (after p m (keeps_same m))

      by_never : (b : Bool) → r.never ≡ b → (v : Bool) → is_void r.protocol r.not_protocol ≡ v → EndsAs (goes p ((elim (b || v) [ true ↦ [] | false ↦ block_rules (blocks_of r) ++ main_rules r.action (main_matches r) why ]) ++ rest) m s) m s (answer (view_rule_matches sets r a))
      by_never true never v void = nothing (never_met sets a r never)
      by_never false never true void = nothing (void_met sets a r never void)
      by_never false never false void = behind_blocks never void (before_main sets a call c inner (blocks_of r) (asked sets a r) (rule_part r) main p m s)

  -- all rules: the walk ends as the rules say
  pub rules_end : (why : ℕ → Reason) (place : ℕ) (rs : List ViewRule) (p m : ℕ) (s : Reasons) → list_all is_formed_view_rule rs ≡ true → bit_at m 16 ≡ 0 → AllClearFor rs m → EndsAs (goes p (rendered_rules why place rs) m s) m s (first_answer (met_view_rules sets a why place rs))
  rules_end why place [] p m s formed z clear = (m, walk-end last_reason (holds sets a) call c p m s, keeps_same m)
  rules_end why place (r ∷ rs) p m s formed z clear =
      let each = both_pass (is_formed_view_rule r) (list_all is_formed_view_rule rs) formed in
      rule_step r (why place) (rendered_rules why (suc place) rs) p m s (first_answer (met_view_rules sets a why (suc place) rs)) each.0 z clear.0
      (λ q n k. rules_end why (suc place) rs q n s each.1 (k.accept ∙ z) (all_clear_kept rs m n k clear.1))
