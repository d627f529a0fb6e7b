-- The walk of a hook of the host tables: past the failsafe ports it comes to the policies of its interface's host endpoint, and what it tells
-- is what the view says.
use Rattle.std.proofs.Common.{◌≡◌, ℕ, suc, Bool, true, false, ◌||◌, cond, List, [], ◌∷◌, map, Option, Some, None, is_some, refl, sym, ap, ◌∙◌, subst}
use Rattle.std.specs.List.{list_any, list_all}
use Rattle.std.specs.Str.{bytes_eq}
use Rattle.std.specs.Cmp.Lexicographic.{texts_ties}
use Rattle.std.specs.FinMap as maps
use Rattle.fx_base.specs.Same.{same_bytes, both_pass}
use Rattle.fx_model.specs.declared.packet.State.TheVariants.{New}
use Rattle.fx_model.specs.declared.packet.Packet.{Packet}
use Rattle.fx_model.specs.declared.chain.Match.TheVariants as match
use Rattle.fx_model.specs.declared.chain.Target.TheVariants as target
use Rattle.fx_model.specs.declared.chain.Reason.TheVariants as reason
use Rattle.fx_model.specs.declared.chain.ChainRule.{ChainRule}
use Rattle.fx_model.specs.declared.view.View.{View}
use Rattle.fx_model.specs.declared.view.ViewEndpoint.{ViewEndpoint}
use Rattle.fx_model.specs.Directions.{Direction, Ingress, Egress}
use Rattle.fx_model.specs.Machine.{Test, holds, hold_all, iface_at, marked, rules_in}
use Rattle.fx_model.specs.Policy.{Decision}
use Rattle.fx_model.specs.Ranks.{IsRanked}
use Rattle.fx_model.specs.Rendering.{plain, tagged}
use Rattle.fx_model.specs.Tables.{ChainName, Chains, forward, host_hook, host_root_of, host_endpoint_chain}
use Rattle.fx_model.specs.ViewPolicy.{HasFormedRules, view_endpoint_verdict}
use Rattle.fx_model.specs.Walk.{Onward, Ended, Accepted, Dropped, Left, Through, verdict_of, noted_in, onward, after_jump, after_goto, over_rules, over_chain}
use Rattle.fx_laws.proofs.EntryLookups.{is, last}
use Rattle.fx_walk.specs.FromChain.{LastSeen, hop_at, last_match, none_met}
use Rattle.fx_walk.proofs.Blocks.{only}
use Rattle.fx_walk.proofs.FromRuns.{last_of}
use Rattle.fx_walk.proofs.Sides.{sides_end, state_misses}
use Rattle.fx_walk.proofs.Walks.{walk_hit, walk_miss, walk-end}
use Rattle.fx_hostep.specs.declared.failsafe.Failsafe.{Failsafe}
use Rattle.fx_hostep.specs.declared.failsafe.FailsafePort.{FailsafePort}
use Rattle.fx_hostep.specs.FailsafePorts.{ports_for, is_open_to, is_failsafe, has_port_protocol, have_port_protocols}
use Rattle.fx_hostep.specs.HostRuns.{is_failsafe_chain, why_by, why_of, if_host, view_host_answer, view_host_verdict}
use Rattle.fx_hostep.specs.HostTables.{failsafe_chain, failsafe_rule, failsafe_rules, host_end, host_endpoints, host_rules, hook_rules, host_tables_of, to_failsafe, way_to, ways_to}
use Rattle.fx_hostep.specs.HostVerdict.{OpenPort, HostAnswer, is_no_namespace, unguarded, by_ports}
use Rattle.fx_hostep.proofs.HostAt.{host_tables_render, hook_at, root_at, failsafe_at, host_at, host_at_key, hosted, if_hosted}
use Rattle.fx_hostep.proofs.PortTruth.{port_met}
use Rattle.fx_hostep.proofs.Related.{guarding, begun, Told, told}

-- ---- what the end of a walk tells

pub record Tells (e : Ended LastSeen) (x : HostAnswer) : Type 0 where
  pub verdict : verdict_of e ≡ x.verdict
  pub why : why_of (noted_in e).reason (noted_in e).last ≡ x.why

tells_from : (e g : Ended LastSeen) (x : HostAnswer) → e ≡ g → Tells g x → Tells e x
tells_from e g x q h = subst (λ (y : Ended LastSeen). Tells y x) (sym q) h

tells_goto : (e : Ended LastSeen) (x : HostAnswer) → Tells e x → Tells (after_goto e) x
tells_goto (Accepted s) x h = h
tells_goto (Dropped s) x h = h
tells_goto (Left m s) x h = h
tells_goto (Through m s) x h = record { verdict = h.verdict; why = h.why }

goto_ends : (e : Ended LastSeen) (go : Onward LastSeen) → onward (after_goto e) go ≡ after_goto e
goto_ends (Accepted s) go = refl
goto_ends (Dropped s) go = refl
goto_ends (Left m s) go = refl
goto_ends (Through m s) go = refl

-- this rule was the last, and none gave a reason
abbrev seen_at : ChainName → ℕ → LastSeen
seen_at c p = record { reason = None; last = Some (hop_at c p) }

hook_told : (d : Direction) → why_of None (Some (hop_at (host_hook d) 2)) ≡ None
hook_told Ingress = refl
hook_told Egress = refl

failsafe_told : (d : Direction) (p : ℕ) → why_of None (Some (hop_at (failsafe_chain d) p)) ≡ Some OpenPort
failsafe_told Ingress p = refl
failsafe_told Egress p = refl

-- where policies told of it
told_by_rule : (e : Ended LastSeen) (x : Decision) → Told e x → Tells e (by_ports false x)
told_by_rule e x t = record {
  verdict = t.verdict;
  why = ap (λ b. why_by b (noted_in e).reason) t.out ∙ ap (why_by false) t.reason;
}

-- ---- names

host_first : (d : Direction) (k : List ℕ) → bytes_eq (host_endpoint_chain d k) forward ≡ false
host_first Ingress k = refl
host_first Egress k = refl

host_not_failsafe : (d : Direction) (k : List ℕ) → is_failsafe_chain (host_endpoint_chain d k) ≡ false
host_not_failsafe Ingress k = refl
host_not_failsafe Egress k = refl

-- ---- interfaces of host endpoints

or_false : (b : Bool) → (b || false) ≡ b
or_false true = refl
or_false false = refl

newer : {X : Type 0} (b c : Bool) (y : X) (p : Option X) → (c || is_some (cond b (Some y) p)) ≡ ((b || c) || is_some p)
newer true true y p = refl
newer true false y p = refl
newer false true y p = refl
newer false false y p = refl

abbrev on_iface : List ℕ → List (List ℕ × ViewEndpoint) → Bool
on_iface q xs = list_any (λ x. bytes_eq q x.0) xs

any_last : (q : List ℕ) (xs : List (List ℕ × ViewEndpoint)) (p : Option ViewEndpoint) → is_some (last xs q p) ≡ (on_iface q xs || is_some p)
any_last q [] p = refl
any_last q (x ∷ xs) p =
    any_last q xs (cond (is q x.0) (Some x.1) p)
    ∙ ap (λ b. on_iface q xs || is_some (cond b (Some x.1) p)) (sym (texts_ties q x.0))
    ∙ newer (bytes_eq q x.0) (on_iface q xs) x.1 p

both_directions : (f : Failsafe) → have_port_protocols f ≡ true → (d : Direction) → list_all has_port_protocol (ports_for d f) ≡ true
both_directions f h Ingress = (both_pass (list_all has_port_protocol f.inbound) (list_all has_port_protocol f.outbound) h).0
both_directions f h Egress = (both_pass (list_all has_port_protocol f.inbound) (list_all has_port_protocol f.outbound) h).1

module _ (v : View) (f : Failsafe) (a : Packet) (formed : HasFormedRules v) (ports : have_port_protocols f ≡ true) (ranked : IsRanked (host_tables_of v f).chains) (new : a.state ≡ New) (d : Direction) where
  abbrev chains : Chains
  chains = (host_tables_of v f).chains

  abbrev test : Test
  test = holds v.sets a

  abbrev call : ℕ → ChainName → Onward LastSeen
  call n = over_chain last_match test chains n

  abbrev iface : List ℕ
  iface = iface_at (host_end d) a

  -- the hook, its root, and the chains of failsafe ports and of the host endpoint
  abbrev hook : ChainName
  hook = host_hook d

  abbrev root : ChainName
  root = host_root_of d

  abbrev open_ports : ChainName
  open_ports = failsafe_chain d

  abbrev guard : ChainName
  guard = host_endpoint_chain d iface

  called : (n : ℕ) (c : ChainName) (rs : List ChainRule) (m : ℕ) (s : LastSeen) → rules_in chains c ≡ rs → call (suc n) c m s ≡ over_rules last_match test (call n) c 1 rs m s
  unfolding over_chain over_rules
  called n c rs m s e = ap (λ x. over_rules last_match test (call n) c 1 x m s) e

  -- ---- failsafe ports

  abbrev third : LastSeen
  third = seen_at guard 3

  abbrev PortsEnd : Bool → Ended LastSeen → ℕ → Type 0
  PortsEnd true e m = (p : ℕ) × (e ≡ Accepted (seen_at open_ports p))
  PortsEnd false e m = e ≡ Through m third

  ports_from : (b : Bool) (e g : Ended LastSeen) (m : ℕ) → e ≡ g → PortsEnd b g m → PortsEnd b e m
  ports_from true e g m q h = (h.0, q ∙ h.1)
  ports_from false e g m q h = q ∙ h

  abbrev over_ports : ℕ → List FailsafePort → ℕ → Ended LastSeen
  over_ports p ps m = over_rules last_match test (call 1) open_ports p (map failsafe_rule ps) m third

  ports_end : (ps : List FailsafePort) (p m : ℕ) → list_all has_port_protocol ps ≡ true → PortsEnd (list_any (is_open_to a) ps) (over_ports p ps m) m
  ports_end [] p m has = walk-end last_match test (call 1) open_ports p m third
  ports_end (x ∷ xs) p m has =
      let both = both_pass (has_port_protocol x) (list_all has_port_protocol xs) has in
      by_test both.0 (is_open_to a x) refl (ports_end xs (suc p) m both.1)
    where
      by_test : has_port_protocol x ≡ true → (b : Bool) → is_open_to a x ≡ b → PortsEnd (list_any (is_open_to a) xs) (over_ports (suc p) xs m) m → PortsEnd (b || list_any (is_open_to a) xs) (over_ports p (x ∷ xs) m) m
      by_test its true e later = (p, walk_hit last_match test (call 1) open_ports p (failsafe_rule x) (map failsafe_rule xs) m third (port_met v.sets a m x its ∙ e))
      by_test its false e later =
          ports_from (list_any (is_open_to a) xs) (over_ports p (x ∷ xs) m) (over_ports (suc p) xs m) m
          (walk_miss last_match test (call 1) open_ports p (failsafe_rule x) (map failsafe_rule xs) m third (port_met v.sets a m x its ∙ e)) later

  -- ---- the chain of a host endpoint

  module _ (e : ViewEndpoint) (at : maps.get v.endpoints iface ≡ Some e) (host : is_no_namespace e.ns ≡ true) where
    abbrev decision : Decision
    decision = view_endpoint_verdict v d e a

    abbrev behind_ports : Onward LastSeen
    behind_ports = over_rules last_match test (call 2) guard 4 (guarding d e)

    guarded : (m : ℕ) → Tells (behind_ports m third) (by_ports false decision)
    guarded m =
        told_by_rule (behind_ports m third) decision
        (told test chains ranked 2 guard (host_first d iface) (host_not_failsafe d iface) d e 4 m 3 decision
        (sides_end a v chains (host_tables_render v f) formed 1 guard (host_first d iface) d e 4 m begun))

    past_ports : (m : ℕ) (b : Bool) (w : Ended LastSeen) → PortsEnd b w m → Tells (onward (after_jump w) behind_ports) (by_ports b decision)
    past_ports m true w h =
        tells_from (onward (after_jump w) behind_ports) (Accepted (seen_at open_ports h.0)) (by_ports true decision) (ap (λ y. onward (after_jump y) behind_ports) h.1)
        (record { verdict = refl; why = failsafe_told d h.0 })
    past_ports m false w h =
        tells_from (onward (after_jump w) behind_ports) (behind_ports m third) (by_ports false decision) (ap (λ y. onward (after_jump y) behind_ports) h) (guarded m)

    -- from a rule of the root on
    host_tells : (m q : ℕ) → Tells (call 3 guard m (seen_at root q)) (by_ports (is_failsafe f d a) decision)
    host_tells m q =
        tells_from (call 3 guard m s) (onward (after_jump (call 2 open_ports m third)) behind_ports) (by_ports (is_failsafe f d a) decision) to_ports
        (past_ports m (is_failsafe f d a) (call 2 open_ports m third)
        (ports_from (is_failsafe f d a) (call 2 open_ports m third) (over_ports 1 (ports_for d f) m) m (called 1 open_ports (failsafe_rules d f) m third (failsafe_at v f d))
        (ports_end (ports_for d f) 1 m (both_directions f ports d))))
      where
        s : LastSeen
        s = seen_at root q

        known : ChainRule
        known = tagged (match.State true ∷ []) target.Accept reason.Established

        invalid : ChainRule
        invalid = tagged (match.State false ∷ []) target.Drop reason.Invalid

        to_ports : call 3 guard m s ≡ onward (after_jump (call 2 open_ports m third)) behind_ports
        to_ports =
            called 2 guard (host_rules d e) m s (host_at v f d iface e at host)
            ∙ walk_miss last_match test (call 2) guard 1 known (invalid ∷ to_failsafe d ∷ guarding d e) m s (state_misses a v chains (host_tables_render v f) formed true m new)
            ∙ walk_miss last_match test (call 2) guard 2 invalid (to_failsafe d ∷ guarding d e) m s (state_misses a v chains (host_tables_render v f) formed false m new)
            ∙ walk_hit last_match test (call 2) guard 3 (to_failsafe d) (guarding d e) m s refl

  -- ---- the way to it

  abbrev from_hook : LastSeen
  from_hook = seen_at hook 2

  abbrev WaysEnd : Bool → Ended LastSeen → ℕ → Type 0
  WaysEnd true e m = (q : ℕ) × (e ≡ after_goto (call 3 guard m (seen_at root q)))
  WaysEnd false e m = e ≡ Through m from_hook

  ways_from : (b : Bool) (e g : Ended LastSeen) (m : ℕ) → e ≡ g → WaysEnd b g m → WaysEnd b e m
  ways_from true e g m q h = (h.0, q ∙ h.1)
  ways_from false e g m q h = q ∙ h

  way_met : (m : ℕ) (k : List ℕ) (b : Bool) → bytes_eq iface k ≡ b → hold_all test m (match.Iface (host_end d) k false ∷ []) ≡ b
  unfolding holds
  way_met m k b h = only v.sets a m (match.Iface (host_end d) k false) b h

  abbrev over_ways : ℕ → List (List ℕ × ViewEndpoint) → ℕ → Ended LastSeen
  over_ways p xs m = over_rules last_match test (call 3) root p (ways_to d xs) m from_hook

  ways_end : (xs : List (List ℕ × ViewEndpoint)) (p m : ℕ) → WaysEnd (on_iface iface xs) (over_ways p xs m) m
  ways_end [] p m = walk-end last_match test (call 3) root p m from_hook
  ways_end (x ∷ xs) p m = by_test (bytes_eq iface x.0) refl (ways_end xs (suc p) m)
    where
      by_test : (b : Bool) → bytes_eq iface x.0 ≡ b → WaysEnd (on_iface iface xs) (over_ways (suc p) xs m) m → WaysEnd (b || on_iface iface xs) (over_ways p (x ∷ xs) m) m
      by_test true e later = (
        p,
        walk_hit last_match test (call 3) root p (way_to d x.0) (ways_to d xs) m from_hook (way_met m x.0 true e)
            ∙ goto_ends (call 3 (host_endpoint_chain d x.0) m (seen_at root p)) (over_rules last_match test (call 3) root (suc p) (ways_to d xs))
            ∙ ap (λ k. after_goto (call 3 (host_endpoint_chain d k) m (seen_at root p))) (sym (same_bytes iface x.0 e)),
      )
      by_test false e later =
          ways_from (on_iface iface xs) (over_ways p (x ∷ xs) m) (over_ways (suc p) xs m) m
          (walk_miss last_match test (call 3) root p (way_to d x.0) (ways_to d xs) m from_hook (way_met m x.0 false e)) later

  listed : (o : Option ViewEndpoint) → maps.get v.endpoints iface ≡ o → on_iface iface (host_endpoints v) ≡ is_some (hosted o)
  listed o at = sym (or_false (on_iface iface (host_endpoints v))) ∙ sym (any_last iface (host_endpoints v) None) ∙ ap is_some (host_at_key v iface o at)

  -- no way leads on
  free_tells : (m : ℕ) (w : Ended LastSeen) → w ≡ Through m from_hook → Tells w unguarded
  free_tells m w e = tells_from w (Through m from_hook) unguarded e (record { verdict = refl; why = hook_told d })

  ways_tell : (m : ℕ) (w : Ended LastSeen) (o : Option ViewEndpoint) → maps.get v.endpoints iface ≡ o → WaysEnd (is_some (hosted o)) w m → Tells w (view_host_answer v f d a o)
  ways_tell m w None at h = free_tells m w h
  ways_tell m w (Some e) at h = by_host (is_no_namespace e.ns) refl h
    where
      by_host : (b : Bool) → is_no_namespace e.ns ≡ b → WaysEnd (is_some (if_hosted b e)) w m → Tells w (if_host b (by_ports (is_failsafe f d a) (view_endpoint_verdict v d e a)))
      by_host true host k =
          tells_from w (after_goto (call 3 guard m (seen_at root k.0))) (by_ports (is_failsafe f d a) (view_endpoint_verdict v d e a)) k.1
          (tells_goto (call 3 guard m (seen_at root k.0)) (by_ports (is_failsafe f d a) (view_endpoint_verdict v d e a)) (host_tells e at host m k.0))
      by_host false host k = free_tells m w k

  root_tells : (m : ℕ) → Tells (call 4 root m from_hook) (view_host_verdict v f d iface a)
  root_tells m =
      ways_tell m (call 4 root m from_hook) (maps.get v.endpoints iface) refl
      (subst (λ b. WaysEnd b (call 4 root m from_hook) m) (listed (maps.get v.endpoints iface) refl)
      (ways_from (on_iface iface (host_endpoints v)) (call 4 root m from_hook) (over_ways 1 (host_endpoints v) m) m (called 3 root (ways_to d (host_endpoints v)) m from_hook (root_at v f d))
      (ways_end (host_endpoints v) 1 m)))

  -- ---- the whole walk

  abbrev at_end : ℕ → Onward LastSeen
  at_end p = over_rules last_match test (call 4) hook p []

  after_hook : (p : ℕ) (e : Ended LastSeen) (x : HostAnswer) → Tells e x → Tells (onward (after_jump e) (at_end p)) x
  after_hook p (Accepted s) x h = h
  after_hook p (Dropped s) x h = h
  after_hook p (Left m s) x h = tells_from (at_end p m s) (Through m s) x (walk-end last_match test (call 4) hook p m s) (record { verdict = h.verdict; why = h.why })
  after_hook p (Through m s) x h = tells_from (at_end p m s) (Through m s) x (walk-end last_match test (call 4) hook p m s) h

  abbrev first_mark : ℕ
  first_mark = marked 0 0 0xf0000

  pub hook_tells : Tells (call 5 hook 0 (last_of none_met)) (view_host_verdict v f d iface a)
  hook_tells =
      tells_from (call 5 hook 0 (last_of none_met)) (onward (after_jump (call 4 root first_mark from_hook)) (at_end 3)) (view_host_verdict v f d iface a) begins
      (after_hook 3 (call 4 root first_mark from_hook) (view_host_verdict v f d iface a) (root_tells first_mark))
    where
      mark_rule : ChainRule
      mark_rule = plain [] (target.Mark 0 0xf0000)

      jump_rule : ChainRule
      jump_rule = plain [] (target.Jump root)

      begins : call 5 hook 0 (last_of none_met) ≡ onward (after_jump (call 4 root first_mark from_hook)) (at_end 3)
      begins =
          called 4 hook (hook_rules d) 0 (last_of none_met) (hook_at v f d)
          ∙ walk_hit last_match test (call 4) hook 1 mark_rule (jump_rule ∷ []) 0 (last_of none_met) refl
          ∙ walk_hit last_match test (call 4) hook 2 jump_rule [] first_mark (seen_at hook 1) refl
