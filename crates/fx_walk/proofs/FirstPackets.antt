-- The tables of a view give each first packet the view's verdict and reasons.
use Rattle.std.proofs.Common.{◌≡◌, ℕ, suc, Bool, true, false, List, [], ◌∷◌, Option, Some, None, refl, sym, ap, ◌∙◌, subst, codes}
use Rattle.std.specs.FinMap as maps
use Rattle.fx_model.specs.declared.packet.State.TheVariants.{New}
use Rattle.fx_model.specs.declared.packet.Packet.{Packet}
use Rattle.fx_model.specs.declared.packet.Verdict.{Verdict}
use Rattle.fx_model.specs.declared.packet.Verdict.TheVariants.{Allow, Deny}
use Rattle.fx_model.specs.declared.chain.Match.TheVariants as match
use Rattle.fx_model.specs.declared.chain.Target.TheVariants as target
use Rattle.fx_model.specs.declared.chain.Reason.{Reason}
use Rattle.fx_model.specs.declared.chain.ChainRule.{ChainRule}
use Rattle.fx_model.specs.declared.view.View.{View}
use Rattle.fx_model.specs.declared.view.ViewEndpoint.{ViewEndpoint}
use Rattle.fx_model.specs.Directions.{Direction, Ingress, Egress}
use Rattle.fx_model.specs.Rendering.{plain}
use Rattle.fx_model.specs.Tables.{Chains, forward, forward_rules, end_of, root_of}
use Rattle.fx_model.specs.Ranks.{IsRanked}
use Rattle.fx_model.specs.Machine.{holds, marked, iface_at, Reasons, nothing_noted, with_reason, last_reason, Decides}
use Rattle.fx_model.specs.Walk.{Onward, Ended, Dropped, onward, after_jump, over_rules}
use Rattle.fx_model.specs.Policy.{Decision, Outcome, unknown_or_free, is_workload, side_verdict, with_ingress, both_sides}
use Rattle.fx_model.specs.ViewPolicy.{view_verdict_at, view_verdict, HasFormedRules}
use Rattle.fx_model.specs.Formed.{has_workload_interfaces}
use Rattle.fx_laws.proofs.FormedLemmas.{on_workloads}
use Rattle.fx_walk.proofs.Walks.{walk_hit, walk_miss, walk-end, Means, walked-run}
use Rattle.fx_walk.proofs.Families.{Renders}
use Rattle.fx_walk.proofs.Sides.{Concludes, call, called, workload_met, root_decision, root_ends}

module _ (a : Packet) (v : View) (chains : Chains) (given : Renders v chains) (formed : HasFormedRules v) where
  -- the rules of the first chain from here on
  abbrev first : ℕ → List ChainRule → Onward Reasons
  first p rs = over_rules last_reason (holds v.sets a) (call a v chains given.rules formed 4) forward p rs

  abbrev turned : Direction → Reasons → Reasons
  turned d s = record s { side = Some d }

  abbrev DecidedSide : Direction → ℕ → List ChainRule → Ended Reasons → Reasons → Verdict → Reason → Type 0
  DecidedSide d p rs e s Allow why = (n : ℕ) × (e ≡ first (suc p) rs n (with_reason (Some d) why (turned d s)))
  DecidedSide d p rs e s Deny why = e ≡ Dropped (with_reason (Some d) why (turned d s))

  -- what the first chain's rule for a side comes to, where `rs` follow
  abbrev SideGoes : Direction → ℕ → List ChainRule → Ended Reasons → Reasons → Option Decision → Type 0
  SideGoes d p rs e s None = (n : ℕ) × (e ≡ first (suc p) rs n s)
  SideGoes d p rs e s (Some x) = DecidedSide d p rs e s x.verdict x.why

  after_root : (d : Direction) (p : ℕ) (rs : List ChainRule) (x : Ended Reasons) (s : Reasons) (w : Verdict) (why : Reason) → Concludes x (turned d s) w why → DecidedSide d p rs (onward (after_jump x) (first (suc p) rs)) s w why
  after_root d p rs x s Allow why h = (h.0, ap (λ y. onward (after_jump y) (first (suc p) rs)) h.1)
  after_root d p rs x s Deny why h = ap (λ y. onward (after_jump y) (first (suc p) rs)) h

  abbrev side_rule : Direction → ChainRule
  side_rule d = plain (match.Iface (end_of d) (codes "cali") true ∷ []) (target.Jump (root_of d))

  abbrev place_of : Direction → ℕ
  place_of Ingress = 3
  place_of Egress = 2

  turned_as : (d : Direction) (s : Reasons) → last_reason forward (place_of d) (side_rule d) s ≡ turned d s
  unfolding last_reason
  turned_as Ingress s = refl
  turned_as Egress s = refl

  abbrev from_side : Direction → List ChainRule → ℕ → Reasons → Ended Reasons
  from_side d rs m s = first (place_of d) (side_rule d ∷ rs) m s

  side_reached : (d : Direction) (rs : List ChainRule) (m : ℕ) (s : Reasons) (o : Option ViewEndpoint) → a.state ≡ New → maps.get v.endpoints (iface_at (end_of d) a) ≡ o → is_workload (iface_at (end_of d) a) ≡ true → DecidedSide d (place_of d) rs (from_side d rs m s) s (root_decision a v chains given.rules formed d o).verdict (root_decision a v chains given.rules formed d o).why
  side_reached d rs m s o new e h =
      subst (λ x. DecidedSide d (place_of d) rs x s (root_decision a v chains given.rules formed d o).verdict (root_decision a v chains given.rules formed d o).why) (sym hit)
      (after_root d (place_of d) rs (call a v chains given.rules formed 4 (root_of d) m (turned d s)) s _ _ (root_ends a v chains given.rules formed given.ways 0 d new m (turned d s) o e))
    where
      hit : from_side d rs m s ≡ onward (after_jump (call a v chains given.rules formed 4 (root_of d) m (turned d s))) (first (suc (place_of d)) rs)
      hit =
          walk_hit last_reason (holds v.sets a) (call a v chains given.rules formed 4) forward (place_of d) (side_rule d) rs m s (workload_met a v chains given.rules formed m (end_of d) true h)
          ∙ ap (λ t. onward (after_jump (call a v chains given.rules formed 4 (root_of d) m t)) (first (suc (place_of d)) rs)) (turned_as d s)

  side_goes : (d : Direction) (rs : List ChainRule) (m : ℕ) (s : Reasons) → a.state ≡ New → ((x : ViewEndpoint) → maps.get v.endpoints (iface_at (end_of d) a) ≡ Some x → is_workload (iface_at (end_of d) a) ≡ true) → (o : Option ViewEndpoint) → maps.get v.endpoints (iface_at (end_of d) a) ≡ o → (b : Bool) → is_workload (iface_at (end_of d) a) ≡ b → SideGoes d (place_of d) rs (from_side d rs m s) s (side_verdict (view_verdict_at v d a o) (iface_at (end_of d) a))
  side_goes d rs m s new on (Some x) e b h = side_reached d rs m s (Some x) new e (on x e)
  side_goes d rs m s new on None e true h = subst (λ x. SideGoes d (place_of d) rs (from_side d rs m s) s (unknown_or_free x)) (sym h) (side_reached d rs m s None new e h)
  side_goes d rs m s new on None e false h = subst (λ x. SideGoes d (place_of d) rs (from_side d rs m s) s (unknown_or_free x)) (sym h) (m, walk_miss last_reason (holds v.sets a) (call a v chains given.rules formed 4) forward (place_of d) (side_rule d) rs m s (workload_met a v chains given.rules formed m (end_of d) false h))

  -- ---- the whole run

  -- the walk that ends so is a run with this verdict and these reasons
  abbrev RunsTo : Ended Reasons → Verdict → Option Reason → Option Reason → Type 0
  RunsTo e w egress ingress = (side : Option Direction) × Means last_reason (holds v.sets a) chains e [] w (record { side = side; egress = egress; ingress = ingress })

  abbrev RunsAs : Ended Reasons → Outcome → Type 0
  RunsAs e x = RunsTo e x.verdict x.egress x.ingress

  to_end : (e f : Ended Reasons) (w : Verdict) (egress ingress : Option Reason) → e ≡ f → RunsTo f w egress ingress → RunsTo e w egress ingress
  to_end e f w egress ingress q h = subst (λ x. RunsTo x w egress ingress) (sym q) h

  through_end : (p m : ℕ) (s : Reasons) → RunsTo (first p [] m s) Allow s.egress s.ingress
  through_end p m s = to_end _ _ Allow s.egress s.ingress (walk-end last_reason (holds v.sets a) (call a v chains given.rules formed 4) forward p m s) (s.side, (refl, refl))

  -- the ingress side, after what the egress side left
  ingress_ends : (m : ℕ) (s : Reasons) (o : Option Decision) → s.ingress ≡ None → SideGoes Ingress 3 [] (from_side Ingress [] m s) s o → RunsAs (from_side Ingress [] m s) (with_ingress s.egress o)
  ingress_ends m s None none h = to_end _ _ Allow s.egress None h.1 (subst (λ x. RunsTo (first 4 [] h.0 s) Allow s.egress x) none (through_end 4 h.0 s))
  ingress_ends m s (Some d) none h = decided d.verdict d.why h
    where
      decided : (w : Verdict) (why : Reason) → DecidedSide Ingress 3 [] (from_side Ingress [] m s) s w why → RunsTo (from_side Ingress [] m s) w s.egress (Some why)
      decided Allow why k = to_end _ _ Allow s.egress (Some why) k.1 (through_end 4 k.0 (with_reason (Some Ingress) why (turned Ingress s)))
      decided Deny why k = to_end _ _ Deny s.egress (Some why) k (Some Ingress, (refl, refl))

  module _ (new : a.state ≡ New) (on : has_workload_interfaces v ≡ true) where
    abbrev ingress_verdict : Option Decision
    ingress_verdict = side_verdict (view_verdict_at v Ingress a (maps.get v.endpoints a.iface_out)) a.iface_out

    abbrev egress_verdict : Option Decision
    egress_verdict = side_verdict (view_verdict_at v Egress a (maps.get v.endpoints a.iface_in)) a.iface_in

    ingress_side : (m : ℕ) (s : Reasons) → s.ingress ≡ None → RunsAs (from_side Ingress [] m s) (with_ingress s.egress ingress_verdict)
    ingress_side m s none = ingress_ends m s ingress_verdict none (side_goes Ingress [] m s new (on_workloads v on a.iface_out) (maps.get v.endpoints a.iface_out) refl (is_workload a.iface_out) refl)

    egress_side : (m : ℕ) (o : Option Decision) → SideGoes Egress 2 (side_rule Ingress ∷ []) (from_side Egress (side_rule Ingress ∷ []) m nothing_noted) nothing_noted o → RunsAs (from_side Egress (side_rule Ingress ∷ []) m nothing_noted) (both_sides o ingress_verdict)
    egress_side m None h = to_end _ _ _ _ _ h.1 (ingress_side h.0 nothing_noted refl)
    egress_side m (Some d) h = decided d.verdict d.why h
      where
        decided : (w : Verdict) (why : Reason) → DecidedSide Egress 2 (side_rule Ingress ∷ []) (from_side Egress (side_rule Ingress ∷ []) m nothing_noted) nothing_noted w why → RunsAs (from_side Egress (side_rule Ingress ∷ []) m nothing_noted) (both_sides (Some (record { verdict = w; why = why })) ingress_verdict)
        decided Allow why k = to_end _ _ _ _ _ k.1 (ingress_side k.0 (with_reason (Some Egress) why (turned Egress nothing_noted)) refl)
        decided Deny why k = to_end _ _ Deny (Some why) None k (Some Egress, (refl, refl))

    first_noted : last_reason forward 1 (plain [] (target.Mark 0 0xf0000)) nothing_noted ≡ nothing_noted
    unfolding last_reason
    first_noted = refl

    begins : call a v chains given.rules formed 5 forward 0 nothing_noted ≡ from_side Egress (side_rule Ingress ∷ []) (marked 0 0 0xf0000) nothing_noted
    begins =
        called a v chains given.rules formed 4 forward forward_rules 0 nothing_noted given.ways.at_forward
        ∙ walk_hit last_reason (holds v.sets a) (call a v chains given.rules formed 4) forward 1 (plain [] (target.Mark 0 0xf0000)) (side_rule Egress ∷ side_rule Ingress ∷ []) 0 nothing_noted refl
        ∙ ap (λ t. from_side Egress (side_rule Ingress ∷ []) (marked 0 0 0xf0000) t) first_noted

    whole : RunsAs (call a v chains given.rules formed 5 forward 0 nothing_noted) (view_verdict v a)
    whole = to_end _ _ _ _ _ begins (egress_side (marked 0 0 0xf0000) egress_verdict (side_goes Egress (side_rule Ingress ∷ []) (marked 0 0 0xf0000) nothing_noted new (on_workloads v on a.iface_in) (maps.get v.endpoints a.iface_in) refl (is_workload a.iface_in) refl))

    pub machine_agrees : IsRanked chains → Decides (record { sets = v.sets; chains = chains }) a (view_verdict v a).verdict (view_verdict v a).egress (view_verdict v a).ingress
    machine_agrees ranked = (whole.0, walked-run last_reason (holds v.sets a) chains ranked 0 nothing_noted _ _ whole.1)
