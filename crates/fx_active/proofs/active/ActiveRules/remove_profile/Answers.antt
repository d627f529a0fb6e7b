use Rattle.std.proofs.Common.{◌≡◌, None, cond, subst, ap, sym, ◌∙◌}
use Rattle.std.specs.Cmp.Lexicographic.{nat_list_cmp_total}
use Rattle.std.specs.FinMap as map
use Rattle.fx_base.specs.Set as set
use Rattle.fx_base.proofs.AtKey.{get_remove}
use Rattle.fx_base.proofs.KeyCases.{bytes_exact}
use Rattle.fx_active.specs.Active.{is_listed}
use Rattle.fx_active.specs.Node.{IsActive}
use Rattle.fx_active.specs.declared.inputs.Inputs.{Inputs}
use Rattle.fx_active.proofs.NodeLemmas.{at_entry, profiles_put}
use Rattle.fx_active.proofs.active.ActiveRules.remove_profile.Goals as goal
use Rattle.fx_base.proofs.Cases.{absent_value}
use Rattle.fx_base.proofs.Keyed.{remove_absent}

pub returns-then-not-remove_profile-clause-active : goal.returns-then-not-remove_profile-clause-active
returns-then-not-remove_profile-clause-active g c =
    let n = c.self.inside.held in
    let name = c.args.name.now in
    let was = at_entry c.self.view_is c.requires in
    let same : map.remove n.profiles name ≡ n.profiles = remove_absent nat_list_cmp_total bytes_exact n.profiles name
    (absent_value _ (sym c.remove_profile.ensures.was ∙ c.if-not-remove_profile.true)) in
    subst (λ k. IsActive k (g.S.ActiveSink.policies c.args.sink.now) (g.S.ActiveSink.profiles c.args.sink.now) (g.S.ActiveSink.pairs c.args.sink.now))
    (sym (c.remove_profile.ensures.removed ∙ (λ j. record { policies = n.policies; profiles = same j; endpoints = n.endpoints; matched = n.matched }))) was

pub returns-clause-active : goal.returns-clause-active
returns-clause-active g c =
    let P' = g.S.ActiveSink.policies c.tell_profile.new.sink in
    let Q = g.S.ActiveSink.profiles c.args.sink.now in
    let Q' = g.S.ActiveSink.profiles c.tell_profile.new.sink in
    let S' = g.S.ActiveSink.pairs c.tell_profile.new.sink in
    let n = c.self.inside.held in
    let name = c.args.name.now in
    let was = at_entry c.self.view_is c.requires in
    subst (λ k. IsActive k P' Q' S') (sym c.remove_profile.ensures.removed) (record {
      policies_are = λ id. ap (λ m. map.get m id) c.in_ok-tell_profile.ensures.policies ∙ was.policies_are id;
      profiles_are = profiles_put n.profiles (map.remove n.profiles name) n.endpoints Q Q' name None was.profiles_are
          (λ q. get_remove n.profiles name q)
          (c.in_ok-tell_profile.ensures.profiles ∙ ap (λ E. cond (is_listed E name) (map.insert Q name None) Q) (c.endpoints-endpoints.ensures ∙ ap (λ (k : Inputs). k.endpoints) c.remove_profile.ensures.removed));
      pairs_are = λ id i. ap (λ s. set.contains s (id, i)) c.in_ok-tell_profile.ensures.pairs ∙ was.pairs_are id i;
    })
