use Rattle.std.proofs.Common.{Some, cond, subst, ap, sym, ◌∙◌}
use Rattle.std.specs.FinMap as map
use Rattle.fx_base.specs.Set as set
use Rattle.fx_base.proofs.AtKey.{get_insert}
use Rattle.fx_active.specs.Active.{is_listed}
use Rattle.fx_active.specs.Node.{IsActive}
use Rattle.fx_active.proofs.NodeLemmas.{at_entry, profiles_put}
use Rattle.fx_active.proofs.active.ActiveRules.put_profile.Goals as goal

pub returns-clause-active : goal.returns-clause-active
returns-clause-active g c =
    let P' = g.S.ActiveSink.policies c.tell_profile.new.sink in
    let Q = g.S.ActiveSink.profiles c.args.sink.now in
    let Q' = g.S.ActiveSink.profiles c.tell_profile.new.sink in
    let S' = g.S.ActiveSink.pairs c.tell_profile.new.sink in
    let n = c.self.inside.held in
    let name = c.args.name.now in
    let profile = c.args.profile.now in
    let was = at_entry c.self.view_is c.requires in
    subst (λ k. IsActive k P' Q' S') (sym c.in_ok-put_profile.ensures) (record {
      policies_are = λ id. ap (λ m. map.get m id) c.in_ok-tell_profile.ensures.policies ∙ was.policies_are id;
      profiles_are = profiles_put n.profiles (map.insert n.profiles name profile) n.endpoints Q Q' name (Some profile) was.profiles_are
          (λ q. get_insert n.profiles name profile q)
          (c.in_ok-tell_profile.ensures.profiles ∙ ap (λ E. cond (is_listed E name) (map.insert Q name (Some profile)) Q) c.endpoints-endpoints.ensures);
      pairs_are = λ id i. ap (λ s. set.contains s (id, i)) c.in_ok-tell_profile.ensures.pairs ∙ was.pairs_are id i;
    })
