use Rattle.std.proofs.Common.{◌≡◌, ◌&&◌, true, ap, subst, sym, ◌∙◌}
use Rattle.std.specs.FinMap as map
use Rattle.fx_base.specs.Set as set
use Rattle.fx_base.specs.Grouped.{has_key}
use Rattle.fx_active.specs.Rows.{AreHere}
use Rattle.fx_active.specs.declared.inputs.Inputs.{Inputs}
use Rattle.fx_active.proofs.HereLemmas.{lost_endpoints, endpoint_gone}
use Rattle.fx_active.proofs.held.Held.remove_endpoint.Goals as goal

pub remove_endpoint-requires : goal.remove_endpoint-requires
remove_endpoint-requires g c = λ t h.
    let rows = c.replace-here.result in
    let E = c.replace-endpoints.result in
    let M = c.self.inside.inputs.matched in
    let key = c.args.key.now in
    let was : AreHere rows E M = λ t i. ap (λ n. has_key (map.get n t) i) c.replace-here.ensures.value ∙ c.self.invariant t i ∙ ap (λ m. map.contains_key m i && set.contains M (t, i)) (sym c.replace-endpoints.ensures.value) in
    let is : map.contains_key E key ≡ true = ap (λ m. map.contains_key m key) c.replace-endpoints.ensures.value ∙ ap (λ (k : Inputs). map.contains_key k.endpoints key) c.self.view_is ∙ c.requires.there in
    was t key ∙ (λ j. (is j) && h j)

pub invariant_of-self : goal.invariant_of-self
invariant_of-self g c = lost_endpoints c.replace-here.new.dest c.replace-endpoints.new.dest c.self.inside.inputs.matched (c.replace-here.ensures.after ∙ c.new-2.ensures) (c.replace-endpoints.ensures.after ∙ c.new.ensures)

pub invariant_of-self-2 : goal.invariant_of-self-2
invariant_of-self-2 g c =
    let rows = c.replace-here.result in
    let E = c.replace-endpoints.result in
    let M = c.self.inside.inputs.matched in
    let key = c.args.key.now in
    let was : AreHere rows E M = λ t i. ap (λ n. has_key (map.get n t) i) c.replace-here.ensures.value ∙ c.self.invariant t i ∙ ap (λ m. map.contains_key m i && set.contains M (t, i)) (sym c.replace-endpoints.ensures.value) in
    subst (λ m. AreHere c.remove_endpoint.new.self m M) (sym c.in_ok-remove.ensures.endpoints) (endpoint_gone rows E M was key c.remove_endpoint.new.self c.remove_endpoint.ensures)
