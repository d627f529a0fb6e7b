use Rattle.std.proofs.Common.{◌&&◌, ap, subst, sym, ◌∙◌}
use Rattle.std.specs.FinMap as map
use Rattle.fx_base.specs.Set as set
use Rattle.fx_base.specs.Grouped.{has_key}
use Rattle.fx_active.specs.Rows.{AreHere}
use Rattle.fx_active.proofs.HereLemmas.{lost_endpoints, endpoint_here, again_here}
use Rattle.fx_active.proofs.held.Held.put_endpoint.Goals as goal
use Rattle.fx_active.proofs.held.Held.put_endpoint.Goals.{then-not-contains_key+in_ok-put_endpoint, else-not-contains_key}

pub invariant_of-self : goal.invariant_of-self
invariant_of-self g c = lost_endpoints c.replace-here.new.dest c.replace-endpoints.new.dest c.self.inside.inputs.matched (c.replace-here.ensures.after ∙ c.new-2.ensures) (c.replace-endpoints.ensures.after ∙ c.new.ensures)

pub invariant_of-self-in_err-put : goal.invariant_of-self-in_err-put
invariant_of-self-in_err-put g c = lost_endpoints c.replace-here.new.dest c.replace-endpoints.new.dest c.self.inside.inputs.matched (c.replace-here.ensures.after ∙ c.new-2.ensures) (c.replace-endpoints.ensures.after ∙ c.new.ensures)

pub invariant_of-self-2 : goal.invariant_of-self-2
invariant_of-self-2 g c =
    let rows = c.replace-here.result in
    let E = c.replace-endpoints.result in
    let M = c.self.inside.inputs.matched in
    let key = c.args.key.now in
    let was : AreHere rows E M = λ t i. ap (λ n. has_key (map.get n t) i) c.replace-here.ensures.value ∙ c.self.invariant t i ∙ ap (λ m. map.contains_key m i && set.contains M (t, i)) (sym c.replace-endpoints.ensures.value) in
    let names = c.args.names.now in
    let here = c.if-not-contains_key.here in
    subst (λ m. AreHere here m M) (sym c.in_ok-put.ensures.endpoints) (elim c.if-not-contains_key.branch [
      | then-not-contains_key+in_ok-put_endpoint w ↦ endpoint_here rows E M was key names (sym c.contains_key.ensures ∙ w.if-not-contains_key.true) here
          (λ t i. ap (λ n. has_key (map.get n t) i) w.here-is ∙ w.in_ok-put_endpoint.ensures t i)
      | else-not-contains_key w ↦ subst (λ n. AreHere n (map.insert E key names) M) (sym w.here-is) (again_here rows E M was key names (sym c.contains_key.ensures ∙ w.if-not-contains_key.false))
    ])
