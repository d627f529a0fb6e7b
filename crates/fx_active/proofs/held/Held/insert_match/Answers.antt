use Rattle.std.proofs.Common.{◌&&◌, true, ap, subst, sym, ◌∙◌}
use Rattle.std.specs.FinMap as map
use Rattle.fx_base.specs.Set as set
use Rattle.fx_base.specs.Grouped.{has_key}
use Rattle.fx_active.specs.Rows.{AreHere}
use Rattle.fx_active.proofs.HereLemmas.{lost_matches, match_here}
use Rattle.fx_active.proofs.held.Held.insert_match.Goals as goal

pub invariant_of-self : goal.invariant_of-self
invariant_of-self c = lost_matches c.replace-here.new.dest c.self.inside.inputs.endpoints c.replace-matched.new.dest (c.replace-here.ensures.after ∙ c.new-2.ensures) (c.replace-matched.ensures.after ∙ c.new.ensures)

pub invariant_of-self-in_err-insert : goal.invariant_of-self-in_err-insert
invariant_of-self-in_err-insert c = lost_matches c.replace-here.new.dest c.self.inside.inputs.endpoints c.replace-matched.new.dest (c.replace-here.ensures.after ∙ c.new-2.ensures) (c.replace-matched.ensures.after ∙ c.new.ensures)

pub invariant_of-self-2 : goal.invariant_of-self-2
invariant_of-self-2 c =
    let rows = c.replace-here.result in
    let E = c.self.inside.inputs.endpoints in
    let M = c.replace-matched.result in
    let text = c.args.text.now in
    let item = c.args.item.now in
    let was : AreHere rows E M = λ t i. ap (λ n. has_key (map.get n t) i) c.replace-here.ensures.value ∙ c.self.invariant t i ∙ ap (λ m. map.contains_key E i && set.contains m (t, i)) (sym c.replace-matched.ensures.value) in
    subst (λ m. AreHere c.insert_match.new.self E m) (sym c.in_ok-insert.ensures) (match_here rows E M was text item true c.insert_match.new.self c.in_ok-insert_match.ensures)
