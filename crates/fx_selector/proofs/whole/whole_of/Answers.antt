use Rattle.std.proofs.Common.{◌≡◌, ◌≢◌, length, refl, ap, ◌∙◌, arith}
use Rattle.std.proofs.lemmas.Grind.{common_steps}
use Rattle.std.proofs.lemmas.Result.{err_from_is_err_and}
use Rattle.fx_selector.specs.Reader.{or_of, not_of, parsed, at_end}
use Rattle.fx_selector.specs.Nodes.{tree}
use Rattle.fx_selector.proofs.Failing.{fails_on}
use Rattle.fx_selector.proofs.Paths.{parsed_filled, end_here, more_here}
use Rattle.fx_selector.proofs.whole.whole_of.Goals as goal

pub returns-in_err-node : goal.returns-in_err-node
returns-in_err-node c = λ n h.
    let p = err_from_is_err_and c.from_residual.result c.from_residual.ensures.1 in
    let k : length c.past_blanks-start.result.now ≢ 0 = grind (arith, common_steps) in
    rw (p.1, p.2) (fails_on c.in_err-node.field-0.0 (or_of (not_of c.args.limit n c.args.depth) n c.past_blanks-start.result.now) (parsed c.args.limit n c.args.depth c.args.text.now) (c.in_err-node.ensures.reads n (omega arith))
    (λ why rest e. parsed_filled c.args.limit n c.args.depth c.args.text.now c.past_blanks-start.result.now c.past_blanks-start.ensures.reads k ∙ ap at_end e))

pub returns-then-is_empty-2 : goal.returns-then-is_empty-2
returns-then-is_empty-2 c = λ n h.
    let k : length c.past_blanks-start.result.now ≢ 0 = grind (arith, common_steps) in
    let z : length c.in_ok-node.rest.now ≡ 0 = grind (arith, common_steps) in
    parsed_filled c.args.limit n c.args.depth c.args.text.now c.past_blanks-start.result.now c.past_blanks-start.ensures.reads k
    ∙ (ap at_end (c.in_ok-node.ensures.reads n (omega arith)) ∙ end_here (tree c.in_ok-node.node) c.in_ok-node.rest.now z)

pub returns-else-is_empty-2 : goal.returns-else-is_empty-2
returns-else-is_empty-2 c = λ n h.
    let k : length c.past_blanks-start.result.now ≢ 0 = grind (arith, common_steps) in
    let z : length c.in_ok-node.rest.now ≢ 0 = grind (arith, common_steps) in (
      c.in_ok-node.rest.now,
      parsed_filled c.args.limit n c.args.depth c.args.text.now c.past_blanks-start.result.now c.past_blanks-start.ensures.reads k
          ∙ (ap at_end (c.in_ok-node.ensures.reads n (omega arith)) ∙ more_here (tree c.in_ok-node.node) c.in_ok-node.rest.now z),
      refl,
    )
