use Rattle.std.proofs.Common.{ap, ◌∙◌, ◌++◌, map}
use Rattle.std.proofs.lemmas.List.{take_all}
use Rattle.fx_selector.specs.Canonical.{canonical_text, between}
use Rattle.fx_selector.specs.Nodes.{tree}
use Rattle.fx_selector.proofs.Between.{written_more, texts-trees_of, group-And, group-Or}
use Rattle.fx_selector.proofs.canonical.+canonical.Goals as goal

pub write_joined-loop-place-preserved : goal.write_joined-loop-place-preserved
write_joined-loop-place-preserved t c = written_more (λ n. canonical_text (tree n)) c.args.mark.now c.args.parts.now c.loop-place.place c.index-parts-place.result c.loop-place-test.true c.index-parts-place.is _ _ _ _ c.loop-place.invariant c.in_ok-write_between.ensures c.in_ok-write_node.ensures

pub write_joined-returns : goal.write_joined-returns
write_joined-returns t c =
    c.loop-place.invariant
    ∙ ap (λ ts. c.args.out.now.items ++ between c.args.mark.now ts) (ap (λ ns. map (λ n. canonical_text (tree n)) ns) (take_all c.loop-place.place c.args.parts.now c.loop-place-test.false) ∙ texts-trees_of c.args.parts.now)

pub write_node-returns-in-And : goal.write_node-returns-in-And
write_node-returns-in-And t c = rw (group-And c.in-And.parts c.deref-in-And.result.now c.deref-in-And.ensures.value c.args.node.now c.in-And.is) c.write_group.ensures

pub write_node-returns-in-Or : goal.write_node-returns-in-Or
write_node-returns-in-Or t c = rw (group-Or c.in-Or.parts c.deref-in-Or.result.now c.deref-in-Or.ensures.value c.args.node.now c.in-Or.is) c.write_group-in-Or.ensures
