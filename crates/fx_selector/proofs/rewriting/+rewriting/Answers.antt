use Rattle.fx_selector.proofs.Rewritten.{rewritten-And, rewritten-Or}
use Rattle.fx_selector.proofs.rewriting.+rewriting.Goals as goal

pub rewrite-returns-in_ok-rewrite_all-in-And : goal.rewrite-returns-in_ok-rewrite_all-in-And
rewrite-returns-in_ok-rewrite_all-in-And t c = rewritten-And c.args.prefix.now c.args.name.now c.in-And.parts c.in_ok-rewrite_all-in-And.field-0 c.deref-in-And.result.now c.deref-in-And.ensures.value c.args.node.now c.in-And.is c.in_ok-rewrite_all-in-And.ensures

pub rewrite-returns-in_ok-rewrite_all-in-Or : goal.rewrite-returns-in_ok-rewrite_all-in-Or
rewrite-returns-in_ok-rewrite_all-in-Or t c = rewritten-Or c.args.prefix.now c.args.name.now c.in-Or.parts c.in_ok-rewrite_all-in-Or.field-0 c.deref-in-Or.result.now c.deref-in-Or.ensures.value c.args.node.now c.in-Or.is c.in_ok-rewrite_all-in-Or.ensures
