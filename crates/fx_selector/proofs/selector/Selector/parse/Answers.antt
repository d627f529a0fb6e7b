use Rattle.fx_selector.specs.Nodes.{tree}
use Rattle.fx_selector.proofs.Parsing.{meant_selector, one_meant, only_memory}
use Rattle.fx_selector.proofs.selector.Selector.parse.Goals as goal

pub invariant_of-result : goal.invariant_of-result
invariant_of-result c = (meant_selector c.args.text.now (tree c.in-Ok.node) c.in-Ok.ensures).0

pub returns-in-Ok-clause-complete : goal.returns-in-Ok-clause-complete
returns-in-Ok-clause-complete c = λ t h. one_meant c.args.text.now (tree c.in-Ok.node) t c.in-Ok.ensures h

pub returns-in-Ok-clause-selector : goal.returns-in-Ok-clause-selector
returns-in-Ok-clause-selector c = (meant_selector c.args.text.now (tree c.in-Ok.node) c.in-Ok.ensures).0

pub returns-in-Ok-clause-shallow : goal.returns-in-Ok-clause-shallow
returns-in-Ok-clause-shallow c = (meant_selector c.args.text.now (tree c.in-Ok.node) c.in-Ok.ensures).1

pub returns-in-Err-clause-complete : goal.returns-in-Err-clause-complete
returns-in-Err-clause-complete c = λ t h. only_memory c.args.text.now t c.in-Err.fault h c.in-Err.ensures
