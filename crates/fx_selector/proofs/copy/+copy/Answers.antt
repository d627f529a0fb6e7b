use Rattle.std.proofs.Common.{sym, ap, ◌∙◌}
use Rattle.fx_selector.specs.Nodes.{tree}
use Rattle.fx_selector.proofs.Rows.{copied-And, copied-Or}
use Rattle.fx_selector.proofs.copy.+copy.Goals as goal

pub copy_of-returns-in_ok-copies_of-in-And : goal.copy_of-returns-in_ok-copies_of-in-And
copy_of-returns-in_ok-copies_of-in-And t c = copied-And c.in-And.parts c.in_ok-copies_of-in-And.field-0 c.in_ok-copies_of-in-And.ensures ∙ sym (ap tree c.in-And.is)

pub copy_of-returns-in_ok-copies_of-in-Or : goal.copy_of-returns-in_ok-copies_of-in-Or
copy_of-returns-in_ok-copies_of-in-Or t c = copied-Or c.in-Or.parts c.in_ok-copies_of-in-Or.field-0 c.in_ok-copies_of-in-Or.ensures ∙ sym (ap tree c.in-Or.is)
