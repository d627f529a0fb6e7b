use Rattle.std.proofs.Common.{Option, Result, Ok, sym, ap}
use Rattle.fx_selector.specs.Tree.{Tree}
use Rattle.fx_fields.specs.declared.fault.ReadFault.{ReadFault}
use Rattle.fx_fields.specs.declared.side_selectors.SideSelectors.{SideSelectors}
use Rattle.fx_fields.specs.SideSelectors.{side_selectors}
use Rattle.fx_fields.proofs.side_selectors.read_selectors.Goals as goal

pub returns : goal.returns
unfolding side_selectors
returns c =
    let with_selector : Option Tree → Result SideSelectors ReadFault = λ selector. Ok (record { selector = selector; not_selector = c.in_ok-not_selector.not_selector }) in
    rw (c.in_ok-own.ensures.answer, c.in_ok-not_selector.ensures.answer, c.in_ok-namespaces.ensures.answer, c.in_ok-accounts.ensures.answer)
    (ap with_selector (sym c.in_ok-selector.ensures))
