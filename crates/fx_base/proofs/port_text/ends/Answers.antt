use Rattle.std.proofs.Common.{lit<}
use Rattle.std.proofs.lemmas.List.{take_rest}
use Rattle.fx_base.specs.PortTexts.{UpperEnd}
use Rattle.fx_base.proofs.FormLemmas.{then_value, then_fault, then_none}
use Rattle.fx_base.proofs.PortLemmas.{upper_can, upper_means, upper_leaves}
use Rattle.fx_base.proofs.port_text.ends.Goals as goal

pub returns-in-Err : goal.returns-in-Err
returns-in-Err c = then_none 0 65535 (lit< tt) UpperEnd upper_can c.args.text.now c.in-Err.at c.in-Err.ensures.err.1 c.in-Err.ensures.err.0

pub returns-in-Ok-optional : goal.returns-in-Ok-optional
returns-in-Ok-optional c =
    let found = c.in-Ok.ensures.ok in
    let low = c.in-Ok.found.0 in
    then_value 0 65535 (lit< tt) UpperEnd upper_can c.args.text.now c.in-Ok.found.1 low (low, c.in-Ok-optional.high) found.0 found.1 (upper_means low _ c.in-Ok-optional.high (rw take_rest at c.in-Ok-optional.ensures))

pub returns-in-Err-optional : goal.returns-in-Err-optional
returns-in-Err-optional c =
    let found = c.in-Ok.ensures.ok in
    let low = c.in-Ok.found.0 in
    then_fault 0 65535 (lit< tt) UpperEnd upper_can c.args.text.now c.in-Ok.found.1 low c.in-Err-optional.further found.0 found.1 (upper_leaves low _ c.in-Err-optional.further (rw take_rest at c.in-Err-optional.ensures))
