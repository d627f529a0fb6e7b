use Rattle.std.proofs.Common.{◌≡◌, true, ◌&&◌}
use Rattle.std.specs.List.{list_all}
use Rattle.fx_fields.proofs.Readings.{first_of, second_of}
use Rattle.fx_services.specs.Lowerable.{is_low, is_other_port}
use Rattle.fx_services.proofs.lowering.plain_side.Goals as goal

pub plain_selector-requires : goal.plain_selector-requires
plain_selector-requires c =
    let s = c.args.side in
    let low : (is_low s.selector && is_low s.not_selector) ≡ true = first_of (is_low s.selector && is_low s.not_selector) (list_all is_other_port s.ports && list_all is_other_port s.not_ports) c.requires in
    first_of (is_low s.selector) (is_low s.not_selector) low

pub plain_selector-requires-2 : goal.plain_selector-requires-2
plain_selector-requires-2 c =
    let s = c.args.side in
    let low : (is_low s.selector && is_low s.not_selector) ≡ true = first_of (is_low s.selector && is_low s.not_selector) (list_all is_other_port s.ports && list_all is_other_port s.not_ports) c.requires in
    second_of (is_low s.selector) (is_low s.not_selector) low
