use Rattle.std.proofs.Common.{◌++◌, ap, ◌∙◌}
use Rattle.std.specs.Prelude.{codes}
use Rattle.fx_model.specs.MatchTexts.{not_sign, ports_option, ranges_text}
use Rattle.fx_rows.proofs.PartTexts.{four_parts}
use Rattle.fx_rows.proofs.matches.push_ports.Goals as goal

pub returns : goal.returns
returns c =
    four_parts c.args.line.now.items c.extend_from_slice.new.self.items c.push_not.new.line.items c.extend_from_slice-2.new.self.items c.push_ranges.new.line.items
    (codes "-m multiport ") (not_sign c.args.not) (ports_option c.args.end) (ranges_text c.args.list.now)
    c.in_ok-extend_from_slice.ensures.items c.in_ok-push_not.ensures (c.in_ok-extend_from_slice-2.ensures.items ∙ ap (λ l. c.push_not.new.line.items ++ l) c.ports_option.ensures) c.in_ok-push_ranges.ensures
