use Rattle.std.specs.Prelude.{codes}
use Rattle.fx_model.specs.MatchTexts.{not_sign, icmp_text}
use Rattle.fx_rows.proofs.PartTexts.{four_parts}
use Rattle.fx_rows.proofs.matches.push_icmp.Goals as goal

pub returns : goal.returns
returns c =
    four_parts c.args.line.now.items c.extend_from_slice.new.self.items c.push_not.new.line.items c.extend_from_slice-2.new.self.items c.push_message.new.line.items
    (codes "-m icmp ") (not_sign c.args.not) (codes "--icmp-type ") (icmp_text c.args.icmp)
    c.in_ok-extend_from_slice.ensures.items c.in_ok-push_not.ensures c.in_ok-extend_from_slice-2.ensures.items c.in_ok-push_message.ensures
