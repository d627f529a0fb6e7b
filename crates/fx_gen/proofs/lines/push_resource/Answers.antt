use Rattle.std.specs.Prelude.{codes}
use Rattle.fx_gen.proofs.Pieces.{three_parts}
use Rattle.fx_gen.proofs.lines.push_resource.Goals as goal

pub returns : goal.returns
returns c =
    three_parts c.args.line.now.items c.extend_from_slice.new.self.items c.extend_from_slice-2.new.self.items c.extend_from_slice-3.new.self.items
    (codes "\":{\"apiVersion\":\"projectcalico.org/v3\",\"kind\":\"") c.args.kind.now (codes "\",\"metadata\":")
    c.in_ok-extend_from_slice.ensures.items c.in_ok-extend_from_slice-2.ensures.items c.in_ok-extend_from_slice-3.ensures.items
