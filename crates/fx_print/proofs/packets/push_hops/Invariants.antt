use Rattle.std.proofs.Common.{◌≡◌, ◌++◌, take}
use Rattle.fx_model.specs.PacketTexts.{hops_text}
use Rattle.fx_walk.specs.WalkEnds.{hops_of}
use Rattle.fx_print.proofs.packets.push_hops.Given as goal

abbrev pub invariant-loop-hop : goal.invariant-loop-hop
invariant-loop-hop l = l.line.items ≡ l.fn.line.items ++ hops_text (hops_of (take l.hop-index l.path))
