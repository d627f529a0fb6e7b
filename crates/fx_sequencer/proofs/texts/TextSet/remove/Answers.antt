use Rattle.std.specs.Cmp.Lexicographic.{nat_list_cmp_total}
use Rattle.fx_base.proofs.Entries.{taken_out}
use Rattle.fx_base.proofs.KeyCases.{bytes_exact}
use Rattle.fx_sequencer.proofs.texts.TextSet.remove.Goals as goal

pub returns : goal.returns
returns c = taken_out nat_list_cmp_total bytes_exact _ _ _ c.self.view_is _ c.remove.ensures.updates.0
