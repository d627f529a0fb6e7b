use Rattle.std.specs.Cmp.Lexicographic.{nat_list_cmp_total}
use Rattle.fx_base.proofs.Entries.{put_in}
use Rattle.fx_base.proofs.KeyCases.{bytes_exact}
use Rattle.fx_sequencer.proofs.texts.TextSet.insert.Goals as goal

pub returns-clause-ok : goal.returns-clause-ok
returns-clause-ok c = put_in nat_list_cmp_total bytes_exact _ _ _ c.self.view_is _ c.in_ok-insert.ensures.updates.0
