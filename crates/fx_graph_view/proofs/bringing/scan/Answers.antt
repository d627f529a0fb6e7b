use Rattle.std.proofs.Common.{sym, subst}
use Rattle.fx_graph_view.specs.Noted.{AreFormed}
use Rattle.fx_graph_view.proofs.bringing.scan.Goals as goal

pub new-log-requires-clause-formed : goal.new-log-requires-clause-formed
new-log-requires-clause-formed g c = subst AreFormed (sym c.replace-used.ensures.value) c.requires.formed
