use Rattle.fx_laws.proofs.Leading.{closed-tables, ranked-tables}
use Rattle.fx_laws.proofs.laws.closed_view_has_closed_tables.Goals as goal

pub returns-clause-closed : goal.returns-clause-closed
returns-clause-closed c = closed-tables

pub returns-clause-ranked : goal.returns-clause-ranked
returns-clause-ranked c = ranked-tables
