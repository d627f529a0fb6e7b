use Rattle.fx_node_laws.proofs.Viewing.{view_is_made}
use Rattle.fx_node_laws.proofs.laws.nodes_make_the_view.Goals as goal

pub returns : goal.returns
returns c = view_is_made
