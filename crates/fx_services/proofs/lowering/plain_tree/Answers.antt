use Rattle.fx_services.proofs.ServiceTrees.{mark_key}
use Rattle.fx_services.proofs.lowering.plain_tree.Goals as goal

pub has_key-requires : goal.has_key-requires
has_key-requires c = mark_key
