use Rattle.fx_laws.proofs.FormedLemmas.{are_formed-after, is_formed_view-view_of}
use Rattle.fx_laws.proofs.laws.formed_updates_keep_resources_formed.Goals as goal

pub returns-clause-after : goal.returns-clause-after
returns-clause-after c = are_formed-after

pub returns-clause-view : goal.returns-clause-view
returns-clause-view c = is_formed_view-view_of
