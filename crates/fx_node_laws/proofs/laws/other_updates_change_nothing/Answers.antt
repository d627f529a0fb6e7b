use Rattle.fx_node_laws.proofs.UpdateTies.{second_in_sync, put_of_other_kind}
use Rattle.fx_node_laws.proofs.laws.other_updates_change_nothing.Goals as goal

pub returns-clause-marked : goal.returns-clause-marked
returns-clause-marked c = second_in_sync

pub returns-clause-mistaken : goal.returns-clause-mistaken
returns-clause-mistaken c = put_of_other_kind
