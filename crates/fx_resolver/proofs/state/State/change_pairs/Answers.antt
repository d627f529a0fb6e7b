use Rattle.fx_resolver.proofs.Retelling.{retelling_begun, retelling_ended}
use Rattle.fx_resolver.proofs.state.State.change_pairs.Goals as goal

pub move_pairs-requires-clause-kept : goal.move_pairs-requires-clause-kept
move_pairs-requires-clause-kept g c = retelling_begun _ c.requires.kept

pub returns-clause-kept : goal.returns-clause-kept
returns-clause-kept g c = retelling_ended _ _ c.in_ok-move_pairs.ensures.kept c.in_ok-tell_items.ensures.lists c.in_ok-tell_items.ensures.told
