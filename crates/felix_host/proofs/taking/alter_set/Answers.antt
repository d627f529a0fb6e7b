use Rattle.felix_host.proofs.TakingLemmas.{set_altered, set_there}
use Rattle.felix_host.proofs.taking.alter_set.Goals as goal

pub change_set-requires : goal.change_set-requires
change_set-requires c = set_there c.args.view.now c.args.name.now c.args.adds.now c.args.removes.now c.requires

pub returns : goal.returns
returns c = set_altered c.args.view.now c.change_set.new.sets c.args.name.now c.args.adds.now c.args.removes.now c.in_ok-change_set.ensures
