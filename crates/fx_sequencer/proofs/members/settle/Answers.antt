use Rattle.fx_sequencer.proofs.Settling.{all_held, all_same, all_wanted}
use Rattle.fx_sequencer.proofs.members.settle.Goals as goal

pub returns-clause-held : goal.returns-clause-held
returns-clause-held c =
    all_held c.args.members.now c.args.added.now c.args.gone.now c.requires.adds c.requires.goes c.settle_all.new.members c.settle_all-2.new.members
    c.settle_all.ensures.members c.settle_all-2.ensures.members c.requires.held

pub returns-clause-same : goal.returns-clause-same
returns-clause-same c =
    all_same c.args.members.now c.args.added.now c.args.gone.now c.requires.adds c.requires.goes c.settle_all.new.members c.settle_all-2.new.members
    c.settle_all.ensures.members c.settle_all-2.ensures.members

pub returns-clause-wanted : goal.returns-clause-wanted
returns-clause-wanted c =
    all_wanted c.args.members.now c.args.added.now c.args.gone.now c.requires.adds c.requires.goes c.settle_all.new.members c.settle_all-2.new.members
    c.settle_all.ensures.members c.settle_all-2.ensures.members
