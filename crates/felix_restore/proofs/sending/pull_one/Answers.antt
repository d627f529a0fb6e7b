use Rattle.felix_restore.proofs.SendingLemmas.{only_memory}
use Rattle.felix_restore.proofs.sending.pull_one.Goals as goal

pub want_of_memory-requires : goal.want_of_memory-requires
want_of_memory-requires g c = only_memory c.in-Err.fault c.args.agent.now.failed c.requires.ready c.in-Err.ensures.cause
