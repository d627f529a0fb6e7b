use Rattle.fx_names.specs.Digests.{plain_digest}
use Rattle.fx_store.specs.Keeping.{KeepsClaims}
use Rattle.fx_store_tests.proofs.tests.wrong_step.Given as goal

abbrev pub invariant-loop-number : goal.invariant-loop-number
invariant-loop-number l = KeepsClaims plain_digest l.store
