use Rattle.fx_fields.specs.PolicyFields.{flags}
use Rattle.fx_fields.proofs.policy_fields.read_flags.Goals as goal

pub returns : goal.returns
unfolding flags
returns c = rw (c.in_ok-defaulted.ensures, c.in_ok-defaulted-2.ensures) c.defaulted-3.ensures
