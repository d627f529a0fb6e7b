use Rattle.std.proofs.Common.{ap, ◌∙◌}
use Rattle.fx_base.specs.Set as set
use Rattle.fx_base.proofs.SetAt.{put_back}
use Rattle.fx_model.proofs.Orders.{member_total, exact_member}
use Rattle.fx_sequencer.proofs.members.put_new.Goals as goal

pub returns-in-Err-clause-err_added : goal.returns-in-Err-clause-err_added
returns-in-Err-clause-err_added c = c.remove.ensures.removed ∙ ap (λ s. set.remove s c.args.member) c.in_ok-insert.ensures.ok ∙ put_back member_total exact_member c.args.added.now c.args.member c.requires
