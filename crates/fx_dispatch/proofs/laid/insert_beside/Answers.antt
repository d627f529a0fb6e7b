use Rattle.std.proofs.Common.{ap, ◌∙◌}
use Rattle.std.specs.Cmp.Lexicographic.{nat_list_cmp_total}
use Rattle.fx_base.specs.Set as set
use Rattle.fx_base.proofs.KeyCases.{bytes_exact}
use Rattle.fx_base.proofs.SetAt.{put_back}
use Rattle.fx_dispatch.specs.Plans.{Names}
use Rattle.fx_dispatch.proofs.laid.insert_beside.Goals as goal

pub returns-in-Err-clause-same_names : goal.returns-in-Err-clause-same_names
returns-in-Err-clause-same_names c =
    c.remove.ensures ∙ ap (λ (s : Names). set.remove s c.args.name) c.in_ok-insert.ensures.ok
    ∙ put_back nat_list_cmp_total bytes_exact c.args.names.now c.args.name c.requires.absent
