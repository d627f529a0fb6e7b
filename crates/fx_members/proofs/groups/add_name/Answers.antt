use Rattle.std.proofs.Common.{unwrap_or, ◌∙◌}
use Rattle.std.specs.Cmp.Lexicographic.{nat_list_cmp_total}
use Rattle.std.specs.FinMap as map
use Rattle.fx_base.proofs.KeyCases.{bytes_exact}
use Rattle.fx_base.proofs.Keyed.{key_added}
use Rattle.fx_members.proofs.groups.add_name.Goals as goal

pub returns : goal.returns
returns c =
    key_added nat_list_cmp_total bytes_exact nat_list_cmp_total c.args.names.now c.insert-2.new.self c.args.text.now c.args.name c.unwrap_or-own.result
    (c.unwrap_or-own.ensures ∙ (λ j. unwrap_or (c.remove.ensures.before j) (c.new.ensures j)))
    (c.in_ok-insert-2.ensures.ok ∙ (λ j. map.insert (c.remove.ensures.removed j) (c.in_ok-clone.ensures.cases j) (c.in_ok-insert.ensures.ok j)))
