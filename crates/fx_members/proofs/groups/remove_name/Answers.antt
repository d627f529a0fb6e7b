use Rattle.std.proofs.Common.{unwrap_or, ap, sym, ◌∙◌}
use Rattle.std.specs.Cmp.Lexicographic.{nat_list_cmp_total}
use Rattle.std.specs.FinMap as map
use Rattle.fx_base.proofs.KeyCases.{bytes_exact}
use Rattle.fx_base.proofs.Keyed.{key_removed, last_removed}
use Rattle.fx_members.proofs.groups.remove_name.Goals as goal

pub returns-then-has_no_name : goal.returns-then-has_no_name
returns-then-has_no_name c =
    last_removed nat_list_cmp_total bytes_exact nat_list_cmp_total c.args.names.now c.remove.new.self c.args.text.now c.args.name c.unwrap_or-own.result
    (c.unwrap_or-own.ensures ∙ (λ j. unwrap_or (c.remove.ensures.before j) (c.new.ensures j)))
    (ap map.entries (sym c.remove-2.ensures.removed) ∙ c.has_no_name.ensures c.if-has_no_name.true)
    c.remove.ensures.removed

pub returns : goal.returns
returns c =
    key_removed nat_list_cmp_total bytes_exact nat_list_cmp_total c.args.names.now c.insert.new.self c.args.text.now c.args.name c.unwrap_or-own.result
    (c.unwrap_or-own.ensures ∙ (λ j. unwrap_or (c.remove.ensures.before j) (c.new.ensures j)))
    (c.in_ok-insert.ensures.ok ∙ (λ j. map.insert (c.remove.ensures.removed j) (c.in_ok-clone.ensures.cases j) (c.remove-2.ensures.removed j)))
