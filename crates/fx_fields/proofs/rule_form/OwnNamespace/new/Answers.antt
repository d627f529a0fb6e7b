use Rattle.std.proofs.Common.{sym, subst, ◌∙◌}
use Rattle.fx_selector.specs.Tree.{IsString}
use Rattle.fx_fields.proofs.rule_form.OwnNamespace.new.Goals as goal

pub invariant_of-result : goal.invariant_of-result
invariant_of-result c = subst IsString (sym (c.in_ok-held.ensures ∙ c.bytes.ensures)) c.requires
