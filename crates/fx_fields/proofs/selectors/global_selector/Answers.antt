use Rattle.std.proofs.Common.{Ok, sym, ap, ◌∙◌}
use Rattle.fx_fields.specs.Selectors.{all_parts, global_selector}
use Rattle.fx_fields.proofs.selectors.global_selector.Goals as goal

pub returns : goal.returns
unfolding global_selector
returns c =
    rw (c.in_ok-own.ensures.answer, c.in_ok-namespaces.ensures.answer, c.in_ok-accounts.ensures.answer)
    (ap Ok (sym (c.in_ok-all_parts.ensures ∙ (λ i. all_parts c.in_ok-own.own (c.in_ok-accounts-2.ensures.tree i) (c.in_ok-namespaces-2.ensures.tree i)))))
