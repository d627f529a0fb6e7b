use Rattle.std.proofs.Common.{ap, sym, ◌∙◌, Some}
use Rattle.std.specs.FinMap as map
use Rattle.fx_model.proofs.Orders.{member_total, exact_member}
use Rattle.fx_base.proofs.Entries.{got, inserted, missing, some_there}
use Rattle.fx_model.proofs.member_flags.MemberFlags.swap.Goals as goal

pub returns-in_default-clause-old : goal.returns-in_default-clause-old
returns-in_default-clause-old c = absurd (missing member_total _ _ c.self.view_is _ c.requires c.in_default.ensures.value)

pub returns-in_default-clause-swapped : goal.returns-in_default-clause-swapped
returns-in_default-clause-swapped c = absurd (missing member_total _ _ c.self.view_is _ c.requires c.in_default.ensures.value)

pub returns-clause-old : goal.returns-clause-old
returns-clause-old c = sym (got member_total _ _ c.self.view_is _ _ c.in-Some.ensures.value) ∙ ap Some (sym c.swap.ensures.y_after)

pub returns-clause-swapped : goal.returns-clause-swapped
returns-clause-swapped c =
    inserted member_total exact_member _ _ _ c.self.view_is _ _ ((c.get_mut.follows.holds c.swap.new.x).3 (some_there _ _ c.in-Some.ensures.value)).0
    ∙ ap (map.insert c.args.self.now c.args.member) c.swap.ensures.x_after
