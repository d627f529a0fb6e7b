use Rattle.std.proofs.Common.{◌≡◌, Bool, false, None, map, sym, ap, ◌∙◌}
use Rattle.std.specs.List.{list_any}
use Rattle.std.specs.Option.{option_copied}
use Rattle.fx_base.specs.Set as set
use Rattle.fx_base.proofs.Entries.{entries-empty}
use Rattle.fx_model.specs.contracts.member.MemberOrd.TheImpl.{cmp-value}
use Rattle.fx_model.specs.declared.member.Member.{Member}
use Rattle.fx_model.specs.Messages.{members_of}
use Rattle.fx_model.specs.Machine.{member_holds}
use Rattle.fx_base.specs.declared.set_name.SetKind.TheVariants.{Nets, Ports}
use Rattle.fx_walk.proofs.SetLookups.{kinds_of}
use Rattle.fx_walk.proofs.matches.is_in_set.Goals as goal

no_members : (test : Member → Bool) → list_any test (set.items (members_of None)) ≡ false
no_members test = ap (λ es. list_any test (map (λ e. e.0) es)) (entries-empty cmp-value.it)

pub returns-in-None : goal.returns-in-None
returns-in-None c =
    let found = sym c.set.ensures.found ∙ ap option_copied c.in-None.is in
    sym (ap (λ o. list_any (member_holds c.args.end c.args.packet.now) (set.items (members_of o))) found ∙ no_members (member_holds c.args.end c.args.packet.now))

pub is_in_nets-requires : goal.is_in_nets-requires
is_in_nets-requires c =
    kinds_of c.args.tables.now.sets _ c.in-Some.members.now (sym (ap option_copied c.in-Some.is) ∙ c.set.ensures.found)
    c.set.ensures.kinds Nets (sym c.kind.ensures ∙ c.in-Nets.is)

pub is_in_ports-requires : goal.is_in_ports-requires
is_in_ports-requires c =
    kinds_of c.args.tables.now.sets _ c.in-Some.members.now (sym (ap option_copied c.in-Some.is) ∙ c.set.ensures.found)
    c.set.ensures.kinds Ports (sym c.kind.ensures ∙ c.in-Ports.is)
