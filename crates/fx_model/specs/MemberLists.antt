-- Members that are lent: those of a set that another one lacks, and those of some flags.
use Rattle.std.specs.Prelude.{List, Bool, true, ◌&&◌, Option, Some, None, not, filter, map}
use Rattle.std.specs.Option.{option_copied}
use Rattle.std.specs.FinMap as maps
use Rattle.fx_base.specs.Set as set
use mathlib.Core.Bool.{beq}
use Rattle.fx_model.specs.declared.member.Member.{Member}
use Rattle.fx_model.specs.contracts.member.MemberOrd.TheImpl as member_cmp
use Rattle.fx_model.specs.declared.member_flags.Flags.{Flags}
use Rattle.fx_model.specs.declared.member_list.Lender.{Lender}
use Rattle.fx_model.specs.declared.member_list.Lender.TheVariants as lender
use Rattle.fx_model.specs.declared.member_list.Left.{Left}
use Rattle.fx_model.specs.declared.member_list.Left.TheVariants as left

-- there is no other set, or it lacks the member
abbrev pub lacks : Option (set.Set member_cmp.cmp-value.it) → Member → Bool
lacks None m = true
lacks (Some other) m = not (set.contains other m)

-- those of these members that the other set lacks, or all where there is no other
abbrev pub lacked_by : Option (set.Set member_cmp.cmp-value.it) → List Member → List Member
lacked_by None ms = ms
lacked_by (Some other) ms = filter (λ m. not (set.contains other m)) ms

-- both flags are as wanted
abbrev pub has_flags : Flags → Flags → Bool
has_flags wanted flags = beq flags.sent wanted.sent && beq flags.now wanted.now

-- those of these members whose flags are the wanted ones
abbrev pub flagged : Flags → List (Member × Flags) → List Member
flagged wanted es = map (λ e. e.0) (filter (λ e. has_flags wanted e.1) es)

-- the members that are lent
abbrev pub lent_by : Lender → List Member
lent_by (lender.Set members without) = lacked_by (option_copied without) (set.items members.now)
lent_by (lender.Flagged members wanted) = flagged wanted (maps.entries members.now)

-- those of them that are left
abbrev pub left_of : Left → List Member
left_of (left.Set walk) = lacked_by (option_copied walk.without) walk.members
left_of (left.Flagged walk) = flagged walk.wanted walk.members
