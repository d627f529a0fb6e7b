-- The members of a set by their flags: those that the dataplane was told of, and those that the set has now.
use Rattle.std.specs.Prelude.{◌≡◌, Bool, true, false, cond, not, ◌&&◌, ◌||◌, Option, Some, None}
use Rattle.std.specs.FinMap as maps
use Rattle.fx_base.specs.Set as set
use Rattle.fx_base.specs.Projected.{projected}
use Rattle.fx_model.specs.Messages.{Members}
use Rattle.fx_model.specs.contracts.member.MemberOrd.TheImpl as member_cmp
use Rattle.fx_model.specs.declared.member.Member.{Member}
use Rattle.fx_model.specs.declared.member_flags.Flags.{Flags}
use mathlib.Core.Bool.{beq}

abbrev pub FlagMap : Type 0
FlagMap = maps.FinMap member_cmp.cmp-value.it Flags

-- a member stands in a set, or not
abbrev pub marked : Bool → Option (Unit {0})
marked true = Some tt
marked false = None

-- the members of each side
abbrev pub sent_members : FlagMap → Members
sent_members flags = projected (λ f. marked f.sent) flags

abbrev pub wanted_members : FlagMap → Members
wanted_members flags = projected (λ f. marked f.now) flags

-- a set that is there, or none
abbrev pub side : Bool → Members → Option Members
side true members = Some members
side false members = None

-- a member that is kept has a side
abbrev pub is_held : Option Flags → Bool
is_held None = true
is_held (Some f) = f.sent || f.now

-- one side alone has the member
abbrev pub differs : Option Flags → Bool
differs None = false
differs (Some f) = not (beq f.sent f.now)

-- the wanted side alone has it, or the sent side
abbrev pub is_added : Option Flags → Bool
is_added None = false
is_added (Some f) = not f.sent && f.now

abbrev pub is_gone : Option Flags → Bool
is_gone None = false
is_gone (Some f) = f.sent && not f.now

abbrev pub is_sent : Option Flags → Bool
is_sent None = false
is_sent (Some f) = f.sent

abbrev pub is_wanted : Option Flags → Bool
is_wanted None = false
is_wanted (Some f) = f.now

-- what is kept of a member once it was told of
abbrev pub told : Option Flags → Option Flags
told None = None
told (Some f) = cond f.now (Some (record { sent = true; now = true })) None

-- exactly the members of one side alone are noted, by the side; of a set that was not sent none is, and one that isn't wanted has none
pub record AreFlagged (sent wanted : Bool) (flags : FlagMap) (added gone : Members) : Type 0 where
  pub held : (m : Member) → is_held (maps.get flags m) ≡ true
  pub adds : (m : Member) → set.contains added m ≡ is_added (maps.get flags m)
  pub goes : (m : Member) → set.contains gone m ≡ is_gone (maps.get flags m)
  pub unsent : sent ≡ false → (m : Member) → differs (maps.get flags m) ≡ false
  pub unwanted : wanted ≡ false → (m : Member) → is_wanted (maps.get flags m) ≡ false
