-- A set's members stay noted by their flags, and its sides change as a member's flags do.
use Rattle.std.proofs.Common.{◌≡◌, Bool, true, false, not, ◌&&◌, ◌||◌, Option, Some, None, is_some, IsSome, refl, sym, ap, ◌∙◌}
use Rattle.std.specs.Option.{option_and_then}
use Rattle.std.specs.FinMap as maps
use Rattle.fx_base.specs.Same.{same_truths}
use Rattle.fx_base.specs.Set as set
use Rattle.fx_base.proofs.Cases.{same_some}
use Rattle.fx_base.proofs.Projected.{get-projected}
use Rattle.fx_model.specs.Messages.{Members, members_of}
use Rattle.fx_model.specs.declared.member.Member.{Member}
use Rattle.fx_model.specs.declared.member_flags.Flags.{Flags}
use Rattle.fx_model.specs.contracts.member.MemberOrd.TheImpl as member_cmp
use Rattle.fx_model.proofs.Orders.{member_total, exact_member}
use Rattle.fx_sequencer.specs.Flagged.{FlagMap, AreFlagged, marked, side, sent_members, wanted_members, is_held, differs, is_added, is_gone, is_sent, is_wanted}
use Rattle.fx_sequencer.proofs.AtOne.{IsBut, IsButIn, all_at, told_at, part_put, part_gone, part_still}
use mathlib.Core.Bool.{beq}

-- ---- a member's flags

sent_mark : (o : Option Flags) → option_and_then (λ f. marked f.sent) o ≡ marked (is_sent o)
sent_mark None = refl
sent_mark (Some f) = refl

wanted_mark : (o : Option Flags) → option_and_then (λ f. marked f.now) o ≡ marked (is_wanted o)
wanted_mark None = refl
wanted_mark (Some f) = refl

pub is_marked : (b : Bool) → is_some (marked b) ≡ b
is_marked true = refl
is_marked false = refl

or_first : (a b : Bool) → (a || b) ≡ true → b ≡ false → a ≡ true
or_first true b h off = refl
or_first false b h off = cc

alike : (b : Bool) → not b ≡ false → b ≡ true
alike true h = refl
alike false h = cc

-- a member that is kept, and isn't wanted, was sent
pub kept_sent : (o : Option Flags) → is_some o ≡ true → is_held o ≡ true → is_wanted o ≡ false → is_sent o ≡ true
kept_sent None some held off = cc
kept_sent (Some f) some held off = or_first f.sent f.now held off

pub sent_kept : (o : Option Flags) → is_sent o ≡ true → is_some o ≡ true
sent_kept None h = cc
sent_kept (Some f) h = refl

pub flags_alike : (o : Option Flags) → differs o ≡ false → is_sent o ≡ is_wanted o
flags_alike None h = refl
flags_alike (Some f) h = same_truths f.sent f.now (alike (beq f.sent f.now) h)

-- ---- a member of one side alone

and_off : (b : Bool) → (b && false) ≡ false
and_off true = refl
and_off false = refl

off_and_on : (b : Bool) → (not b && b) ≡ false
off_and_on true = refl
off_and_on false = refl

on_and_off : (b : Bool) → (b && not b) ≡ false
on_and_off true = refl
on_and_off false = refl

-- one that isn't wanted wasn't added, and one that was sent neither
pub unwanted_added : (o : Option Flags) → is_wanted o ≡ false → is_added o ≡ false
unwanted_added None off = refl
unwanted_added (Some f) off = ap (λ b. not f.sent && b) off ∙ and_off (not f.sent)

pub sent_added : (o : Option Flags) → is_sent o ≡ true → is_added o ≡ false
sent_added None on = refl
sent_added (Some f) on = ap (λ b. not b && f.now) on

-- one that wasn't sent isn't gone
pub unsent_gone : (o : Option Flags) → is_sent o ≡ false → is_gone o ≡ false
unsent_gone None off = refl
unsent_gone (Some f) off = ap (λ b. b && not f.now) off

-- one whose flags are alike is neither
pub alike_added : (o : Option Flags) → is_sent o ≡ is_wanted o → is_added o ≡ false
alike_added None same = refl
alike_added (Some f) same = ap (λ b. not b && f.now) same ∙ off_and_on f.now

pub alike_gone : (o : Option Flags) → is_sent o ≡ is_wanted o → is_gone o ≡ false
alike_gone None same = refl
alike_gone (Some f) same = ap (λ b. b && not f.now) same ∙ on_and_off f.now

-- and of one that is neither they are
neither : (s n : Bool) → (not s && n) ≡ false → (s && not n) ≡ false → not (beq s n) ≡ false
neither true true a g = refl
neither true false a g = g
neither false true a g = a
neither false false a g = refl

pub neither_differs : (o : Option Flags) → is_added o ≡ false → is_gone o ≡ false → differs o ≡ false
neither_differs None a g = refl
neither_differs (Some f) a g = neither f.sent f.now a g

-- ---- the members of each side

module _ (flags : FlagMap) (m : Member) where
  get_sent : maps.get (sent_members flags) m ≡ marked (is_sent (maps.get flags m))
  get_sent = get-projected (λ (f : Flags). marked f.sent) flags exact_member m ∙ sent_mark (maps.get flags m)

  get_wanted : maps.get (wanted_members flags) m ≡ marked (is_wanted (maps.get flags m))
  get_wanted = get-projected (λ (f : Flags). marked f.now) flags exact_member m ∙ wanted_mark (maps.get flags m)

  pub sent_there : set.contains (sent_members flags) m ≡ is_sent (maps.get flags m)
  sent_there = ap is_some get_sent ∙ is_marked (is_sent (maps.get flags m))

  pub wanted_there : set.contains (wanted_members flags) m ≡ is_wanted (maps.get flags m)
  wanted_there = ap is_some get_wanted ∙ is_marked (is_wanted (maps.get flags m))

pub none_in : (m : Member) → set.contains {R = member_cmp.cmp-value.it} set.empty m ≡ false
none_in m = ap is_some (maps.get-empty member_cmp.cmp-value.it m)

module _ (flags : FlagMap) where
  -- where no member differs the sides are one
  pub same_sides : ((m : Member) → differs (maps.get flags m) ≡ false) → sent_members flags ≡ wanted_members flags
  same_sides same = maps.same_map member_total exact_member _ _ (λ m.
      get_sent flags m ∙ ap marked (flags_alike (maps.get flags m) (same m)) ∙ sym (get_wanted flags m))

  pub none_wanted : ((m : Member) → is_wanted (maps.get flags m) ≡ false) → wanted_members flags ≡ set.empty
  none_wanted none = maps.same_map member_total exact_member _ _ (λ m.
      get_wanted flags m ∙ ap marked (none m) ∙ sym (maps.get-empty member_cmp.cmp-value.it m))

  pub same_wanted : (later : FlagMap) → ((m : Member) → is_wanted (maps.get later m) ≡ is_wanted (maps.get flags m)) → wanted_members later ≡ wanted_members flags
  same_wanted later same = maps.same_map member_total exact_member _ _ (λ m.
      get_wanted later m ∙ ap marked (same m) ∙ sym (get_wanted flags m))

-- ---- a side

pub on_there : (b : Bool) (s : Members) → IsSome (side b s) → b ≡ true
on_there true s h = refl
on_there false s h = cc

pub off_there : (b : Bool) (s : Members) → side b s ≡ None → b ≡ false
off_there true s h = cc
off_there false s h = refl

pub on_with : (b : Bool) (s : Members) (m : Member) → set.contains (members_of (side b s)) m ≡ true → b ≡ true
on_with true s m h = refl
on_with false s m h = let none = none_in m in cc

pub on_as : (b : Bool) (s t : Members) → side b s ≡ Some t → (b ≡ true) × (s ≡ t)
on_as true s t h = (refl, same_some s t h)
on_as false s t h = cc

side_alike : (b : Bool) (s t : Members) → (b ≡ true → s ≡ t) → side b s ≡ side b t
side_alike true s t h = ap (λ x. Some x) (h refl)
side_alike false s t h = refl

-- what a side that is there has
pub of_side : (b : Bool) (s : Members) (m : Member) → b ≡ true → set.contains (members_of (side b s)) m ≡ set.contains s m
of_side b s m on = ap (λ c. set.contains (members_of (side c s)) m) on

-- ---- one member's flags are changed

module _ {sent wanted : Bool} {flags : FlagMap} {added gone : Members} (was : AreFlagged sent wanted flags added gone) {m : Member} {now : FlagMap} {here : Option Flags} (but : IsBut flags now m here) where
  pub flagged_at : (noted left : Members) (a g : Bool) → IsButIn added noted m a → a ≡ is_added here → IsButIn gone left m g → g ≡ is_gone here → is_held here ≡ true
      → (sent ≡ false → differs here ≡ false) → (wanted ≡ false → is_wanted here ≡ false) → AreFlagged sent wanted now noted left
  flagged_at noted left a g in_noted adds in_left goes held none off = record {
    held = all_at is_held flags now m here but true held was.held;
    adds = told_at is_added flags now m here but added noted a in_noted adds was.adds;
    goes = told_at is_gone flags now m here but gone left g in_left goes was.goes;
    unsent = λ h. all_at differs flags now m here but false (none h) (was.unsent h);
    unwanted = λ h. all_at is_wanted flags now m here but false (off h) (was.unwanted h);
  }

  pub sent_still : (sent ≡ true → is_sent here ≡ is_sent (maps.get flags m)) → side sent (sent_members now) ≡ side sent (sent_members flags)
  sent_still same = side_alike sent _ _ (λ on.
      part_still member_total exact_member (λ (f : Flags). marked f.sent) flags now m here but
      (sent_mark here ∙ ap marked (same on) ∙ sym (sent_mark (maps.get flags m))))

  pub member_put : wanted ≡ true → is_wanted here ≡ true → side wanted (wanted_members now) ≡ Some (set.insert (members_of (side wanted (wanted_members flags))) m)
  member_put on is =
      ap (λ b. side b (wanted_members now)) on
      ∙ ap (λ s. Some s) (part_put member_total exact_member (λ (f : Flags). marked f.now) flags now m here but tt (wanted_mark here ∙ ap marked is))
      ∙ ap (λ b. Some (set.insert (members_of (side b (wanted_members flags))) m)) (sym on)

  pub member_taken : wanted ≡ true → is_wanted here ≡ false → side wanted (wanted_members now) ≡ Some (set.remove (members_of (side wanted (wanted_members flags))) m)
  member_taken on is =
      ap (λ b. side b (wanted_members now)) on
      ∙ ap (λ s. Some s) (part_gone member_total exact_member (λ (f : Flags). marked f.now) flags now m here but (wanted_mark here ∙ ap marked is))
      ∙ ap (λ b. Some (set.remove (members_of (side b (wanted_members flags))) m)) (sym on)
