-- The two sides of one set, as each call looks them up and changes them.
use Rattle.std.proofs.Common.{◌≡◌, Bool, true, false, not, ◌||◌, Some, None, is_some, IsSome, refl, sym, ap, ◌∙◌}
use Rattle.std.specs.List.{slice_get}
use Rattle.std.specs.FinMap as maps
use Rattle.fx_base.specs.Same.{same_set}
use Rattle.fx_base.specs.Set as set
use Rattle.fx_base.proofs.Cases.{true_false}
use Rattle.fx_model.specs.MemberLists.{flagged}
use Rattle.fx_model.specs.Messages.{Members, members_of}
use Rattle.fx_model.specs.SameMember.{same_member}
use Rattle.fx_model.specs.contracts.member.MemberOrd.TheImpl as member_cmp
use Rattle.fx_model.specs.contracts.member.MemberSetEq.TheImpl.Laws as members_laws
use Rattle.fx_model.specs.declared.member.Member.{Member}
use Rattle.fx_model.proofs.Orders.{member_total}
use Rattle.fx_sequencer.specs.Flagged.{FlagMap, AreFlagged, side, sent_members, wanted_members, is_held, differs, is_added, is_gone, is_sent, is_wanted}
use Rattle.fx_sequencer.specs.Pending.{SetSides, same_sets, comes, alters}
use Rattle.fx_sequencer.proofs.FlagLists.{all_members, added_members, gone_members}
use Rattle.fx_sequencer.proofs.Flagging.{flags_alike, alike_added, alike_gone, neither_differs, sent_there, wanted_there, none_in, same_sides, none_wanted, same_wanted, on_there, off_there, on_as, of_side}
use Rattle.fx_sequencer.proofs.Settling.{no_first, none_first}
use Rattle.fx_sequencer.proofs.SetKeeping.{unsent_same}

-- ---- sides

is_side : (b : Bool) (s : Members) → b ≡ is_some (side b s)
is_side true s = refl
is_side false s = refl

comes_on : (a b : Bool) (s t : Members) → comes (side a s) (side b t) ≡ true → (a ≡ false) × (b ≡ true)
comes_on true true s t h = cc
comes_on true false s t h = cc
comes_on false true s t h = (refl, refl)
comes_on false false s t h = cc

alters_on : (a b : Bool) (s t : Members) → alters same_sets (side a s) (side b t) ≡ true → (a ≡ true) × (b ≡ true)
alters_on true true s t h = (refl, refl)
alters_on true false s t h = cc
alters_on false true s t h = cc
alters_on false false s t h = cc

-- there is a first of what one side alone has
abbrev some_noted : Members → Members → Bool
some_noted added gone = is_some (slice_get (set.items added) 0) || is_some (slice_get (set.items gone) 0)

-- where some member is of one side alone, the sides are not one
module _ (flags : FlagMap) (added gone : Members) (adds : (m : Member) → set.contains added m ≡ is_added (maps.get flags m)) (goes : (m : Member) → set.contains gone m ≡ is_gone (maps.get flags m)) where
  none_noted : sent_members flags ≡ wanted_members flags → some_noted added gone ≡ false
  none_noted same =
      let alike : (m : Member) → is_sent (maps.get flags m) ≡ is_wanted (maps.get flags m) = λ m.
      sym (sent_there flags m) ∙ ap (λ (s : Members). set.contains s m) same ∙ wanted_there flags m in
      let first = no_first member_total added (λ m. adds m ∙ alike_added (maps.get flags m) (alike m)) in
      let second = no_first member_total gone (λ m. goes m ∙ alike_gone (maps.get flags m) (alike m)) in
      λ i. is_some (sym first i) || is_some (sym second i)

  without_noted : None ≡ slice_get (set.items added) 0 → None ≡ slice_get (set.items gone) 0 → sent_members flags ≡ wanted_members flags
  without_noted no_added no_gone = same_sides flags (λ m.
      neither_differs (maps.get flags m)
      (sym (adds m) ∙ none_first member_total added no_added m)
      (sym (goes m) ∙ none_first member_total gone no_gone m))

  other_members : some_noted added gone ≡ not (same_sets (sent_members flags) (wanted_members flags))
  other_members =
      elim (same_sets (sent_members flags) (wanted_members flags)) as (λ b. same_sets (sent_members flags) (wanted_members flags) ≡ b → some_noted added gone ≡ not b) [
        | true ↦ λ e. none_noted (same_set _ same_member (sent_members flags) (wanted_members flags) e)
        | false ↦ λ e.
            elim (slice_get (set.items added) 0) as (λ o. slice_get (set.items added) 0 ≡ o → (is_some o || is_some (slice_get (set.items gone) 0)) ≡ true) [
              | Some x ↦ λ is. refl
              | None ↦ λ no_added.
                  elim (slice_get (set.items gone) 0) as (λ o. slice_get (set.items gone) 0 ≡ o → is_some o ≡ true) [
                    | Some x ↦ λ is. refl
                    | None ↦ λ no_gone.
                        let same = without_noted (sym no_added) (sym no_gone) in
                        let one : same_sets (sent_members flags) (wanted_members flags) ≡ true = ap (same_sets (sent_members flags)) (sym same) ∙ members_laws.laws-law.refl (sent_members flags) in
                        cc
                  ] refl
            ] refl
      ] refl

-- without members
module _ {flags : FlagMap} (empty : flags ≡ maps.empty) where
  none_here : (m : Member) → maps.get flags m ≡ None
  none_here m = ap (λ (f : FlagMap). maps.get f m) empty ∙ maps.get-empty member_cmp.cmp-value.it m

  pub no_members : wanted_members flags ≡ set.empty
  no_members = none_wanted flags (λ m. ap is_wanted (none_here m))

  pub no_flags : (wanted : Bool) {added gone : Members} → added ≡ set.empty → gone ≡ set.empty → AreFlagged false wanted flags added gone
  no_flags wanted {added} {gone} none_added none_gone = record {
    held = λ m. ap is_held (none_here m);
    adds = λ m. ap (λ (s : Members). set.contains s m) none_added ∙ none_in m ∙ sym (ap is_added (none_here m));
    goes = λ m. ap (λ (s : Members). set.contains s m) none_gone ∙ none_in m ∙ sym (ap is_gone (none_here m));
    unsent = λ h m. ap differs (none_here m);
    unwanted = λ h m. ap is_wanted (none_here m);
  }

-- a set by its flags
abbrev pub set_sides : Bool → Bool → FlagMap → SetSides
set_sides sent wanted flags = record { sent = side sent (sent_members flags); wanted = side wanted (wanted_members flags) }

module _ {sent wanted : Bool} {flags : FlagMap} {added gone : Members} (was : AreFlagged sent wanted flags added gone) {v : SetSides} (is : set_sides sent wanted flags ≡ v) where
  sent_is : side sent (sent_members flags) ≡ v.sent
  sent_is = ap (λ (u : SetSides). u.sent) is

  wanted_is : side wanted (wanted_members flags) ≡ v.wanted
  wanted_is = ap (λ (u : SetSides). u.wanted) is

  -- ---- what is looked up

  pub sent_flag : sent ≡ is_some v.sent
  sent_flag = is_side sent (sent_members flags) ∙ ap is_some sent_is

  pub unsent_other : sent ≡ false → false ≡ alters same_sets v.sent v.wanted
  unsent_other off =
      sym (ap (λ b. alters same_sets (side b (sent_members flags)) (side wanted (wanted_members flags))) off ∙ unsent_same (side wanted (wanted_members flags)))
      ∙ ap (λ (u : SetSides). alters same_sets u.sent u.wanted) is

  pub unwanted_other : wanted ≡ false → false ≡ alters same_sets v.sent v.wanted
  unwanted_other off =
      sym (ap (λ b. alters same_sets (side sent (sent_members flags)) (side b (wanted_members flags))) off)
      ∙ ap (λ (u : SetSides). alters same_sets u.sent u.wanted) is

  both_other : sent ≡ true → wanted ≡ true → {r : Bool} → r ≡ some_noted added gone → r ≡ alters same_sets v.sent v.wanted
  both_other on_sent on found =
      found ∙ other_members flags added gone was.adds was.goes
      ∙ (λ i. alters same_sets (side (sym on_sent i) (sent_members flags)) (side (sym on i) (wanted_members flags)))
      ∙ ap (λ (u : SetSides). alters same_sets u.sent u.wanted) is

  -- where a member was added, and where none was
  pub added_other : sent ≡ true → wanted ≡ true → is_some (slice_get (set.items added) 0) ≡ true → true ≡ alters same_sets v.sent v.wanted
  added_other on_sent on some = both_other on_sent on (ap (λ b. b || is_some (slice_get (set.items gone) 0)) (sym some))

  pub gone_other : sent ≡ true → wanted ≡ true → is_some (slice_get (set.items added) 0) ≡ false → {r : Bool} → r ≡ is_some (slice_get (set.items gone) 0) → r ≡ alters same_sets v.sent v.wanted
  gone_other on_sent on none found = both_other on_sent on (found ∙ ap (λ b. b || is_some (slice_get (set.items gone) 0)) (sym none))

  pub told_member : (m : Member) → sent ≡ true → is_sent (maps.get flags m) ≡ set.contains (members_of v.sent) m
  told_member m on = sym (sent_there flags m) ∙ sym (of_side sent (sent_members flags) m on) ∙ ap (λ s. set.contains (members_of s) m) sent_is

  pub untold_member : (m : Member) → sent ≡ false → false ≡ set.contains (members_of v.sent) m
  untold_member m off = sym (ap (λ b. set.contains (members_of (side b (sent_members flags))) m) off ∙ none_in m) ∙ ap (λ s. set.contains (members_of s) m) sent_is

  pub lent_members : comes v.sent v.wanted ≡ true → flagged (record { sent = true; now = true }) (maps.entries flags) ≡ set.items (members_of v.wanted)
  lent_members new =
      let on = comes_on sent wanted (sent_members flags) (wanted_members flags) (ap (λ (u : SetSides). comes u.sent u.wanted) is ∙ new) in
      all_members flags (was.unsent on.0) ∙ ap (λ b. set.items (members_of (side b (wanted_members flags)))) (sym on.1) ∙ ap (λ s. set.items (members_of s)) wanted_is

  module _ (other : alters same_sets v.sent v.wanted ≡ true) where
    on_both : (sent ≡ true) × (wanted ≡ true)
    on_both = alters_on sent wanted (sent_members flags) (wanted_members flags) (ap (λ (u : SetSides). alters same_sets u.sent u.wanted) is ∙ other)

    pub lent_adds : set.items added ≡ set.items_minus (members_of v.wanted) (members_of v.sent)
    lent_adds =
        added_members flags added was.adds
        ∙ (λ i. set.items_minus (members_of (side (sym on_both.1 i) (wanted_members flags))) (members_of (side (sym on_both.0 i) (sent_members flags))))
        ∙ (λ i. set.items_minus (members_of (wanted_is i)) (members_of (sent_is i)))

    pub lent_removes : set.items gone ≡ set.items_minus (members_of v.sent) (members_of v.wanted)
    lent_removes =
        gone_members flags gone was.goes
        ∙ (λ i. set.items_minus (members_of (side (sym on_both.0 i) (sent_members flags))) (members_of (side (sym on_both.1 i) (wanted_members flags))))
        ∙ (λ i. set.items_minus (members_of (sent_is i)) (members_of (wanted_is i)))

  -- ---- the set is wanted, or not

  module _ (none : v.wanted ≡ None) where
    pub on_flagged : AreFlagged sent true flags added gone
    on_flagged = record { held = was.held; adds = was.adds; goes = was.goes; unsent = was.unsent; unwanted = λ h. true_false h }

    pub on_sides : set_sides sent true flags ≡ record v { wanted = Some set.empty }
    on_sides =
        let off = off_there wanted (wanted_members flags) (wanted_is ∙ none) in
        λ i. record { sent = sent_is i; wanted = Some (none_wanted flags (was.unwanted off) i) }

  module _ (empty : v.wanted ≡ Some set.empty) where
    pub off_flagged : AreFlagged sent false flags added gone
    off_flagged =
        let on = on_as wanted (wanted_members flags) set.empty (wanted_is ∙ empty) in
        record { held = was.held; adds = was.adds; goes = was.goes; unsent = was.unsent; unwanted = λ h m. sym (wanted_there flags m) ∙ ap (λ (s : Members). set.contains s m) on.1 ∙ none_in m }

    pub off_sides : set_sides sent false flags ≡ record v { wanted = None }
    off_sides i = record { sent = sent_is i; wanted = None }

  -- ---- what is wanted was sent

  module _ (there : IsSome v.wanted) where
    on_wanted : wanted ≡ true
    on_wanted = on_there wanted (wanted_members flags) (ap is_some wanted_is ∙ there)

    module _ (now : FlagMap) (noted left : Members) (held : (m : Member) → is_held (maps.get now m) ≡ true) (same : (m : Member) → differs (maps.get now m) ≡ false)
        (none_added : (m : Member) → set.contains noted m ≡ false) (none_gone : (m : Member) → set.contains left m ≡ false)
        (still : (m : Member) → is_wanted (maps.get now m) ≡ is_wanted (maps.get flags m)) where
      pub settled_flagged : AreFlagged true wanted now noted left
      settled_flagged = record {
        held = held;
        adds = λ m. none_added m ∙ sym (alike_added (maps.get now m) (flags_alike (maps.get now m) (same m)));
        goes = λ m. none_gone m ∙ sym (alike_gone (maps.get now m) (flags_alike (maps.get now m) (same m)));
        unsent = λ h. true_false h;
        unwanted = λ h m. still m ∙ was.unwanted h m;
      }

      pub settled_sides : set_sides true wanted now ≡ record { sent = v.wanted; wanted = v.wanted }
      settled_sides =
          let whole : side wanted (wanted_members now) ≡ v.wanted = ap (side wanted) (same_wanted flags now still) ∙ wanted_is in
          let told : side true (sent_members now) ≡ v.wanted = ap (λ s. Some s) (same_sides now same) ∙ ap (λ b. side b (wanted_members now)) (sym on_wanted) ∙ whole in
          λ i. record { sent = told i; wanted = whole i }
