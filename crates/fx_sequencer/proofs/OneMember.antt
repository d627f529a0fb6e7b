-- One member of a set is put in or taken out, and the set's sides change so.
use Rattle.std.proofs.Common.{◌≡◌, true, false, Option, Some, None, is_some, IsSome, refl, sym, ap, ◌∙◌}
use Rattle.std.specs.FinMap as maps
use Rattle.std.specs.Prelude.{Bool}
use Rattle.fx_base.specs.Set as set
use Rattle.fx_base.proofs.Cases.{true_false}
use Rattle.fx_model.specs.Messages.{Members, members_of}
use Rattle.fx_model.specs.declared.member.Member.{Member}
use Rattle.fx_model.specs.declared.member_flags.Flags.{Flags}
use Rattle.fx_model.proofs.Orders.{member_total, exact_member}
use Rattle.fx_sequencer.specs.Flagged.{FlagMap, AreFlagged, sent_members, wanted_members, is_added, is_gone, is_sent, is_wanted}
use Rattle.fx_sequencer.specs.Pending.{SetSides}
use Rattle.fx_sequencer.proofs.AtOne.{IsBut, but_insert, but_remove, in_insert, in_remove, in_same}
use Rattle.fx_sequencer.proofs.Flagging.{kept_sent, sent_kept, flags_alike, unwanted_added, sent_added, unsent_gone, alike_gone, sent_there, wanted_there, on_there, on_with, of_side, flagged_at, sent_still, member_put, member_taken}
use Rattle.fx_sequencer.proofs.OneSet.{set_sides}

abbrev both : Flags
both = record { sent = true; now = true }

abbrev wanted_alone : Flags
wanted_alone = record { sent = false; now = true }

abbrev sent_alone : Flags
sent_alone = record { sent = true; now = false }

module _ {sent wanted : Bool} {flags : FlagMap} {added gone : Members} (was : AreFlagged sent wanted flags added gone) {v : SetSides} (is : set_sides sent wanted flags ≡ v) (m : Member) (there : IsSome v.wanted) where
  on : wanted ≡ true
  on = on_there wanted (wanted_members flags) (ap (λ (u : SetSides). is_some u.wanted) is ∙ there)

  -- ---- it comes

  module _ (absent : set.contains (members_of v.wanted) m ≡ false) where
    off : is_wanted (maps.get flags m) ≡ false
    off = sym (wanted_there flags m) ∙ sym (of_side wanted (wanted_members flags) m on) ∙ ap (λ (u : SetSides). set.contains (members_of u.wanted) m) is ∙ absent

    come : {now : FlagMap} {here : Option Flags} (but : IsBut flags now m here) → (sent ≡ true → is_sent here ≡ is_sent (maps.get flags m)) → is_wanted here ≡ true
        → set_sides sent wanted now ≡ record v { wanted = Some (set.insert (members_of v.wanted) m) }
    come but same comes =
        let sent_is = sent_still was but same ∙ ap (λ (u : SetSides). u.sent) is in
        let wanted_is = member_put was but on comes ∙ ap (λ (u : SetSides). Some (set.insert (members_of u.wanted) m)) is in
        λ i. record { sent = sent_is i; wanted = wanted_is i }

    -- one that was sent and went since
    module _ (some : is_some (maps.get flags m) ≡ true) {now : FlagMap} (at : now ≡ maps.insert flags m both) where
      pub known_flagged : {left : Members} → left ≡ set.remove gone m → AreFlagged sent wanted now added left
      known_flagged {left} less =
          flagged_at was (but_insert member_total flags now m both at) added left false false
          (in_same member_total exact_member added m false (was.adds m ∙ unwanted_added (maps.get flags m) off)) refl
          (in_remove member_total gone left m less) refl refl (λ h. refl) (λ h. true_false (sym on ∙ h))

      pub known_sides : set_sides sent wanted now ≡ record v { wanted = Some (set.insert (members_of v.wanted) m) }
      known_sides = come (but_insert member_total flags now m both at) (λ s. sym (kept_sent (maps.get flags m) some (was.held m) off)) refl

    -- one that was not sent
    module _ (none : maps.get flags m ≡ None) where
      pub none_noted : set.contains added m ≡ false
      none_noted = was.adds m ∙ ap is_added none

      none_gone : set.contains gone m ≡ false
      none_gone = was.goes m ∙ ap is_gone none

      pub new_flagged : {now : FlagMap} → sent ≡ true → now ≡ maps.insert flags m wanted_alone → {noted : Members} → noted ≡ set.insert added m → AreFlagged sent wanted now noted gone
      new_flagged {now} told at {noted} more =
          flagged_at was (but_insert member_total flags now m wanted_alone at) noted gone true false
          (in_insert member_total added noted m more) refl
          (in_same member_total exact_member gone m false none_gone) refl refl (λ h. true_false (sym told ∙ h)) (λ h. true_false (sym on ∙ h))

      pub new_sides : {now : FlagMap} → now ≡ maps.insert flags m wanted_alone → set_sides sent wanted now ≡ record v { wanted = Some (set.insert (members_of v.wanted) m) }
      new_sides {now} at = come (but_insert member_total flags now m wanted_alone at) (λ s. sym (ap is_sent none)) refl

      -- of a set that was not sent
      module _ (untold : sent ≡ false) {now : FlagMap} (at : now ≡ maps.insert flags m both) where
        pub first_flagged : AreFlagged sent wanted now added gone
        first_flagged =
            flagged_at was (but_insert member_total flags now m both at) added gone false false
            (in_same member_total exact_member added m false none_noted) refl
            (in_same member_total exact_member gone m false none_gone) refl refl (λ h. refl) (λ h. true_false (sym on ∙ h))

        pub first_sides : set_sides sent wanted now ≡ record v { wanted = Some (set.insert (members_of v.wanted) m) }
        first_sides = come (but_insert member_total flags now m both at) (λ s. true_false (sym s ∙ untold)) refl

  -- ---- it goes

  leave : {now : FlagMap} {here : Option Flags} (but : IsBut flags now m here) → (sent ≡ true → is_sent here ≡ is_sent (maps.get flags m)) → is_wanted here ≡ false
      → set_sides sent wanted now ≡ record v { wanted = Some (set.remove (members_of v.wanted) m) }
  leave but same goes =
      let sent_is = sent_still was but same ∙ ap (λ (u : SetSides). u.sent) is in
      let wanted_is = member_taken was but on goes ∙ ap (λ (u : SetSides). Some (set.remove (members_of u.wanted) m)) is in
      λ i. record { sent = sent_is i; wanted = wanted_is i }

  -- one that was sent
  module _ (told : set.contains (members_of v.sent) m ≡ true) where
    on_sent : sent ≡ true
    on_sent = on_with sent (sent_members flags) m (ap (λ (u : SetSides). set.contains (members_of u.sent) m) is ∙ told)

    was_sent : is_sent (maps.get flags m) ≡ true
    was_sent = sym (sent_there flags m) ∙ sym (of_side sent (sent_members flags) m on_sent) ∙ ap (λ (u : SetSides). set.contains (members_of u.sent) m) is ∙ told

    pub told_there : is_some (maps.get flags m) ≡ true
    told_there = sent_kept (maps.get flags m) was_sent

    module _ {now : FlagMap} (at : now ≡ maps.insert flags m sent_alone) where
      pub told_flagged : {left : Members} → left ≡ set.insert gone m → AreFlagged sent wanted now added left
      told_flagged {left} more =
          flagged_at was (but_insert member_total flags now m sent_alone at) added left false true
          (in_same member_total exact_member added m false (was.adds m ∙ sent_added (maps.get flags m) was_sent)) refl
          (in_insert member_total gone left m more) refl refl (λ h. true_false (sym on_sent ∙ h)) (λ h. refl)

      pub told_sides : set_sides sent wanted now ≡ record v { wanted = Some (set.remove (members_of v.wanted) m) }
      told_sides = leave (but_insert member_total flags now m sent_alone at) (λ s. sym was_sent) refl

  -- one that was not sent
  module _ (untold : set.contains (members_of v.sent) m ≡ false) {now : FlagMap} (at : now ≡ maps.remove flags m) where
    unsent_here : sent ≡ true → is_sent (maps.get flags m) ≡ false
    unsent_here s = sym (sent_there flags m) ∙ sym (of_side sent (sent_members flags) m s) ∙ ap (λ (u : SetSides). set.contains (members_of u.sent) m) is ∙ untold

    not_gone : is_gone (maps.get flags m) ≡ false
    not_gone =
        elim sent as (λ b. sent ≡ b → is_gone (maps.get flags m) ≡ false) [
          | true ↦ λ s. unsent_gone (maps.get flags m) (unsent_here s)
          | false ↦ λ s. alike_gone (maps.get flags m) (flags_alike (maps.get flags m) (was.unsent s m))
        ] refl

    pub untold_flagged : {noted : Members} → noted ≡ set.remove added m → AreFlagged sent wanted now noted gone
    untold_flagged {noted} less =
        flagged_at was (but_remove member_total flags now m at) noted gone false false
        (in_remove member_total added noted m less) refl
        (in_same member_total exact_member gone m false (was.goes m ∙ not_gone)) refl refl (λ h. refl) (λ h. refl)

    pub untold_sides : set_sides sent wanted now ≡ record v { wanted = Some (set.remove (members_of v.wanted) m) }
    untold_sides = leave (but_remove member_total flags now m at) (λ s. sym (unsent_here s)) refl
