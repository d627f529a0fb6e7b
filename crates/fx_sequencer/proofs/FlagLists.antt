-- The members that are lent: all of a set that was not sent, by their flags, and those that one side has and the other lacks, as they are
-- noted.
use Rattle.std.proofs.Common.{◌≡◌, Bool, true, false, cond, not, ◌&&◌, List, [], ◌∷◌, map, Option, Some, None, is_some, refl, sym, ap, ◌∙◌}
use Rattle.std.specs.List.{filter, cons_option, AllByRecursion}
use Rattle.std.specs.Option.{option_map, option_and_then}
use Rattle.std.specs.FinMap as maps
use Rattle.fx_base.specs.Projected.{projected, projected_entries}
use Rattle.fx_base.specs.Set as set
use Rattle.fx_base.proofs.Cases.{unit_same}
use Rattle.fx_base.proofs.Found.{each, entries_found}
use Rattle.fx_base.proofs.Projected.{get-projected, entries-projected}
use Rattle.fx_model.specs.MemberLists.{flagged, has_flags}
use Rattle.fx_model.specs.Messages.{Members}
use Rattle.fx_model.specs.declared.member.Member.{Member}
use Rattle.fx_model.specs.declared.member_flags.Flags.{Flags}
use Rattle.fx_model.proofs.Orders.{member_total, exact_member}
use Rattle.fx_sequencer.specs.Flagged.{FlagMap, marked, sent_members, wanted_members, differs, is_added, is_gone, is_sent, is_wanted}
use Rattle.fx_sequencer.proofs.Flagging.{is_marked, sent_there, wanted_there}
use mathlib.Core.Bool.{beq}

-- ---- entries by a part of their values, and those that pass a test

module _ {K X Y : Type 0} (part : X → Option Y) (p : K × X → Bool) where
  all_parts : (es : List (K × X)) → AllByRecursion (λ e. is_some (part e.1) ≡ p e) es → map (λ e. e.0) (projected_entries part es) ≡ map (λ e. e.0) (filter p es)
  all_parts [] h = refl
  all_parts (e ∷ es) h =
      let rest = all_parts es h.1 in
      elim (part e.1) as (λ o. is_some o ≡ p e → map (λ f. f.0) (cons_option (option_map (λ y. (e.0, y)) o) (projected_entries part es)) ≡ map (λ f. f.0) (cond (p e) (e ∷ filter p es) (filter p es))) [
        | None ↦ λ is. rest ∙ ap (λ b. map (λ f. f.0) (cond b (e ∷ filter p es) (filter p es))) is
        | Some y ↦ λ is. ap (λ ks. e.0 ∷ ks) rest ∙ ap (λ b. map (λ f. f.0) (cond b (e ∷ filter p es) (filter p es))) is
      ] h.0

  parts_where : (test : K → Bool) (es : List (K × X)) → AllByRecursion (λ e. (is_some (part e.1) && test e.0) ≡ p e) es → filter test (map (λ e. e.0) (projected_entries part es)) ≡ map (λ e. e.0) (filter p es)
  parts_where test [] h = refl
  parts_where test (e ∷ es) h =
      let rest = parts_where test es h.1 in
      elim (part e.1) as (λ o. (is_some o && test e.0) ≡ p e → filter test (map (λ f. f.0) (cons_option (option_map (λ y. (e.0, y)) o) (projected_entries part es))) ≡ map (λ f. f.0) (cond (p e) (e ∷ filter p es) (filter p es))) [
        | None ↦ λ is. rest ∙ ap (λ b. map (λ f. f.0) (cond b (e ∷ filter p es) (filter p es))) is
        | Some y ↦ λ is.
            elim (test e.0) as (λ b. cond b (e.0 ∷ filter test (map (λ f. f.0) (projected_entries part es))) (filter test (map (λ f. f.0) (projected_entries part es))) ≡ map (λ f. f.0) (cond b (e ∷ filter p es) (filter p es))) [
              | true ↦ ap (λ ks. e.0 ∷ ks) rest
              | false ↦ rest
            ]
            ∙ ap (λ b. map (λ f. f.0) (cond b (e ∷ filter p es) (filter p es))) is
      ] h.0

-- ---- flags by both sides

both_flags : (a b : Bool) → not (beq a b) ≡ false → is_some (marked b) ≡ (beq a true && beq b true)
both_flags true true h = refl
both_flags true false h = cc
both_flags false true h = cc
both_flags false false h = refl

added_alone : (a b : Bool) → is_some (marked (not a && b)) ≡ (beq a false && beq b true)
added_alone true true = refl
added_alone true false = refl
added_alone false true = refl
added_alone false false = refl

gone_alone : (a b : Bool) → is_some (marked (a && not b)) ≡ (beq a true && beq b false)
gone_alone true true = refl
gone_alone true false = refl
gone_alone false true = refl
gone_alone false false = refl

added_flags : (a b : Bool) → (is_some (marked b) && not a) ≡ (beq a false && beq b true)
added_flags true true = refl
added_flags true false = refl
added_flags false true = refl
added_flags false false = refl

removed_flags : (a b : Bool) → (is_some (marked a) && not b) ≡ (beq a true && beq b false)
removed_flags true true = refl
removed_flags true false = refl
removed_flags false true = refl
removed_flags false false = refl

module _ (flags : FlagMap) where
  abbrev Found : Member × Flags → Type 0
  Found e = maps.get flags e.0 ≡ Some e.1

  -- where no member differs
  pub all_members : ((m : Member) → differs (maps.get flags m) ≡ false) → flagged (record { sent = true; now = true }) (maps.entries flags) ≡ set.items (wanted_members flags)
  all_members same =
      let p = λ (e : Member × Flags). has_flags (record { sent = true; now = true }) e.1 in
      sym (
      ap (map (λ e. e.0)) (entries-projected (λ (f : Flags). marked f.now) flags)
      ∙ all_parts (λ (f : Flags). marked f.now) p (maps.entries flags)
      (each Found (λ e. is_some (marked e.1.now) ≡ p e) (λ e there. both_flags e.1.sent e.1.now (ap differs (sym there) ∙ same e.0)) (maps.entries flags) (entries_found member_total flags)))

  flagged_added : flagged (record { sent = false; now = true }) (maps.entries flags) ≡ set.items_minus (wanted_members flags) (sent_members flags)
  flagged_added =
      let p = λ (e : Member × Flags). has_flags (record { sent = false; now = true }) e.1 in
      let test = λ (m : Member). not (set.contains (sent_members flags) m) in
      sym (
      ap (λ es. filter test (map (λ e. e.0) es)) (entries-projected (λ (f : Flags). marked f.now) flags)
      ∙ parts_where (λ (f : Flags). marked f.now) p test (maps.entries flags)
      (each Found (λ e. (is_some (marked e.1.now) && test e.0) ≡ p e) (λ e there.
      (λ i. is_some (marked e.1.now) && not (sent_there flags e.0 i)) ∙ (λ i. is_some (marked e.1.now) && not (is_sent (there i))) ∙ added_flags e.1.sent e.1.now) (maps.entries flags) (entries_found member_total flags)))

  flagged_gone : flagged (record { sent = true; now = false }) (maps.entries flags) ≡ set.items_minus (sent_members flags) (wanted_members flags)
  flagged_gone =
      let p = λ (e : Member × Flags). has_flags (record { sent = true; now = false }) e.1 in
      let test = λ (m : Member). not (set.contains (wanted_members flags) m) in
      sym (
      ap (λ es. filter test (map (λ e. e.0) es)) (entries-projected (λ (f : Flags). marked f.sent) flags)
      ∙ parts_where (λ (f : Flags). marked f.sent) p test (maps.entries flags)
      (each Found (λ e. (is_some (marked e.1.sent) && test e.0) ≡ p e) (λ e there.
      (λ i. is_some (marked e.1.sent) && not (wanted_there flags e.0 i)) ∙ (λ i. is_some (marked e.1.sent) && not (is_wanted (there i))) ∙ removed_flags e.1.sent e.1.now) (maps.entries flags) (entries_found member_total flags)))

-- ---- members that are noted

added_mark : (o : Option Flags) → is_some (option_and_then (λ f. marked (not f.sent && f.now)) o) ≡ is_added o
added_mark None = refl
added_mark (Some f) = is_marked (not f.sent && f.now)

gone_mark : (o : Option Flags) → is_some (option_and_then (λ f. marked (f.sent && not f.now)) o) ≡ is_gone o
gone_mark None = refl
gone_mark (Some f) = is_marked (f.sent && not f.now)

module _ (flags : FlagMap) (noted : Members) where
  -- those that are noted are all whose flags pass
  noted_items : (part : Flags → Option (Unit {0})) → ((m : Member) → set.contains noted m ≡ is_some (option_and_then part (maps.get flags m))) → set.items noted ≡ map (λ e. e.0) (projected_entries part (maps.entries flags))
  noted_items part are =
      let passing = projected part flags in
      let same : noted ≡ passing = maps.same_map member_total exact_member noted passing (λ m. unit_same _ _ (are m ∙ sym (ap is_some (get-projected part flags exact_member m)))) in
      ap set.items same ∙ ap (map (λ e. e.0)) (entries-projected part flags)

  pub added_members : ((m : Member) → set.contains noted m ≡ is_added (maps.get flags m)) → set.items noted ≡ set.items_minus (wanted_members flags) (sent_members flags)
  added_members adds =
      let part = λ (f : Flags). marked (not f.sent && f.now) in
      let p = λ (e : Member × Flags). has_flags (record { sent = false; now = true }) e.1 in
      noted_items part (λ m. adds m ∙ sym (added_mark (maps.get flags m)))
      ∙ all_parts part p (maps.entries flags)
      (each (Found flags) (λ e. is_some (part e.1) ≡ p e) (λ e there. added_alone e.1.sent e.1.now) (maps.entries flags) (entries_found member_total flags))
      ∙ flagged_added flags

  pub gone_members : ((m : Member) → set.contains noted m ≡ is_gone (maps.get flags m)) → set.items noted ≡ set.items_minus (sent_members flags) (wanted_members flags)
  gone_members goes =
      let part = λ (f : Flags). marked (f.sent && not f.now) in
      let p = λ (e : Member × Flags). has_flags (record { sent = true; now = false }) e.1 in
      noted_items part (λ m. goes m ∙ sym (gone_mark (maps.get flags m)))
      ∙ all_parts part p (maps.entries flags)
      (each (Found flags) (λ e. is_some (part e.1) ≡ p e) (λ e there. gone_alone e.1.sent e.1.now) (maps.entries flags) (entries_found member_total flags))
      ∙ flagged_gone flags
