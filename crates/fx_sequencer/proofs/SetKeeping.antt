-- Names of sets stay pending exactly where their sides differ, and the two maps change as a set does.
use Rattle.std.proofs.Common.{◌≡◌, ℕ, Bool, true, false, not, ◌||◌, List, Option, Some, None, is_some, refl, sym, ap, ◌∙◌, subst, cond}
use Rattle.std.specs.Option.{option_and_then}
use Rattle.std.specs.Cmp.Lexicographic.{nat_list_cmp_total}
use Rattle.std.specs.FinMap as maps
use Rattle.fx_base.specs.Projected.{projected}
use Rattle.fx_base.specs.Set as set
use Rattle.fx_base.proofs.AtKey.{get_empty, get_insert_same}
use Rattle.fx_base.proofs.Cases.{surely}
use Rattle.fx_base.proofs.KeyCases.{bytes_exact}
use Rattle.fx_base.proofs.SetAt.{put_back}
use Rattle.fx_model.specs.Messages.{Named, Members}
use Rattle.fx_model.specs.contracts.member.MemberSetEq.TheImpl.Laws as members_laws
use Rattle.fx_sequencer.specs.Pending.{Keys, SetSides, ArePendingSets, sent_set, wanted_set, has_side, same_sets, comes, alters}
use Rattle.fx_sequencer.specs.TwoSides.{side_at}
use Rattle.fx_sequencer.proofs.AtOne.{IsBut, IsButIn, but_insert, but_remove, but_same, in_insert, in_remove, in_same, in_kept, all_at, told_at, part_put, part_gone, part_still}
use Rattle.fx_sequencer.proofs.Entering.{there_already, goes}

-- ---- what is told of a set by its sides

abbrev adds_at : Option SetSides → Bool
adds_at s = comes (option_and_then sent_set s) (option_and_then wanted_set s)

abbrev pub changed_at : Option SetSides → Bool
changed_at s = alters same_sets (option_and_then sent_set s) (option_and_then wanted_set s)

abbrev takes_at : Option SetSides → Bool
takes_at s = comes (option_and_then wanted_set s) (option_and_then sent_set s)

pub unsent_same : (wanted : Option Members) → alters same_sets None wanted ≡ false
unsent_same None = refl
unsent_same (Some w) = refl

-- a set that was sent as it is wanted
sent_same : (w : Members) → false ≡ alters same_sets (Some w) (Some w)
sent_same w = sym (ap not (members_laws.laws-law.refl w))

not_new : (sent : Option Members) → is_some sent ≡ true → (wanted : Option Members) → comes sent wanted ≡ false
not_new sent there None = refl
not_new sent there (Some w) = ap not there

comes_if : (sent wanted : Option Members) → is_some wanted ≡ true → comes sent wanted ≡ not (is_some sent)
comes_if sent None there = cc
comes_if sent (Some w) there = refl

stays : (wanted sent : Option Members) → is_some wanted ≡ true → comes wanted sent ≡ false
stays None sent there = cc
stays (Some w) sent there = there_already w sent

first_side : (a b : Bool) → (a || b) ≡ true → b ≡ false → a ≡ true
first_side true b h off = refl
first_side false b h off = cc

-- a set that is kept, and isn't wanted, was sent
one_side : (s : Option SetSides) → is_some s ≡ true → has_side s ≡ true → option_and_then wanted_set s ≡ None → is_some (option_and_then sent_set s) ≡ true
one_side None there h none = cc
one_side (Some s) there h none = first_side (is_some s.sent) (is_some s.wanted) h (ap is_some none)

-- without sets no name is pending
pub no_sets_pending : {held : Named SetSides} {to_add to_change to_take : Keys} → held ≡ maps.empty → to_add ≡ set.empty → to_change ≡ set.empty → to_take ≡ set.empty → ArePendingSets held to_add to_change to_take
no_sets_pending {held} none no_add no_change no_take =
    let at : (k : List ℕ) → maps.get held k ≡ None = λ k. ap (λ (m : Named SetSides). maps.get m k) none ∙ get_empty k in
    record {
      there = λ k. ap has_side (at k);
      adds = λ k. ap (λ (s : Keys). set.contains s k) no_add ∙ ap is_some (get_empty k) ∙ sym (ap adds_at (at k));
      changed = λ k. ap (λ (s : Keys). set.contains s k) no_change ∙ ap is_some (get_empty k) ∙ sym (ap changed_at (at k));
      takes = λ k. ap (λ (s : Keys). set.contains s k) no_take ∙ ap is_some (get_empty k) ∙ sym (ap takes_at (at k));
    }

module _ {held : Named SetSides} {to_add to_change to_take : Keys} (was : ArePendingSets held to_add to_change to_take) (key : List ℕ) where
  abbrev sent : Option Members
  sent = side_at sent_set held key

  abbrev wanted : Option Members
  wanted = side_at wanted_set held key

  -- one set is changed, and the names are as its sides are then
  module _ (now : Named SetSides) (here : Option SetSides) (but : IsBut held now key here) where
    sets_pending : has_side here ≡ true → (add change take : Keys) → IsButIn to_add add key (adds_at here) → IsButIn to_change change key (changed_at here) → IsButIn to_take take key (takes_at here)
        → ArePendingSets now add change take
    sets_pending there add change take adds changes takes = record {
      there = all_at has_side held now key here but true there was.there;
      adds = told_at adds_at held now key here but to_add add (adds_at here) adds refl was.adds;
      changed = told_at changed_at held now key here but to_change change (changed_at here) changes refl was.changed;
      takes = told_at takes_at held now key here but to_take take (takes_at here) takes refl was.takes;
    }

  still_adds : (b : Bool) → comes sent wanted ≡ b → IsButIn to_add to_add key b
  still_adds b is = in_same nat_list_cmp_total bytes_exact to_add key b (was.adds key ∙ is)

  still_changes : (b : Bool) → alters same_sets sent wanted ≡ b → IsButIn to_change to_change key b
  still_changes b is = in_same nat_list_cmp_total bytes_exact to_change key b (was.changed key ∙ is)

  still_takes : (b : Bool) → comes wanted sent ≡ b → IsButIn to_take to_take key b
  still_takes b is = in_same nat_list_cmp_total bytes_exact to_take key b (was.takes key ∙ is)

  -- ---- a set is wanted

  -- one that was not there
  module _ (absent : maps.get held key ≡ None) where
    abbrev fresh : SetSides
    fresh = record { sent = None; wanted = Some set.empty }

    pub refused_set : {add back : Keys} {now : Named SetSides} → add ≡ set.insert to_add key → back ≡ set.remove add key → now ≡ held → ArePendingSets now back to_change to_take
    refused_set add_is back_is same =
        let back : set.remove (set.insert to_add key) key ≡ to_add = put_back nat_list_cmp_total bytes_exact to_add key (was.adds key ∙ ap adds_at absent) in
        let out = back_is ∙ ap (λ (s : Keys). set.remove s key) add_is ∙ back in
        subst (λ (p : Named SetSides × Keys). ArePendingSets p.0 p.1 to_change to_take) (λ i. (sym same i, sym out i)) was

    module _ {now : Named SetSides} (is : now ≡ maps.insert held key fresh) where
      fresh_but : IsBut held now key (Some fresh)
      fresh_but = but_insert nat_list_cmp_total held now key fresh is

      pub fresh_pending : {add : Keys} → add ≡ set.insert to_add key → ArePendingSets now add to_change to_take
      fresh_pending {add} add_is =
          sets_pending now (Some fresh) fresh_but refl add to_change to_take (in_insert nat_list_cmp_total to_add add key add_is)
          (still_changes false (ap changed_at absent)) (still_takes false (ap takes_at absent))

      pub fresh_sent : projected sent_set now ≡ projected sent_set held
      fresh_sent = part_still nat_list_cmp_total bytes_exact sent_set held now key (Some fresh) fresh_but (sym (ap (option_and_then sent_set) absent))

      pub fresh_wanted : projected wanted_set now ≡ maps.insert (projected wanted_set held) key set.empty
      fresh_wanted = part_put nat_list_cmp_total bytes_exact wanted_set held now key (Some fresh) fresh_but set.empty refl

  -- one whose wanted side alone changes
  module _ (after : Option Members) {now : Named SetSides} (is : now ≡ maps.insert held key (record { sent = sent; wanted = after })) where
    side_but : IsBut held now key (Some (record { sent = sent; wanted = after }))
    side_but = but_insert nat_list_cmp_total held now key (record { sent = sent; wanted = after }) is

    pub side_sent : projected sent_set now ≡ projected sent_set held
    side_sent = part_still nat_list_cmp_total bytes_exact sent_set held now key (Some (record { sent = sent; wanted = after })) side_but refl

    pub side_put : (w : Members) → after ≡ Some w → projected wanted_set now ≡ maps.insert (projected wanted_set held) key w
    side_put w there = part_put nat_list_cmp_total bytes_exact wanted_set held now key (Some (record { sent = sent; wanted = after })) side_but w there

    pub side_gone : after ≡ None → projected wanted_set now ≡ maps.remove (projected wanted_set held) key
    side_gone none = part_gone nat_list_cmp_total bytes_exact wanted_set held now key (Some (record { sent = sent; wanted = after })) side_but none

  -- one that was sent and is wanted again
  pub again_pending : (e : Members) {now : Named SetSides} → now ≡ maps.insert held key (record { sent = sent; wanted = Some e })
      → is_some (maps.get held key) ≡ true → wanted ≡ None → {change kept take : Keys} (differs : Bool) → differs ≡ alters same_sets sent (Some e)
      → change ≡ set.insert to_change key → kept ≡ cond differs change (set.remove change key) → take ≡ set.remove to_take key → ArePendingSets now to_add kept take
  again_pending e {now} is there none {change} {kept} {take} differs told change_is kept_is take_is =
      let s : SetSides = record { sent = sent; wanted = Some e } in
      let was_sent : is_some sent ≡ true = one_side (maps.get held key) there (was.there key) none in
      sets_pending now (Some s) (but_insert nat_list_cmp_total held now key s is) (surely (is_some sent)) to_add kept take
      (still_adds (not (is_some sent)) (ap (comes sent) none ∙ sym (ap not was_sent)))
      (subst (IsButIn to_change kept key) told (in_kept nat_list_cmp_total to_change change kept key differs change_is kept_is))
      (subst (IsButIn to_take take key) (sym (there_already e sent)) (in_remove nat_list_cmp_total to_take take key take_is))

  -- ---- a set is wanted no more

  module _ {now : Named SetSides} (is : now ≡ maps.remove held key) where
    dropped_but : IsBut held now key None
    dropped_but = but_remove nat_list_cmp_total held now key is

    pub dropped_wanted : projected wanted_set now ≡ maps.remove (projected wanted_set held) key
    dropped_wanted = part_gone nat_list_cmp_total bytes_exact wanted_set held now key None dropped_but refl

    -- of one that was not sent nothing is left
    pub unsent_set : sent ≡ None → {add : Keys} → add ≡ set.remove to_add key → ArePendingSets now add to_change to_take
    unsent_set none {add} add_is =
        sets_pending now None dropped_but refl add to_change to_take (in_remove nat_list_cmp_total to_add add key add_is)
        (still_changes false (ap (λ s. alters same_sets s wanted) none ∙ unsent_same wanted)) (still_takes false (ap (comes wanted) none))

    pub unsent_set_sent : sent ≡ None → projected sent_set now ≡ projected sent_set held
    unsent_set_sent none = part_still nat_list_cmp_total bytes_exact sent_set held now key None dropped_but (sym none)

    -- one that was wanted no more is gone
    pub taken_set : wanted ≡ None → {take : Keys} → take ≡ set.remove to_take key → ArePendingSets now to_add to_change take
    taken_set none {take} take_is =
        sets_pending now None dropped_but refl to_add to_change take (still_adds false (ap (comes sent) none))
        (still_changes false (ap (alters same_sets sent) none)) (in_remove nat_list_cmp_total to_take take key take_is)

    pub taken_set_sent : projected sent_set now ≡ maps.remove (projected sent_set held) key
    taken_set_sent = part_gone nat_list_cmp_total bytes_exact sent_set held now key None dropped_but refl

    pub taken_set_wanted : wanted ≡ None → projected wanted_set now ≡ projected wanted_set held
    taken_set_wanted none = part_still nat_list_cmp_total bytes_exact wanted_set held now key None dropped_but (sym none)

  -- one that was sent has to go
  pub off_pending : {now : Named SetSides} → now ≡ maps.insert held key (record { sent = sent; wanted = None })
      → is_some sent ≡ true → {change take : Keys} → change ≡ set.remove to_change key → take ≡ set.insert to_take key → ArePendingSets now to_add change take
  off_pending {now} is was_sent {change} {take} change_is take_is =
      let s : SetSides = record { sent = sent; wanted = None } in
      sets_pending now (Some s) (but_insert nat_list_cmp_total held now key s is) (ap (λ b. b || false) was_sent) to_add change take
      (still_adds false (not_new sent was_sent wanted)) (in_remove nat_list_cmp_total to_change change key change_is)
      (subst (IsButIn to_take take key) (goes sent was_sent) (in_insert nat_list_cmp_total to_take take key take_is))

  -- ---- members of a set

  module _ (there : is_some wanted ≡ true) {change kept : Keys} (change_is : change ≡ set.insert to_change key) (differs : Bool) (kept_is : kept ≡ cond differs change (set.remove change key)) where
    kept_in : IsButIn to_change kept key differs
    kept_in = in_kept nat_list_cmp_total to_change change kept key differs change_is kept_is

    pub members_pending : (after : Members) {now : Named SetSides} → now ≡ maps.insert held key (record { sent = sent; wanted = Some after })
        → differs ≡ changed_at (maps.get now key) → ArePendingSets now to_add kept to_take
    members_pending after {now} is told =
        let s : SetSides = record { sent = sent; wanted = Some after } in
        let stands : maps.get now key ≡ Some s = ap (λ (m : Named SetSides). maps.get m key) is ∙ get_insert_same held key s in
        sets_pending now (Some s) (but_insert nat_list_cmp_total held now key s is) (surely (is_some sent)) to_add kept to_take
        (still_adds (not (is_some sent)) (comes_if sent wanted there))
        (subst (IsButIn to_change kept key) (told ∙ ap changed_at stands) kept_in)
        (still_takes (comes (Some after) sent) (stays wanted sent there ∙ sym (there_already after sent)))

    pub members_refused : {now : Named SetSides} → now ≡ held → differs ≡ changed_at (maps.get now key) → ArePendingSets now to_add kept to_take
    members_refused {now} is told =
        sets_pending now (maps.get held key) (but_same bytes_exact held now key is) (was.there key) to_add kept to_take
        (still_adds (comes sent wanted) refl)
        (subst (IsButIn to_change kept key) (told ∙ ap (λ (m : Named SetSides). changed_at (maps.get m key)) is) kept_in)
        (still_takes (comes wanted sent) refl)

  -- ---- a set was sent

  module _ (w : Members) (there : wanted ≡ Some w) {now : Named SetSides} (is : now ≡ maps.insert held key (record { sent = wanted; wanted = wanted })) where
    abbrev one : SetSides
    one = record { sent = Some w; wanted = Some w }

    one_but : IsBut held now key (Some one)
    one_but = but_insert nat_list_cmp_total held now key one (is ∙ ap (λ (s : Option Members). maps.insert held key (record { sent = s; wanted = s })) there)

    one_takes : IsButIn to_take to_take key false
    one_takes = still_takes false (ap (λ x. comes x sent) there ∙ there_already w sent)

    pub added_pending : sent ≡ None → {add : Keys} → add ≡ set.remove to_add key → ArePendingSets now add to_change to_take
    added_pending none {add} add_is =
        sets_pending now (Some one) one_but refl add to_change to_take (in_remove nat_list_cmp_total to_add add key add_is)
        (still_changes (alters same_sets (Some w) (Some w)) (ap (λ s. alters same_sets s wanted) none ∙ unsent_same wanted ∙ sent_same w)) one_takes

    pub changed_pending : is_some sent ≡ true → {change : Keys} → change ≡ set.remove to_change key → ArePendingSets now to_add change to_take
    changed_pending was_sent {change} change_is =
        sets_pending now (Some one) one_but refl to_add change to_take (still_adds false (not_new sent was_sent wanted))
        (subst (IsButIn to_change change key) (sent_same w) (in_remove nat_list_cmp_total to_change change key change_is)) one_takes

    pub one_sent : projected sent_set now ≡ maps.insert (projected sent_set held) key w
    one_sent = part_put nat_list_cmp_total bytes_exact sent_set held now key (Some one) one_but w refl

    pub one_wanted : projected wanted_set now ≡ projected wanted_set held
    one_wanted = part_still nat_list_cmp_total bytes_exact wanted_set held now key (Some one) one_but (sym there)
