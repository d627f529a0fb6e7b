-- The two maps that the sets make, as each call looks them up and changes them.
use Rattle.std.proofs.Common.{◌≡◌, ℕ, true, List, [], Option, Some, None, is_some, refl, sym, ap, ◌∙◌}
use Rattle.std.specs.List.{slice_get}
use Rattle.std.specs.Option.{option_and_then, option_map}
use Rattle.std.specs.Cmp.Lexicographic.{nat_list_cmp_total}
use Rattle.std.specs.FinMap as maps
use Rattle.fx_base.specs.Projected.{projected}
use Rattle.fx_base.specs.Set as set
use Rattle.fx_base.proofs.Cases.{absent_value, opposite, first_true, none_some}
use Rattle.fx_base.proofs.KeyCases.{bytes_exact}
use Rattle.fx_base.proofs.Projected.{get-projected}
use Rattle.fx_model.specs.Messages.{Named, Members, SetAdd, SetDelta, is_absent, is_other, first_absent, first_other, members_of, set_added, set_changed}
use Rattle.fx_model.specs.declared.member.Member.{Member}
use Rattle.fx_sequencer.specs.Pending.{Keys, SetSides, ArePendingSets, sent_set, wanted_set, same_sets, comes, alters, taken_first}
use Rattle.fx_sequencer.specs.TwoSides.{TwoSides, side_at}
use Rattle.fx_sequencer.proofs.AtOne.{part_none}
use Rattle.fx_sequencer.proofs.FirstPending.{IsFirst, is_first, none_first, first_coming, first_altering, first_passes, first_sent, first_taken, first_some}
use Rattle.fx_sequencer.proofs.SetKeeping.{fresh_sent, fresh_wanted, side_sent, side_put, side_gone, dropped_wanted, unsent_set_sent, taken_set, taken_set_sent, taken_set_wanted, added_pending, changed_pending, one_sent, one_wanted}

-- both maps
abbrev pub set_maps : Named SetSides → TwoSides (Named Members)
set_maps held = record { sent = projected sent_set held; wanted = projected wanted_set held }

pub no_set_maps : {held : Named SetSides} → held ≡ maps.empty → set_maps held ≡ record { sent = maps.empty; wanted = maps.empty }
no_set_maps {held} none i = record { sent = part_none nat_list_cmp_total bytes_exact sent_set held none i; wanted = part_none nat_list_cmp_total bytes_exact wanted_set held none i }

has_set : (e : Option SetSides) → is_some (option_and_then wanted_set e) ≡ true → is_some e ≡ true
has_set None h = cc
has_set (Some s) h = refl

module _ {held : Named SetSides} {to_add to_change to_take : Keys} (was : ArePendingSets held to_add to_change to_take) {v : TwoSides (Named Members)} (is : set_maps held ≡ v) where
  -- ---- what is looked up

  pub wanted_as : (k : List ℕ) → maps.get v.wanted k ≡ side_at wanted_set held k
  wanted_as k = sym (ap (λ (u : TwoSides (Named Members)). maps.get u.wanted k) is) ∙ get-projected wanted_set held bytes_exact k

  pub sent_as : (k : List ℕ) → maps.get v.sent k ≡ side_at sent_set held k
  sent_as k = sym (ap (λ (u : TwoSides (Named Members)). maps.get u.sent k) is) ∙ get-projected sent_set held bytes_exact k

  -- a set that is wanted is kept
  pub set_kept : (k : List ℕ) → is_some (maps.get v.wanted k) ≡ true → is_some (maps.get held k) ≡ true
  set_kept k there = has_set (maps.get held k) (sym (ap is_some (wanted_as k)) ∙ there)

  first_added_key : slice_get (set.items to_add) 0 ≡ option_map (λ e. e.0) (first_absent v.sent v.wanted)
  first_added_key =
      first_coming sent_set wanted_set held to_add was.adds
      ∙ ap (λ (u : TwoSides (Named Members)). option_map (λ e. e.0) (first_absent u.sent u.wanted)) is

  first_changed_key : slice_get (set.items to_change) 0 ≡ option_map (λ e. e.0) (first_other same_sets v.sent v.wanted)
  first_changed_key =
      first_altering sent_set wanted_set held to_change same_sets was.changed
      ∙ ap (λ (u : TwoSides (Named Members)). option_map (λ e. e.0) (first_other same_sets u.sent u.wanted)) is

  pub first_taken_key : slice_get (set.items to_take) 0 ≡ option_map (λ e. e.0) (first_absent v.wanted v.sent)
  first_taken_key =
      first_coming wanted_set sent_set held to_take was.takes
      ∙ ap (λ (u : TwoSides (Named Members)). option_map (λ e. e.0) (first_absent u.wanted u.sent)) is

  pub none_added : None ≡ slice_get (set.items to_add) 0 → None ≡ first_absent v.sent v.wanted
  none_added none = sym (none_first (is_absent v.sent) v.wanted [] (none ∙ first_added_key))

  pub none_changed : None ≡ slice_get (set.items to_change) 0 → None ≡ first_other same_sets v.sent v.wanted
  none_changed none = sym (none_first (is_other same_sets v.sent) v.wanted [] (none ∙ first_changed_key))

  pub none_taken : None ≡ slice_get (set.items to_take) 0 → None ≡ first_absent v.wanted v.sent
  none_taken none = sym (none_first (is_absent v.wanted) v.sent [] (none ∙ first_taken_key))

  -- ---- what was sent

  module _ (k : List ℕ) (w : Members) (there : side_at wanted_set held k ≡ Some w) {now : Named SetSides} (at : now ≡ maps.insert held k (record { sent = side_at wanted_set held k; wanted = side_at wanted_set held k })) where
    one_maps : set_maps now ≡ record v { sent = maps.insert v.sent k w }
    one_maps =
        let sent : projected sent_set now ≡ maps.insert v.sent k w = one_sent was k w there at ∙ ap (λ (u : TwoSides (Named Members)). maps.insert u.sent k w) is in
        let wanted : projected wanted_set now ≡ v.wanted = one_wanted was k w there at ∙ ap (λ (u : TwoSides (Named Members)). u.wanted) is in
        λ i. record { sent = sent i; wanted = wanted i }

  -- the first set that is new
  module _ (k : List ℕ) (first : Some k ≡ slice_get (set.items to_add) 0) where
    pub added_first : IsFirst (is_absent v.sent) v.wanted k
    added_first = is_first (is_absent v.sent) v.wanted k (first ∙ first_added_key)

    pub added_there : side_at wanted_set held k ≡ Some added_first.value
    added_there = sym (wanted_as k) ∙ added_first.there

    pub added_unsent : side_at sent_set held k ≡ None
    added_unsent = sym (sent_as k) ∙ absent_value _ (opposite _ (first_passes (is_absent v.sent) v.wanted k added_first))

    pub added_found : true ≡ is_some (first_absent v.sent v.wanted)
    added_found = sym (first_some (is_absent v.sent) v.wanted k added_first)

    module _ {now : Named SetSides} (at : now ≡ maps.insert held k (record { sent = side_at wanted_set held k; wanted = side_at wanted_set held k })) where
      pub added_maps : set_maps now ≡ record v { sent = taken_first (first_absent v.sent v.wanted) v.sent v.wanted }
      added_maps =
          one_maps k added_first.value added_there at
          ∙ ap (λ (m : Named Members). record v { sent = m }) (sym (first_sent (is_absent v.sent) v.wanted k added_first v.sent))

      pub added_kept : {add : Keys} → add ≡ set.remove to_add k → ArePendingSets now add to_change to_take
      added_kept add_is = added_pending was k added_first.value added_there at added_unsent add_is

    -- what is told of it
    module _ {s : SetSides} (at : Some s ≡ maps.get held k) where
      added_wanted : s.wanted ≡ Some added_first.value
      added_wanted = ap (option_and_then wanted_set) at ∙ added_there

      added_before : s.sent ≡ None
      added_before = ap (option_and_then sent_set) at ∙ added_unsent

      pub added_new : comes s.sent s.wanted ≡ true
      added_new i = comes (added_before i) (added_wanted i)

      pub added_told : {members : List Member} → members ≡ set.items (members_of s.wanted) → Some (SetAdd k members) ≡ option_map set_added (first_absent v.sent v.wanted)
      added_told lent =
          ap (λ (ms : List Member). Some (SetAdd k ms)) (lent ∙ ap (λ w. set.items (members_of w)) added_wanted)
          ∙ sym (ap (option_map set_added) added_first.found)

    pub added_kept_there : {A : Type 0} → None ≡ maps.get held k → A
    added_kept_there none = none_some added_first.value (ap (option_and_then wanted_set) none ∙ added_there)

  -- the first set that was sent with other members
  module _ (k : List ℕ) (first : Some k ≡ slice_get (set.items to_change) 0) where
    pub changed_first : IsFirst (is_other same_sets v.sent) v.wanted k
    changed_first = is_first (is_other same_sets v.sent) v.wanted k (first ∙ first_changed_key)

    pub changed_there : side_at wanted_set held k ≡ Some changed_first.value
    changed_there = sym (wanted_as k) ∙ changed_first.there

    pub changed_sent : is_some (side_at sent_set held k) ≡ true
    changed_sent = sym (ap is_some (sent_as k)) ∙ first_true _ _ (first_passes (is_other same_sets v.sent) v.wanted k changed_first)

    pub changed_found : true ≡ is_some (first_other same_sets v.sent v.wanted)
    changed_found = sym (first_some (is_other same_sets v.sent) v.wanted k changed_first)

    module _ {now : Named SetSides} (at : now ≡ maps.insert held k (record { sent = side_at wanted_set held k; wanted = side_at wanted_set held k })) where
      pub changed_maps : set_maps now ≡ record v { sent = taken_first (first_other same_sets v.sent v.wanted) v.sent v.wanted }
      changed_maps =
          one_maps k changed_first.value changed_there at
          ∙ ap (λ (m : Named Members). record v { sent = m }) (sym (first_sent (is_other same_sets v.sent) v.wanted k changed_first v.sent))

      pub changed_kept : {change : Keys} → change ≡ set.remove to_change k → ArePendingSets now to_add change to_take
      changed_kept change_is = changed_pending was k changed_first.value changed_there at changed_sent change_is

    -- what is told of it
    module _ {s : SetSides} (at : Some s ≡ maps.get held k) where
      changed_wanted : s.wanted ≡ Some changed_first.value
      changed_wanted = ap (option_and_then wanted_set) at ∙ changed_there

      changed_before : s.sent ≡ maps.get v.sent k
      changed_before = ap (option_and_then sent_set) at ∙ sym (sent_as k)

      pub changed_other : alters same_sets s.sent s.wanted ≡ true
      changed_other = (λ i. alters same_sets (changed_before i) (changed_wanted i)) ∙ first_passes (is_other same_sets v.sent) v.wanted k changed_first

      pub changed_told : {adds removes : List Member} → adds ≡ set.items_minus (members_of s.wanted) (members_of s.sent) → removes ≡ set.items_minus (members_of s.sent) (members_of s.wanted)
          → Some (SetDelta k adds removes) ≡ option_map (set_changed v.sent) (first_other same_sets v.sent v.wanted)
      changed_told added removed =
          (λ i. Some (SetDelta k (added i) (removed i)))
          ∙ (λ i. Some (SetDelta k (set.items_minus (members_of (changed_wanted i)) (members_of (changed_before i))) (set.items_minus (members_of (changed_before i)) (members_of (changed_wanted i)))))
          ∙ sym (ap (option_map (set_changed v.sent)) changed_first.found)

    pub changed_kept_there : {A : Type 0} → None ≡ maps.get held k → A
    changed_kept_there none = none_some changed_first.value (ap (option_and_then wanted_set) none ∙ changed_there)

  -- the first set that is gone
  module _ (k : List ℕ) (first : Some k ≡ slice_get (set.items to_take) 0) where
    taken_here : IsFirst (is_absent v.wanted) v.sent k
    taken_here = is_first (is_absent v.wanted) v.sent k (first ∙ first_taken_key)

    not_there : maps.get v.wanted k ≡ None
    not_there = absent_value _ (opposite _ (first_passes (is_absent v.wanted) v.sent k taken_here))

    unwanted : side_at wanted_set held k ≡ None
    unwanted = sym (wanted_as k) ∙ not_there

    pub taken_found : true ≡ is_some (first_absent v.wanted v.sent)
    taken_found = sym (first_some (is_absent v.wanted) v.sent k taken_here)

    pub gone_maps : {now : Named SetSides} → now ≡ maps.remove held k → set_maps now ≡ record v { sent = taken_first (first_absent v.wanted v.sent) v.sent v.wanted }
    gone_maps {now} at =
        let sent : projected sent_set now ≡ taken_first (first_absent v.wanted v.sent) v.sent v.wanted =
        taken_set_sent was k at
        ∙ ap (λ (u : TwoSides (Named Members)). maps.remove u.sent k) is
        ∙ sym (first_taken (is_absent v.wanted) v.sent k taken_here v.sent v.wanted not_there) in
        let wanted : projected wanted_set now ≡ v.wanted = taken_set_wanted was k at unwanted ∙ ap (λ (u : TwoSides (Named Members)). u.wanted) is in
        λ i. record { sent = sent i; wanted = wanted i }

    pub gone_kept : {now : Named SetSides} → now ≡ maps.remove held k → {take : Keys} → take ≡ set.remove to_take k → ArePendingSets now to_add to_change take
    gone_kept at take_is = taken_set was k at unwanted take_is

  -- ---- what is changed

  module _ (k : List ℕ) {now : Named SetSides} where
    pub fresh_maps : (absent : maps.get held k ≡ None) → now ≡ maps.insert held k (record { sent = None; wanted = Some set.empty }) → set_maps now ≡ record v { wanted = maps.insert v.wanted k set.empty }
    fresh_maps absent at =
        let sent : projected sent_set now ≡ v.sent = fresh_sent was k absent at ∙ ap (λ (u : TwoSides (Named Members)). u.sent) is in
        let wanted : projected wanted_set now ≡ maps.insert v.wanted k set.empty = fresh_wanted was k absent at ∙ ap (λ (u : TwoSides (Named Members)). maps.insert u.wanted k set.empty) is in
        λ i. record { sent = sent i; wanted = wanted i }

    pub side_maps : (w : Members) → now ≡ maps.insert held k (record { sent = side_at sent_set held k; wanted = Some w }) → set_maps now ≡ record v { wanted = maps.insert v.wanted k w }
    side_maps w at =
        let sent : projected sent_set now ≡ v.sent = side_sent was k (Some w) at ∙ ap (λ (u : TwoSides (Named Members)). u.sent) is in
        let wanted : projected wanted_set now ≡ maps.insert v.wanted k w = side_put was k (Some w) at w refl ∙ ap (λ (u : TwoSides (Named Members)). maps.insert u.wanted k w) is in
        λ i. record { sent = sent i; wanted = wanted i }

    pub off_maps : now ≡ maps.insert held k (record { sent = side_at sent_set held k; wanted = None }) → set_maps now ≡ record v { wanted = maps.remove v.wanted k }
    off_maps at =
        let sent : projected sent_set now ≡ v.sent = side_sent was k None at ∙ ap (λ (u : TwoSides (Named Members)). u.sent) is in
        let wanted : projected wanted_set now ≡ maps.remove v.wanted k = side_gone was k None at refl ∙ ap (λ (u : TwoSides (Named Members)). maps.remove u.wanted k) is in
        λ i. record { sent = sent i; wanted = wanted i }

    pub dropped_maps : side_at sent_set held k ≡ None → now ≡ maps.remove held k → set_maps now ≡ record v { wanted = maps.remove v.wanted k }
    dropped_maps unsent at =
        let sent : projected sent_set now ≡ v.sent = unsent_set_sent was k at unsent ∙ ap (λ (u : TwoSides (Named Members)). u.sent) is in
        let wanted : projected wanted_set now ≡ maps.remove v.wanted k = dropped_wanted was k at ∙ ap (λ (u : TwoSides (Named Members)). maps.remove u.wanted k) is in
        λ i. record { sent = sent i; wanted = wanted i }
