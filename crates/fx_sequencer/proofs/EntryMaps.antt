-- The two maps that the entries make, as each call looks them up and changes them.
use Rattle.std.proofs.Common.{◌≡◌, ℕ, Bool, true, List, [], Option, Some, None, is_some, refl, sym, ap, ◌∙◌}
use Rattle.std.specs.List.{slice_get}
use Rattle.std.specs.Option.{option_and_then, option_map}
use Rattle.std.specs.Cmp.Lexicographic.{nat_list_cmp_total}
use Rattle.std.specs.FinMap as maps
use Rattle.fx_base.specs.Projected.{projected}
use Rattle.fx_base.specs.Set as set
use Rattle.fx_base.proofs.Cases.{absent_value, opposite}
use Rattle.fx_base.proofs.KeyCases.{bytes_exact}
use Rattle.fx_base.proofs.Projected.{get-projected}
use Rattle.fx_model.specs.Messages.{Named, is_absent, is_changed, first_absent, first_changed}
use Rattle.fx_sequencer.specs.Entry.{sent_of, wanted_of, entry_of, withdrawn, settled}
use Rattle.fx_sequencer.specs.Pending.{Keys, ArePending, taken_first}
use Rattle.fx_sequencer.specs.TwoSides.{TwoSides, side_at}
use Rattle.fx_sequencer.specs.declared.entry.Entry.{Entry}
use Rattle.fx_sequencer.proofs.AtOne.{part_none}
use Rattle.fx_sequencer.proofs.FirstPending.{IsFirst, is_first, none_first, first_changing, first_coming, first_passes, first_lent, first_sent, first_taken, first_some}
use Rattle.fx_sequencer.proofs.Keeping.{settled_pending, taken_pending, put_sent, put_wanted, unsent_sent, removed_wanted, taken_sent, taken_wanted, withdrawn_sent, withdrawn_wanted, settled_sent, settled_wanted}

-- both maps
abbrev pub entry_maps : {X : Type 0} → Named (Entry X) → TwoSides (Named X)
entry_maps held = record { sent = projected sent_of held; wanted = projected wanted_of held }

pub no_maps : {X : Type 0} {held : Named (Entry X)} → held ≡ maps.empty → entry_maps held ≡ record { sent = maps.empty; wanted = maps.empty }
no_maps {held = held} none i = record { sent = part_none nat_list_cmp_total bytes_exact sent_of held none i; wanted = part_none nat_list_cmp_total bytes_exact wanted_of held none i }

has_entry : {X : Type 0} (e : Option (Entry X)) → is_some (option_and_then wanted_of e) ≡ true → is_some e ≡ true
has_entry None h = cc
has_entry (Some e) h = refl

-- a key with a wanted value has an entry
pub entry_there : {X : Type 0} (held : Named (Entry X)) (k : List ℕ) (x : X) → side_at wanted_of held k ≡ Some x → is_some (maps.get held k) ≡ true
entry_there held k x at = has_entry (maps.get held k) (ap is_some at)

module _ {X : Type 0} {eq : X → X → Bool} {held : Named (Entry X)} {to_put to_take : Keys} (was : ArePending eq held to_put to_take) {v : TwoSides (Named X)} (is : entry_maps held ≡ v) where
  -- ---- what is looked up

  pub wanted_as : (k : List ℕ) → maps.get v.wanted k ≡ side_at wanted_of held k
  wanted_as k = sym (ap (λ (u : TwoSides (Named X)). maps.get u.wanted k) is) ∙ get-projected wanted_of held bytes_exact k

  first_put_key : slice_get (set.items to_put) 0 ≡ option_map (λ e. e.0) (first_changed eq v.sent v.wanted)
  first_put_key =
      first_changing sent_of wanted_of held to_put eq was.puts
      ∙ ap (λ (u : TwoSides (Named X)). option_map (λ e. e.0) (first_changed eq u.sent u.wanted)) is

  pub first_taken_key : slice_get (set.items to_take) 0 ≡ option_map (λ e. e.0) (first_absent v.wanted v.sent)
  first_taken_key =
      first_coming wanted_of sent_of held to_take was.takes
      ∙ ap (λ (u : TwoSides (Named X)). option_map (λ e. e.0) (first_absent u.wanted u.sent)) is

  pub none_put : None ≡ slice_get (set.items to_put) 0 → None ≡ first_changed eq v.sent v.wanted
  none_put none = sym (none_first (is_changed eq v.sent) v.wanted [] (none ∙ first_put_key))

  pub none_taken : None ≡ slice_get (set.items to_take) 0 → None ≡ first_absent v.wanted v.sent
  none_taken none = sym (none_first (is_absent v.wanted) v.sent [] (none ∙ first_taken_key))

  module _ (k : List ℕ) (first : Some k ≡ slice_get (set.items to_put) 0) where
    pub put_first : IsFirst (is_changed eq v.sent) v.wanted k
    put_first = is_first (is_changed eq v.sent) v.wanted k (first ∙ first_put_key)

    pub put_lent : (value : Option X) → value ≡ side_at wanted_of held k → option_map (λ x. (k, x)) value ≡ first_changed eq v.sent v.wanted
    put_lent value at = first_lent (is_changed eq v.sent) v.wanted k put_first value (at ∙ sym (wanted_as k))

    pub put_there : side_at wanted_of held k ≡ Some put_first.value
    put_there = sym (wanted_as k) ∙ put_first.there

    pub put_found : true ≡ is_some (first_changed eq v.sent v.wanted)
    put_found = sym (first_some (is_changed eq v.sent) v.wanted k put_first)

    -- once it was sent
    pub sent_maps : (itself : (a : X) → eq a a ≡ true) {now : Named (Entry X)} → now ≡ maps.insert held k (settled (side_at wanted_of held k))
        → entry_maps now ≡ record v { sent = taken_first (first_changed eq v.sent v.wanted) v.sent v.wanted }
    sent_maps itself {now} at =
        let x = put_first.value in
        let sent : projected sent_of now ≡ taken_first (first_changed eq v.sent v.wanted) v.sent v.wanted =
        settled_sent was k itself x put_there at
        ∙ ap (λ (u : TwoSides (Named X)). maps.insert u.sent k x) is
        ∙ sym (first_sent (is_changed eq v.sent) v.wanted k put_first v.sent) in
        let wanted : projected wanted_of now ≡ v.wanted =
        settled_wanted was k itself x put_there at ∙ ap (λ (u : TwoSides (Named X)). u.wanted) is in
        λ i. record { sent = sent i; wanted = wanted i }

    pub sent_pending : (itself : (a : X) → eq a a ≡ true) {now : Named (Entry X)} → now ≡ maps.insert held k (settled (side_at wanted_of held k))
        → {put : Keys} → put ≡ set.remove to_put k → ArePending eq now put to_take
    sent_pending itself at put_is = settled_pending was k itself put_first.value put_there at put_is

  module _ (k : List ℕ) (first : Some k ≡ slice_get (set.items to_take) 0) where
    taken_here : IsFirst (is_absent v.wanted) v.sent k
    taken_here = is_first (is_absent v.wanted) v.sent k (first ∙ first_taken_key)

    not_there : maps.get v.wanted k ≡ None
    not_there = absent_value _ (opposite _ (first_passes (is_absent v.wanted) v.sent k taken_here))

    unwanted : side_at wanted_of held k ≡ None
    unwanted = sym (wanted_as k) ∙ not_there

    pub taken_found : true ≡ is_some (first_absent v.wanted v.sent)
    taken_found = sym (first_some (is_absent v.wanted) v.sent k taken_here)

    -- once it was told that it is gone
    pub gone_maps : {now : Named (Entry X)} → now ≡ maps.remove held k → entry_maps now ≡ record v { sent = taken_first (first_absent v.wanted v.sent) v.sent v.wanted }
    gone_maps {now} at =
        let sent : projected sent_of now ≡ taken_first (first_absent v.wanted v.sent) v.sent v.wanted =
        taken_sent was k at
        ∙ ap (λ (u : TwoSides (Named X)). maps.remove u.sent k) is
        ∙ sym (first_taken (is_absent v.wanted) v.sent k taken_here v.sent v.wanted not_there) in
        let wanted : projected wanted_of now ≡ v.wanted =
        taken_wanted was k at unwanted ∙ ap (λ (u : TwoSides (Named X)). u.wanted) is in
        λ i. record { sent = sent i; wanted = wanted i }

    pub gone_pending : {now : Named (Entry X)} → now ≡ maps.remove held k → {take : Keys} → take ≡ set.remove to_take k → ArePending eq now to_put take
    gone_pending at take_is = taken_pending was k at unwanted take_is

  -- ---- what is changed

  module _ (k : List ℕ) {now : Named (Entry X)} where
    pub put_maps : ((a b : X) → eq a b ≡ true → a ≡ b) → (x : X) → now ≡ maps.insert held k (entry_of eq (side_at sent_of held k) x) → entry_maps now ≡ record v { wanted = maps.insert v.wanted k x }
    put_maps same x at =
        let sent : projected sent_of now ≡ v.sent = put_sent was k same x at ∙ ap (λ (u : TwoSides (Named X)). u.sent) is in
        let wanted : projected wanted_of now ≡ maps.insert v.wanted k x = put_wanted was k same x at ∙ ap (λ (u : TwoSides (Named X)). maps.insert u.wanted k x) is in
        λ i. record { sent = sent i; wanted = wanted i }

    pub unsent_maps : side_at sent_of held k ≡ None → now ≡ maps.remove held k → entry_maps now ≡ record v { wanted = maps.remove v.wanted k }
    unsent_maps unsent at =
        let sent : projected sent_of now ≡ v.sent = unsent_sent was k at unsent ∙ ap (λ (u : TwoSides (Named X)). u.sent) is in
        let wanted : projected wanted_of now ≡ maps.remove v.wanted k = removed_wanted was k at ∙ ap (λ (u : TwoSides (Named X)). maps.remove u.wanted k) is in
        λ i. record { sent = sent i; wanted = wanted i }

    pub withdrawn_maps : now ≡ maps.insert held k (withdrawn (side_at sent_of held k)) → entry_maps now ≡ record v { wanted = maps.remove v.wanted k }
    withdrawn_maps at =
        let sent : projected sent_of now ≡ v.sent = withdrawn_sent was k at ∙ ap (λ (u : TwoSides (Named X)). u.sent) is in
        let wanted : projected wanted_of now ≡ maps.remove v.wanted k = withdrawn_wanted was k at ∙ ap (λ (u : TwoSides (Named X)). maps.remove u.wanted k) is in
        λ i. record { sent = sent i; wanted = wanted i }

  pub kept_there : (k : List ℕ) → is_some (maps.get v.wanted k) ≡ true → is_some (maps.get held k) ≡ true
  kept_there k there = has_entry (maps.get held k) (sym (ap is_some (wanted_as k)) ∙ there)
