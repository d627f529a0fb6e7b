-- Keys stay pending exactly where their sides differ, and the two maps change as the entry does.
use Rattle.std.proofs.Common.{◌≡◌, ℕ, Bool, true, false, not, cond, List, Option, Some, None, is_some, refl, sym, ap, ◌∙◌, subst}
use Rattle.std.specs.Option.{option_and_then}
use Rattle.std.specs.Cmp.Lexicographic.{nat_list_cmp_total}
use Rattle.std.specs.FinMap as maps
use Rattle.fx_base.specs.Projected.{projected}
use Rattle.fx_base.specs.Set as set
use Rattle.fx_base.proofs.AtKey.{get_empty}
use Rattle.fx_base.proofs.KeyCases.{bytes_exact}
use Rattle.fx_base.proofs.SetAt.{put_back}
use Rattle.fx_model.specs.Messages.{Named}
use Rattle.fx_sequencer.specs.Entry.{sent_of, wanted_of, entry_of, withdrawn, settled, is_exact}
use Rattle.fx_sequencer.specs.Pending.{Keys, ArePending, comes, changes}
use Rattle.fx_sequencer.specs.TwoSides.{side_at}
use Rattle.fx_sequencer.specs.declared.entry.Entry.{Entry}
use Rattle.fx_sequencer.specs.declared.entry.Entry.TheVariants.{Both}
use Rattle.fx_sequencer.proofs.AtOne.{IsBut, but_insert, but_remove, in_insert, in_remove, in_kept, all_at, still_at, told_at, part_put, part_gone, part_still}
use Rattle.fx_sequencer.proofs.Entering.{there_already, goes, lone, entered_sent, entered_wanted, entered_exact}

module _ {X : Type 0} (eq : X → X → Bool) where
  -- a key has to be put, or taken, by its entry
  abbrev puts_at : Option (Entry X) → Bool
  puts_at e = changes eq (option_and_then sent_of e) (option_and_then wanted_of e)

  abbrev takes_at : Option (Entry X) → Bool
  takes_at e = comes (option_and_then wanted_of e) (option_and_then sent_of e)

  -- without entries no key is pending
  pub none_pending : {held : Named (Entry X)} {to_put to_take : Keys} → held ≡ maps.empty → to_put ≡ set.empty → to_take ≡ set.empty → ArePending eq held to_put to_take
  none_pending {held} none no_put no_take =
      let at : (k : List ℕ) → maps.get held k ≡ None = λ k. ap (λ (m : Named (Entry X)). maps.get m k) none ∙ get_empty k in
      record {
        exact = λ k. ap (is_exact eq) (at k);
        puts = λ k. ap (λ (s : Keys). set.contains s k) no_put ∙ ap is_some (get_empty k) ∙ sym (ap puts_at (at k));
        takes = λ k. ap (λ (s : Keys). set.contains s k) no_take ∙ ap is_some (get_empty k) ∙ sym (ap takes_at (at k));
      }

module _ {X : Type 0} {eq : X → X → Bool} {held : Named (Entry X)} {to_put to_take : Keys} (was : ArePending eq held to_put to_take) (key : List ℕ) where
  abbrev sent : Option X
  sent = side_at sent_of held key

  abbrev wanted : Option X
  wanted = side_at wanted_of held key

  -- a key that was put in for an entry that didn't come is out again
  pub refused_pending : {put back : Keys} {now : Named (Entry X)} → put ≡ set.insert to_put key → back ≡ set.remove put key → maps.get held key ≡ None → now ≡ held → ArePending eq now back to_take
  refused_pending put_is back_is none same =
      let back : set.remove (set.insert to_put key) key ≡ to_put = put_back nat_list_cmp_total bytes_exact to_put key (was.puts key ∙ ap (puts_at eq) none) in
      let out = back_is ∙ ap (λ (s : Keys). set.remove s key) put_is ∙ back in
      subst (λ (p : Named (Entry X) × Keys). ArePending eq p.0 p.1 to_take) (λ i. (sym same i, sym out i)) was

  -- ---- a value is wanted

  module _ (same : (a b : X) → eq a b ≡ true → a ≡ b) (x : X) {now : Named (Entry X)} (is : now ≡ maps.insert held key (entry_of eq sent x)) where
    put_but : IsBut held now key (Some (entry_of eq sent x))
    put_but = but_insert nat_list_cmp_total held now key (entry_of eq sent x) is

    pub put_pending : {put kept take : Keys} (differs : Bool) → differs ≡ changes eq sent (Some x) → put ≡ set.insert to_put key → kept ≡ cond differs put (set.remove put key) → take ≡ set.remove to_take key → ArePending eq now kept take
    put_pending {put} {kept} {take} differs told put_is kept_is take_is = record {
      exact = all_at (is_exact eq) held now key (Some (entry_of eq sent x)) put_but true (entered_exact eq sent x) was.exact;
      puts = told_at (puts_at eq) held now key (Some (entry_of eq sent x)) put_but to_put kept differs (in_kept nat_list_cmp_total to_put put kept key differs put_is kept_is)
          (told ∙ (λ i. changes eq (sym (entered_sent eq sent x same) i) (sym (entered_wanted eq sent x) i))) was.puts;
      takes = told_at (takes_at eq) held now key (Some (entry_of eq sent x)) put_but to_take take false (in_remove nat_list_cmp_total to_take take key take_is)
          (sym (ap (λ w. comes w (sent_of (entry_of eq sent x))) (entered_wanted eq sent x) ∙ there_already x (sent_of (entry_of eq sent x)))) was.takes;
    }

    pub put_sent : projected sent_of now ≡ projected sent_of held
    put_sent = part_still nat_list_cmp_total bytes_exact sent_of held now key (Some (entry_of eq sent x)) put_but (entered_sent eq sent x same)

    pub put_wanted : projected wanted_of now ≡ maps.insert (projected wanted_of held) key x
    put_wanted = part_put nat_list_cmp_total bytes_exact wanted_of held now key (Some (entry_of eq sent x)) put_but x (entered_wanted eq sent x)

  -- ---- none is wanted any more

  module _ {now : Named (Entry X)} (is : now ≡ maps.remove held key) where
    removed_but : IsBut held now key None
    removed_but = but_remove nat_list_cmp_total held now key is

    -- of one that was not sent nothing is left
    pub unsent_pending : sent ≡ None → {put : Keys} → put ≡ set.remove to_put key → ArePending eq now put to_take
    unsent_pending unsent {put} put_is = record {
      exact = all_at (is_exact eq) held now key None removed_but true refl was.exact;
      puts = told_at (puts_at eq) held now key None removed_but to_put put false (in_remove nat_list_cmp_total to_put put key put_is) refl was.puts;
      takes = still_at (takes_at eq) held now key None removed_but bytes_exact (set.contains to_take) (sym (ap (comes wanted) unsent)) was.takes;
    }

    pub unsent_sent : sent ≡ None → projected sent_of now ≡ projected sent_of held
    unsent_sent unsent = part_still nat_list_cmp_total bytes_exact sent_of held now key None removed_but (sym unsent)

    pub removed_wanted : projected wanted_of now ≡ maps.remove (projected wanted_of held) key
    removed_wanted = part_gone nat_list_cmp_total bytes_exact wanted_of held now key None removed_but refl

    -- one that was wanted no more is gone
    pub taken_pending : wanted ≡ None → {take : Keys} → take ≡ set.remove to_take key → ArePending eq now to_put take
    taken_pending unwanted {take} take_is = record {
      exact = all_at (is_exact eq) held now key None removed_but true refl was.exact;
      puts = still_at (puts_at eq) held now key None removed_but bytes_exact (set.contains to_put) (sym (ap (changes eq sent) unwanted)) was.puts;
      takes = told_at (takes_at eq) held now key None removed_but to_take take false (in_remove nat_list_cmp_total to_take take key take_is) refl was.takes;
    }

    pub taken_sent : projected sent_of now ≡ maps.remove (projected sent_of held) key
    taken_sent = part_gone nat_list_cmp_total bytes_exact sent_of held now key None removed_but refl

    pub taken_wanted : wanted ≡ None → projected wanted_of now ≡ projected wanted_of held
    taken_wanted unwanted = part_still nat_list_cmp_total bytes_exact wanted_of held now key None removed_but (sym unwanted)

  module _ {now : Named (Entry X)} (is : now ≡ maps.insert held key (withdrawn sent)) where
    withdrawn_but : IsBut held now key (Some (withdrawn sent))
    withdrawn_but = but_insert nat_list_cmp_total held now key (withdrawn sent) is

    -- one that was sent has to go
    pub withdrawn_pending : is_some sent ≡ true → {put take : Keys} → put ≡ set.remove to_put key → take ≡ set.insert to_take key → ArePending eq now put take
    withdrawn_pending there {put} {take} put_is take_is = record {
      exact = all_at (is_exact eq) held now key (Some (withdrawn sent)) withdrawn_but true (lone eq sent there) was.exact;
      puts = told_at (puts_at eq) held now key (Some (withdrawn sent)) withdrawn_but to_put put false (in_remove nat_list_cmp_total to_put put key put_is) refl was.puts;
      takes = told_at (takes_at eq) held now key (Some (withdrawn sent)) withdrawn_but to_take take true (in_insert nat_list_cmp_total to_take take key take_is) (goes sent there) was.takes;
    }

    pub withdrawn_sent : projected sent_of now ≡ projected sent_of held
    withdrawn_sent = part_still nat_list_cmp_total bytes_exact sent_of held now key (Some (withdrawn sent)) withdrawn_but refl

    pub withdrawn_wanted : projected wanted_of now ≡ maps.remove (projected wanted_of held) key
    withdrawn_wanted = part_gone nat_list_cmp_total bytes_exact wanted_of held now key (Some (withdrawn sent)) withdrawn_but refl

  -- ---- a value was sent

  module _ (itself : (a : X) → eq a a ≡ true) (x : X) (there : wanted ≡ Some x) {now : Named (Entry X)} (is : now ≡ maps.insert held key (settled wanted)) where
    settled_but : IsBut held now key (Some (Both x))
    settled_but = but_insert nat_list_cmp_total held now key (Both x) (is ∙ ap (λ w. maps.insert held key (settled w)) there)

    pub settled_pending : {put : Keys} → put ≡ set.remove to_put key → ArePending eq now put to_take
    settled_pending {put} put_is = record {
      exact = all_at (is_exact eq) held now key (Some (Both x)) settled_but true refl was.exact;
      puts = told_at (puts_at eq) held now key (Some (Both x)) settled_but to_put put false (in_remove nat_list_cmp_total to_put put key put_is) (sym (ap not (itself x))) was.puts;
      takes = still_at (takes_at eq) held now key (Some (Both x)) settled_but bytes_exact (set.contains to_take) (sym (ap (λ w. comes w sent) there ∙ there_already x sent)) was.takes;
    }

    pub settled_sent : projected sent_of now ≡ maps.insert (projected sent_of held) key x
    settled_sent = part_put nat_list_cmp_total bytes_exact sent_of held now key (Some (Both x)) settled_but x refl

    pub settled_wanted : projected wanted_of now ≡ projected wanted_of held
    settled_wanted = part_still nat_list_cmp_total bytes_exact wanted_of held now key (Some (Both x)) settled_but (sym there)
