-- Tables in which one set changes, member by member.
use Rattle.std.proofs.Common.{◌≡◌, ℕ, List, [], ◌∷◌, Option, Some, None, is_some, true, refl, sym, ap, ◌∙◌, subst}
use Rattle.std.specs.List.{AllByRecursion}
use Rattle.std.specs.FinMap as maps
use Rattle.fx_base.specs.Set as set
use Rattle.fx_base.proofs.AtKey.{get_insert_same, insert_twice_bytes, insert_same_bytes}
use Rattle.fx_base.proofs.KeyCases.{there_inserted}
use Rattle.fx_model.specs.declared.member.Member.{Member}
use Rattle.fx_model.specs.Messages.{Members, members_of}
use Rattle.fx_model.specs.Shapes.{is_member_of}
use Rattle.fx_model.specs.Tables.{Sets, Tables}
use Rattle.fx_driver.specs.Members.{AreNew, AreHeld, with_members, without_members}

-- the tables with these members in a set
abbrev pub set_to : Tables → List ℕ → Members → Tables
set_to t name members = record t { sets = maps.insert t.sets name members }

abbrev pub held_in : Tables → List ℕ → Members
held_in t name = members_of (maps.get t.sets name)

module _ (before now : Tables) (name : List ℕ) (members : Members) (is : now ≡ set_to before name members) where
  pub held_are : held_in now name ≡ members
  held_are = ap (λ (t : Tables). held_in t name) is ∙ ap members_of (get_insert_same before.sets name members)

  pub set_there : maps.contains_key now.sets name ≡ true
  set_there = ap (λ (t : Tables). maps.contains_key t.sets name) is ∙ there_inserted before.sets name members

  -- a later value takes the place of this one
  pub set_again : (others : Members) → set_to now name others ≡ set_to before name others
  set_again others = ap (λ (t : Tables). set_to t name others) is ∙ ap (λ (m : Sets). record before { sets = m }) (insert_twice_bytes before.sets name members others)

-- the members that are there change nothing
put_same : (sets : Sets) (name : List ℕ) → maps.contains_key sets name ≡ true → maps.insert sets name (members_of (maps.get sets name)) ≡ sets
put_same sets name there = by_value (maps.get sets name) refl there
  where
    by_value : (o : Option Members) → maps.get sets name ≡ o → is_some o ≡ true → maps.insert sets name (members_of o) ≡ sets
    by_value None e h = cc
    by_value (Some members) e h = insert_same_bytes sets name members e

set_same : (t : Tables) (name : List ℕ) → maps.contains_key t.sets name ≡ true → set_to t name (held_in t name) ≡ t
set_same t name there = ap (λ (m : Sets). record t { sets = m }) (put_same t.sets name there)

-- members are added to a set: those that are left can be added, and with them all are
pub record IsAdding (first now : Tables) (name : List ℕ) (all left : List Member) : Type 0 where
  pub there : maps.contains_key now.sets name ≡ true
  pub absent : AreNew (held_in now name) left
  pub fit : AllByRecursion (λ x. is_member_of name x ≡ true) left
  pub whole : set_to now name (with_members (held_in now name) left) ≡ set_to first name (with_members (held_in first name) all)
  pub chains : now.chains ≡ first.chains

pub adding_next : (first now next : Tables) (name : List ℕ) (all : List Member) (x : Member) (xs : List Member) → IsAdding first now name all (x ∷ xs) → next ≡ set_to now name (set.insert (held_in now name) x) → IsAdding first next name all xs
adding_next first now next name all x xs i is =
    let more = held_are now next name (set.insert (held_in now name) x) is in
    record {
      there = set_there now next name (set.insert (held_in now name) x) is;
      absent = subst (λ (s : Members). AreNew s xs) (sym more) i.absent.1;
      fit = i.fit.1;
      whole = ap (λ (s : Members). set_to next name (with_members s xs)) more
          ∙ set_again now next name (set.insert (held_in now name) x) is (with_members (set.insert (held_in now name) x) xs)
          ∙ i.whole;
      chains = ap (λ (t : Tables). t.chains) is ∙ i.chains;
    }

pub adding_end : (first now : Tables) (name : List ℕ) (all : List Member) → IsAdding first now name all [] → now ≡ set_to first name (with_members (held_in first name) all)
adding_end first now name all i = sym (set_same now name i.there) ∙ i.whole

-- members are removed from a set
pub record IsRemoving (first now : Tables) (name : List ℕ) (all left : List Member) : Type 0 where
  pub there : maps.contains_key now.sets name ≡ true
  pub within : AreHeld (held_in now name) left
  pub whole : set_to now name (without_members (held_in now name) left) ≡ set_to first name (without_members (held_in first name) all)

pub removing_next : (first now next : Tables) (name : List ℕ) (all : List Member) (x : Member) (xs : List Member) → IsRemoving first now name all (x ∷ xs) → next ≡ set_to now name (set.remove (held_in now name) x) → IsRemoving first next name all xs
removing_next first now next name all x xs i is =
    let fewer = held_are now next name (set.remove (held_in now name) x) is in
    record {
      there = set_there now next name (set.remove (held_in now name) x) is;
      within = subst (λ (s : Members). AreHeld s xs) (sym fewer) i.within.1;
      whole = ap (λ (s : Members). set_to next name (without_members s xs)) fewer
          ∙ set_again now next name (set.remove (held_in now name) x) is (without_members (set.remove (held_in now name) x) xs)
          ∙ i.whole;
    }

pub removing_end : (first now : Tables) (name : List ℕ) (all : List Member) → IsRemoving first now name all [] → now ≡ set_to first name (without_members (held_in first name) all)
removing_end first now name all i = sym (set_same now name i.there) ∙ i.whole

-- what a step of two changes gives
pub two_sets : (before now next : Tables) (name : List ℕ) (a b : Members) → now ≡ set_to before name a → next ≡ set_to now name b → next ≡ set_to before name b
two_sets before now next name a b was is = is ∙ set_again before now name a was b
