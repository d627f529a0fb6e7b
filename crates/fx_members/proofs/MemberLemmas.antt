-- A set's members are those that are counted.
use Rattle.std.proofs.Common.{◌≡◌, ℕ, ◌+◌, ◌==◌, Bool, true, false, cond, not, ◌||◌, List, [], ◌∷◌, ◌++◌, filter, Option, Some, None, is_some, option_map, refl, sym, ap, ◌∙◌, subst, arith}
use Rattle.std.proofs.lemmas.Bool.Decides.{nat_tests}
use Rattle.std.specs.List.{list_any}
use Rattle.std.specs.FinMap as map
use Rattle.fx_base.specs.Extended.{extended, collected}
use Rattle.fx_base.specs.Set as set
use Rattle.fx_base.specs.Set.{marked}
use Rattle.fx_base.proofs.AtKey.{get_empty}
use Rattle.fx_base.proofs.SetAt.{contains_insert}
use Rattle.fx_model.specs.Messages.{Members, members_of}
use Rattle.fx_model.specs.Pairs.{Pairs}
use Rattle.fx_model.specs.Sets.{contributed, contributions}
use Rattle.fx_model.specs.Tables.{Sets}
use Rattle.fx_model.specs.declared.ids.ItemKey.{ItemKey}
use Rattle.fx_model.specs.declared.member.Member.{Member}
use Rattle.fx_model.specs.declared.resources.Item.{Item}
use Rattle.fx_model.specs.declared.set_use.SetUse.{SetUse}
use Rattle.fx_model.specs.contracts.member.MemberOrd.TheImpl as member_cmp
use Rattle.fx_model.proofs.Orders.{exact_member}
use Rattle.fx_members.specs.Counts.{due, same_member, times, total}
use Rattle.fx_members.specs.Inputs.{Items}
use Rattle.fx_members.specs.Kept.{AreCounted, IsKept, IsTold}
use Rattle.fx_members.specs.Members.{matched_items, members_for, AreMembers}
use Rattle.fx_members.specs.UseText.{text_of}
use Rattle.fx_members.specs.declared.inputs.Inputs.{Inputs}
use Rattle.fx_members.specs.declared.state.State.{State}
use Rattle.fx_members.proofs.CountLemmas.{member_total}
use Rattle.fx_base.proofs.Cases.{none_more, none_else, unit_same, absent_value}

-- ---- among a list, and how often
grouped : (a b c : ℕ) → a + (b + c) ≡ (a + b) + c
grouped a b c = omega arith

times_append : (xs ys : List Member) (m : Member) → times (xs ++ ys) m ≡ times xs m + times ys m
times_append [] ys m = none_more (times ys m)
times_append (x ∷ xs) ys m = ap (λ n. cond (same_member m x) 1 0 + n) (times_append xs ys m) ∙ grouped (cond (same_member m x) 1 0) (times xs m) (times ys m)

-- what the items give on which a test holds
times_contributed : (holds : ItemKey → Bool) (u : SetUse) (es : List (ItemKey × Item)) (m : Member) → times (contributions u (filter (λ x. holds x.0) es)) m ≡ total holds u es m
times_contributed holds u [] m = refl
times_contributed holds u (e ∷ es) m =
    elim (holds e.0) as (λ b. times (contributions u (cond b (e ∷ filter (λ x. holds x.0) es) (filter (λ x. holds x.0) es))) m ≡ cond b (times (contributed u e.1) m) 0 + total holds u es m) [
      | true ↦
          times_append (contributed u e.1) (contributions u (filter (λ x. holds x.0) es)) m
          ∙ ap (λ n. times (contributed u e.1) m + n) (times_contributed holds u es m)
      | false ↦ times_contributed holds u es m ∙ none_more (total holds u es m)
    ]

some_more : (b c : Bool) (n : ℕ) → c ≡ not (n == 0) → (b || c) ≡ not (cond b 1 0 + n == 0)
some_more true c n h = grind (arith, nat_tests)
some_more false c n h = h ∙ ap (λ k. not (k == 0)) (none_more n)

among : (xs : List Member) (m : Member) → list_any (same_member m) xs ≡ not (times xs m == 0)
among [] m = refl
among (x ∷ xs) m = some_more (same_member m x) (list_any (same_member m) xs) (times xs m) (among xs m)

-- ---- the set of a list
moved : (a b c : Bool) → (b || cond a true c) ≡ ((a || b) || c)
moved true true c = refl
moved true false c = refl
moved false b c = refl

in_extended : (s : Members) (xs : List Member) (m : Member) → set.contains (extended s (marked xs)) m ≡ (list_any (same_member m) xs || set.contains s m)
in_extended s [] m = refl
in_extended s (x ∷ xs) m =
    in_extended (set.insert s x) xs m ∙ ap (λ b. list_any (same_member m) xs || b) (contains_insert member_total s x m)
    ∙ moved (same_member m x) (list_any (same_member m) xs) (set.contains s m)

no_member : (m : Member) → set.contains {R = member_cmp.cmp-value.it} set.empty m ≡ false
no_member m = ap is_some (map.get-empty member_cmp.cmp-value.it m)

in_collected : (xs : List Member) (m : Member) → set.contains {R = member_cmp.cmp-value.it} (collected (marked xs)) m ≡ not (times xs m == 0)
in_collected xs m =
    in_extended set.empty xs m ∙ ap (λ b. list_any (same_member m) xs || b) (no_member m)
    ∙ none_else (list_any (same_member m) xs) ∙ among xs m

in_members : (items : Items) (matched : Pairs) (u : SetUse) (m : Member) → set.contains (members_for items matched u) m ≡ not (due items matched (Some u) m == 0)
in_members items matched u m =
    in_collected (contributions u (matched_items items matched (text_of u))) m
    ∙ ap (λ n. not (n == 0)) (times_contributed (λ i. set.contains matched (text_of u, i)) u (map.entries items) m)

pub same_members : (s t : Members) → ((m : Member) → set.contains s m ≡ set.contains t m) → s ≡ t
same_members s t h = map.same_map member_total exact_member s t (λ m. unit_same (map.get s m) (map.get t m) (h m))

-- a set without members
pub no_members : (s : Members) → ((m : Member) → set.contains s m ≡ false) → s ≡ set.empty
no_members s h = same_members s set.empty (λ m. h m ∙ sym (no_member m))

-- ---- the sink's sets
present : (o : Option Members) → is_some o ≡ true → o ≡ Some (members_of o)
present None h = cc
present (Some s) h = refl

mapped : {A B : Type 0} (f : A → B) (o : Option A) → is_some (option_map f o) ≡ is_some o
mapped f None = refl
mapped f (Some x) = refl

module _ (items : Items) (matched : Pairs) where
  counted_members : (o : Option SetUse) (m : Member) → set.contains (members_of (option_map (members_for items matched) o)) m ≡ not (due items matched o m == 0)
  counted_members None m = no_member m
  counted_members (Some u) m = in_members items matched u m

  told_members : (o : Option SetUse) (s : Option Members) → is_some s ≡ is_some o → ((m : Member) → set.contains (members_of s) m ≡ not (due items matched o m == 0)) → s ≡ option_map (members_for items matched) o
  told_members None s there are = absent_value s there
  told_members (Some u) s there are =
      present s there ∙ ap Some (same_members (members_of s) (members_for items matched u) (λ m. are m ∙ sym (in_members items matched u m)))

-- what a sink is to have, from what is counted, and back
pub sets_are : (s : State) (sets : Sets) → AreCounted s.inputs s.counts → IsTold s sets → AreMembers s.inputs sets
sets_are s sets counted h q =
    let n = s.inputs in
    told_members n.items n.matched (map.get n.uses q) (map.get sets q) (h.named q)
    (λ m. h.told q m ∙ ap (λ k. not (k == 0)) (counted q m))

pub sets_told : (s : State) (sets : Sets) → AreCounted s.inputs s.counts → AreMembers s.inputs sets → IsTold s sets
sets_told s sets counted h =
    let n = s.inputs in
    record {
      named = λ q. ap is_some (h q) ∙ mapped (members_for n.items n.matched) (map.get n.uses q);
      told = λ q m.
          ap (λ o. set.contains (members_of o) m) (h q) ∙ counted_members n.items n.matched (map.get n.uses q) m
          ∙ ap (λ k. not (k == 0)) (sym (counted q m));
    }

-- of a node whose state was taken out
pub told_in : {n : Inputs} {s t : State} {sets : Sets} → s.inputs ≡ n → IsKept s → AreMembers n sets → t ≡ s → IsTold t sets
told_in {s = s} {sets = sets} is kept h same =
    subst (λ (r : State). IsTold r sets) (sym same) (sets_told s sets kept.counted (subst (λ (k : Inputs). AreMembers k sets) (sym is) h))

pub members_in : {sets : Sets} (s : State) → IsKept s → IsTold s sets → AreMembers s.inputs sets
members_in {sets = sets} s kept h = sets_are s sets kept.counted h

pub none_used : (n : Inputs) → n ≡ record { uses = map.empty; items = map.empty; matched = set.empty } → AreMembers n map.empty
none_used n is q =
    get_empty q ∙ sym (ap (λ o. option_map (members_for n.items n.matched) o) (ap (λ (k : Inputs). map.get k.uses q) is ∙ get_empty q))
