-- A set comes to other members one by one.
use Rattle.std.proofs.Common.{◌≡◌, Bool, true, false, cond, not, ◌&&◌, ◌||◌, List, [], ◌∷◌, map, Some, is_some, T, refl, sym, ap, ◌∙◌}
use Rattle.std.specs.Prelude.{filter}
use Rattle.std.specs.List.{AllByRecursion, list_any}
use Rattle.std.specs.declared.cmp.Ordering.{Ordering}
use Rattle.std.specs.declared.cmp.Ordering.TheVariants.{Less, Equal, Greater}
use Rattle.std.specs.Ordering.{eq_by_cmp, is_eq, is_lt, ordering_reverse}
use Rattle.std.specs.FinMap as maps
use Rattle.std.specs.FinMap.Entries as list
use Rattle.fx_base.specs.Set as set
use Rattle.fx_base.proofs.Found.{each, entries_found}
use Rattle.fx_base.proofs.SetAt.{contains_insert, contains_remove}
use Rattle.fx_model.specs.declared.member.Member.{Member}
use Rattle.fx_model.specs.contracts.member.MemberOrd.TheImpl as member_cmp
use Rattle.fx_model.specs.contracts.member.MemberOrd.TheImpl.Laws as member_laws
use Rattle.fx_model.specs.Messages.{Members}
use Rattle.fx_model.proofs.Orders.{exact_member}
use Rattle.fx_driver.specs.Members.{AreNew, AreHeld, with_members, without_members}
use Rattle.fx_driver.proofs.Interfaces.{unit_options}

-- members are one
abbrev tied : Member → Member → Bool
tied x y = eq_by_cmp member_cmp.cmp-value.it x y

abbrev among : Member → List Member → Bool
among q xs = list_any (tied q) xs

-- no member stands twice
abbrev AreApart : List Member → Type 0
AreApart [] = Unit {0}
AreApart (x ∷ xs) = AllByRecursion (λ y. tied y x ≡ false) xs × AreApart xs

first_true : (a b : Bool) → T (a && b) → T a
first_true true b h = tt
first_true false b h = h

second_true : (a b : Bool) → T (a && b) → T b
second_true true b h = h
second_true false b h = absurd h

later_apart : (r : Ordering) → T (is_lt r) → is_eq (ordering_reverse r) ≡ false
later_apart Less h = refl
later_apart Equal h = absurd h
later_apart Greater h = absurd h

behind_apart : (x : Member) (es : List (Member × Unit {0})) → T (list.below_all member_cmp.cmp-value.it x es) → AllByRecursion (λ y. tied y x ≡ false) (map (λ e. e.0) es)
behind_apart x [] h = tt
behind_apart x (e ∷ es) h =
    (ap is_eq (member_laws.total-law.antisymm e.0 x) ∙ later_apart (member_cmp.cmp-value.it x e.0) (first_true _ _ h), behind_apart x es (second_true _ _ h))

sorted_apart : (es : List (Member × Unit {0})) → T (list.is_sorted member_cmp.cmp-value.it es) → AreApart (map (λ e. e.0) es)
sorted_apart [] h = tt
sorted_apart (e ∷ es) h = (behind_apart e.0 es (first_true _ _ h), sorted_apart es (second_true _ _ h))

items_apart : (s : Members) → AreApart (set.items s)
items_apart s = sorted_apart (maps.entries s) (maps.entries_sorted s)

-- each item is there
keys_hold : (P : Member → Type 0) (es : List (Member × Unit {0})) → AllByRecursion (λ e. P e.0) es → AllByRecursion P (map (λ e. e.0) es)
keys_hold P [] h = tt
keys_hold P (e ∷ es) h = (h.0, keys_hold P es h.1)

pub items_there : (s : Members) → AllByRecursion (λ x. set.contains s x ≡ true) (set.items s)
items_there s =
    keys_hold (λ x. set.contains s x ≡ true) (maps.entries s)
    (each (λ e. maps.get s e.0 ≡ Some e.1) (λ e. set.contains s e.0 ≡ true) (λ e h. ap is_some h) (maps.entries s) (entries_found member_laws.total-law s))

among_found : (q : Member) (es : List (Member × Unit {0})) → among q (map (λ e. e.0) es) ≡ is_some (list.find member_cmp.cmp-value.it q es)
among_found q [] = refl
among_found q (e ∷ es) = elim (tied q e.0) as (λ b. (b || among q (map (λ e. e.0) es)) ≡ is_some (cond b (Some e.1) (list.find member_cmp.cmp-value.it q es))) [ true ↦ refl | false ↦ among_found q es ]

among_items : (s : Members) (q : Member) → among q (set.items s) ≡ set.contains s q
among_items s q = among_found q (maps.entries s) ∙ ap is_some (sym (maps.get-entries s q))

-- ---- those that pass a test

module _ (p : Member → Bool) where
  pub all_filtered : (P : Member → Type 0) (xs : List Member) → AllByRecursion P xs → AllByRecursion P (filter p xs)
  all_filtered P [] h = tt
  all_filtered P (x ∷ xs) h =
      elim (p x) as (λ b. AllByRecursion P (cond b (x ∷ filter p xs) (filter p xs))) [
        | true ↦ (h.0, all_filtered P xs h.1)
        | false ↦ all_filtered P xs h.1
      ]

  filter_apart : (xs : List Member) → AreApart xs → AreApart (filter p xs)
  filter_apart [] h = tt
  filter_apart (x ∷ xs) h =
      elim (p x) as (λ b. AreApart (cond b (x ∷ filter p xs) (filter p xs))) [
        | true ↦ (all_filtered (λ y. tied y x ≡ false) xs h.0, filter_apart xs h.1)
        | false ↦ filter_apart xs h.1
      ]

  all_pass : (xs : List Member) → AllByRecursion (λ x. p x ≡ true) (filter p xs)
  all_pass [] = tt
  all_pass (x ∷ xs) =
      elim (p x) as (λ b. p x ≡ b → AllByRecursion (λ x. p x ≡ true) (cond b (x ∷ filter p xs) (filter p xs))) [
        | true ↦ λ e. (e, all_pass xs)
        | false ↦ λ e. all_pass xs
      ] refl

  spread : (a b c : Bool) → ((a && c) || (b && c)) ≡ ((a || b) && c)
  spread true true true = refl
  spread true true false = refl
  spread true false true = refl
  spread true false false = refl
  spread false b c = refl

  is_tied : (q x : Member) → tied q x ≡ true → q ≡ x
  is_tied q x e = exact_member q x (equal (member_cmp.cmp-value.it q x) e)
    where
      equal : (r : Ordering) → is_eq r ≡ true → r ≡ Equal
      equal Less h = cc
      equal Equal h = refl
      equal Greater h = cc

  -- a member that is tied to one passes where that one does
  tied_test : (q x : Member) → (tied q x && p x) ≡ (tied q x && p q)
  tied_test q x = by_test (tied q x) refl
    where
      by_test : (b : Bool) → tied q x ≡ b → (b && p x) ≡ (b && p q)
      by_test true e = ap p (sym (is_tied q x e))
      by_test false e = refl

  kept_whole : (b : Bool) → b ≡ (b && true)
  kept_whole true = refl
  kept_whole false = refl

  kept_none : (b : Bool) → false ≡ (b && false)
  kept_none true = refl
  kept_none false = refl

  one : (q x : Member) (xs : List Member) → among q (filter p xs) ≡ (among q xs && p q) → (b : Bool) → among q (cond b (x ∷ filter p xs) (filter p xs)) ≡ ((tied q x && b) || (among q xs && p q))
  one q x xs rest true = ap (λ c. tied q x || c) rest ∙ ap (λ c. c || (among q xs && p q)) (kept_whole (tied q x))
  one q x xs rest false = rest ∙ ap (λ c. c || (among q xs && p q)) (kept_none (tied q x))

  among_filtered : (q : Member) (xs : List Member) → among q (filter p xs) ≡ (among q xs && p q)
  among_filtered q [] = refl
  among_filtered q (x ∷ xs) =
      one q x xs (among_filtered q xs) (p x) ∙ ap (λ b. b || (among q xs && p q)) (tied_test q x) ∙ spread (tied q x) (among q xs) (p q)

-- ---- members that come and go

both_hold : (P Q R : Member → Type 0) → ((x : Member) → P x → Q x → R x) → (xs : List Member) → AllByRecursion P xs → AllByRecursion Q xs → AllByRecursion R xs
both_hold P Q R f [] g h = tt
both_hold P Q R f (x ∷ xs) g h = (f x g.0 h.0, both_hold P Q R f xs g.1 h.1)

pub new_ones : (s : Members) (xs : List Member) → AreApart xs → AllByRecursion (λ x. set.contains s x ≡ false) xs → AreNew s xs
new_ones s [] apart h = tt
new_ones s (x ∷ xs) apart h = (
  h.0,
  new_ones (set.insert s x) xs apart.1
      (both_hold (λ y. tied y x ≡ false) (λ y. set.contains s y ≡ false) (λ y. set.contains (set.insert s x) y ≡ false)
      (λ y a b. contains_insert member_laws.total-law s x y ∙ ap (λ c. cond c true (set.contains s y)) a ∙ b) xs apart.0 h.1),
)

pub held_ones : (s : Members) (xs : List Member) → AreApart xs → AllByRecursion (λ x. set.contains s x ≡ true) xs → AreHeld s xs
held_ones s [] apart h = tt
held_ones s (x ∷ xs) apart h = (
  h.0,
  held_ones (set.remove s x) xs apart.1
      (both_hold (λ y. tied y x ≡ false) (λ y. set.contains s y ≡ true) (λ y. set.contains (set.remove s x) y ≡ true)
      (λ y a b. contains_remove member_laws.total-law s x y ∙ ap (λ c. cond c false (set.contains s y)) a ∙ b) xs apart.0 h.1),
)

regroup : (a b c : Bool) → (cond a true b || c) ≡ (b || (a || c))
regroup true true c = refl
regroup true false c = refl
regroup false b c = refl

pub contains_with : (s : Members) (xs : List Member) (q : Member) → set.contains (with_members s xs) q ≡ (set.contains s q || among q xs)
contains_with s [] q = unmoved (set.contains s q)
  where
    unmoved : (a : Bool) → a ≡ (a || false)
    unmoved true = refl
    unmoved false = refl
contains_with s (x ∷ xs) q =
    contains_with (set.insert s x) xs q
    ∙ ap (λ b. b || among q xs) (contains_insert member_laws.total-law s x q)
    ∙ regroup (tied q x) (set.contains s q) (among q xs)

regroup_gone : (a b c : Bool) → (cond a false b && not c) ≡ (b && not (a || c))
regroup_gone true true c = refl
regroup_gone true false c = refl
regroup_gone false b c = refl

pub contains_without : (s : Members) (xs : List Member) (q : Member) → set.contains (without_members s xs) q ≡ (set.contains s q && not (among q xs))
contains_without s [] q = unmoved (set.contains s q)
  where
    unmoved : (a : Bool) → a ≡ (a && true)
    unmoved true = refl
    unmoved false = refl
contains_without s (x ∷ xs) q =
    contains_without (set.remove s x) xs q
    ∙ ap (λ b. b && not (among q xs)) (contains_remove member_laws.total-law s x q)
    ∙ regroup_gone (tied q x) (set.contains s q) (among q xs)

same_members : (s t : Members) → ((q : Member) → set.contains s q ≡ set.contains t q) → s ≡ t
same_members s t h = maps.same_map member_laws.total-law exact_member s t (λ q. unit_options _ _ (h q))

-- ---- a new set

empty_lacks : (x : Member) → set.contains (set.empty {K = Member} {R = member_cmp.cmp-value.it}) x ≡ false
empty_lacks x = ap is_some (maps.get-empty member_cmp.cmp-value.it x)

any_lacked : (xs : List Member) → AllByRecursion (λ x. set.contains (set.empty {K = Member} {R = member_cmp.cmp-value.it}) x ≡ false) xs
any_lacked [] = tt
any_lacked (x ∷ xs) = (empty_lacks x, any_lacked xs)

pub items_new : (s : Members) → AreNew set.empty (set.items s)
items_new s = new_ones set.empty (set.items s) (items_apart s) (any_lacked (set.items s))

pub items_whole : (s : Members) → with_members set.empty (set.items s) ≡ s
items_whole s =
    same_members (with_members set.empty (set.items s)) s (λ q.
    contains_with set.empty (set.items s) q ∙ ap (λ b. b || among q (set.items s)) (empty_lacks q) ∙ among_items s q)

-- ---- from one set to another

module _ (before after : Members) where
  abbrev pub added : List Member
  added = set.items_minus after before

  abbrev pub gone : List Member
  gone = set.items_minus before after

  abbrev pub between : Members
  between = with_members before added

  not_true : (b : Bool) → not b ≡ true → b ≡ false
  not_true true e = cc
  not_true false e = refl

  pub added_new : AreNew before added
  added_new =
      new_ones before added (filter_apart _ (set.items after) (items_apart after))
      (all_each added (all_pass (λ k. not (set.contains before k)) (set.items after)))
    where
      all_each : (xs : List Member) → AllByRecursion (λ x. not (set.contains before x) ≡ true) xs → AllByRecursion (λ x. set.contains before x ≡ false) xs
      all_each [] h = tt
      all_each (x ∷ xs) h = (not_true _ h.0, all_each xs h.1)

  either : (a b : Bool) → a ≡ true → (a || b) ≡ true
  either true b e = refl
  either false b e = cc

  pub gone_held : AreHeld between gone
  gone_held =
      held_ones between gone (filter_apart _ (set.items before) (items_apart before))
      (each_there gone (all_filtered (λ k. not (set.contains after k)) (λ x. set.contains before x ≡ true) (set.items before) (items_there before)))
    where
      each_there : (xs : List Member) → AllByRecursion (λ x. set.contains before x ≡ true) xs → AllByRecursion (λ x. set.contains between x ≡ true) xs
      each_there [] h = tt
      each_there (x ∷ xs) h = (contains_with before added x ∙ either _ _ h.0, each_there xs h.1)

  whole_again : (x y : Bool) → ((y || (x && not y)) && not (y && not x)) ≡ x
  whole_again true true = refl
  whole_again true false = refl
  whole_again false true = refl
  whole_again false false = refl

  among_added : (q : Member) → among q added ≡ (set.contains after q && not (set.contains before q))
  among_added q = among_filtered (λ k. not (set.contains before k)) q (set.items after) ∙ ap (λ b. b && not (set.contains before q)) (among_items after q)

  among_gone : (q : Member) → among q gone ≡ (set.contains before q && not (set.contains after q))
  among_gone q = among_filtered (λ k. not (set.contains after k)) q (set.items before) ∙ ap (λ b. b && not (set.contains after q)) (among_items before q)

  pub changed_whole : without_members between gone ≡ after
  changed_whole =
      same_members (without_members between gone) after (λ q.
      contains_without between gone q
      ∙ ap (λ b. b && not (among q gone)) (contains_with before added q ∙ ap (λ b. set.contains before q || b) (among_added q))
      ∙ ap (λ b. (set.contains before q || (set.contains after q && not (set.contains before q))) && not b) (among_gone q)
      ∙ whole_again (set.contains after q) (set.contains before q))

-- what each member of a set is, all listed ones are
pub items_are : (s : Members) (P : Member → Type 0) → ((x : Member) → set.contains s x ≡ true → P x) → AllByRecursion P (set.items s)
items_are s P h = all (set.items s) (items_there s)
  where
    all : (xs : List Member) → AllByRecursion (λ x. set.contains s x ≡ true) xs → AllByRecursion P xs
    all [] g = tt
    all (x ∷ xs) g = (h x g.0, all xs g.1)
