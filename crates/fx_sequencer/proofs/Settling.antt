-- The members of one side alone are told of one after another.
use Rattle.std.proofs.Common.{◌≡◌, ◌<◌, ◌-◌, Bool, true, false, cond, ◌||◌, [], ◌∷◌, length, map, suc, Option, Some, None, is_some, refl, sym, ap, ◌∙◌, subst, arith}
use Rattle.std.specs.List.{slice_get}
use Rattle.std.specs.Cmp.{IsTotalOrder}
use Rattle.std.specs.declared.cmp.Ordering.{Ordering}
use Rattle.std.specs.Ordering.{eq_by_cmp}
use Rattle.std.specs.FinMap as maps
use Rattle.fx_base.specs.Set as set
use Rattle.fx_base.specs.Set.{Set}
use Rattle.fx_base.proofs.Keyed.{at_key}
use Rattle.fx_base.proofs.Walk.{found}
use Rattle.fx_model.specs.Messages.{Members}
use Rattle.fx_model.specs.declared.member.Member.{Member}
use Rattle.fx_model.specs.declared.member_flags.Flags.{Flags}
use Rattle.fx_model.specs.contracts.member.MemberOrd.TheImpl as member_cmp
use Rattle.fx_model.proofs.Orders.{member_total, exact_member}
use Rattle.fx_sequencer.specs.Flagged.{FlagMap, is_held, differs, is_added, is_gone, is_wanted, told}
use Rattle.fx_sequencer.proofs.AtOne.{IsBut, but_insert, but_remove, in_remove}

-- ---- the first of a set

module _ {K : Type 0} {R : K → K → Ordering} (o : IsTotalOrder R) (s : Set R) where
  -- it is in the set
  pub first_in : (k : K) → Some k ≡ slice_get (set.items s) 0 → set.contains s k ≡ true
  first_in k =
      elim (maps.entries s) as (λ es. maps.entries s ≡ es → Some k ≡ slice_get (map (λ e. e.0) es) 0 → set.contains s k ≡ true) [
        | [] ↦ λ e is. cc
        | x ∷ xs ↦ λ e is.
            let same : k ≡ x.0 = cc in
            ap (set.contains s) same ∙ ap is_some (maps.get-entries s x.0 ∙ ap (maps.find R x.0) e ∙ found o x xs)
      ] refl

  -- without a first there is none
  pub none_first : None ≡ slice_get (set.items s) 0 → (k : K) → set.contains s k ≡ false
  none_first none k =
      elim (maps.entries s) as (λ es. maps.entries s ≡ es → None ≡ slice_get (map (λ e. e.0) es) 0 → set.contains s k ≡ false) [
        | [] ↦ λ e is. ap is_some (maps.get-entries s k ∙ ap (maps.find R k) e)
        | x ∷ xs ↦ λ e is. cc
      ] refl none

  -- and where there is none, there is no first
  pub no_first : ((k : K) → set.contains s k ≡ false) → None ≡ slice_get (set.items s) 0
  no_first none =
      elim (maps.entries s) as (λ es. maps.entries s ≡ es → None ≡ slice_get (map (λ e. e.0) es) 0) [
        | [] ↦ λ e. refl
        | x ∷ xs ↦ λ e.
            let there : set.contains s x.0 ≡ true = ap is_some (maps.get-entries s x.0 ∙ ap (maps.find R x.0) e ∙ found o x xs) in
            let absent = none x.0 in
            cc
      ] refl

  -- without the first there is one fewer
  pub fewer : (k : K) → Some k ≡ slice_get (set.items s) 0 → set.len (set.remove s k) < set.len s
  fewer k first =
      elim (maps.entries s) as (λ es. maps.entries s ≡ es → Some k ≡ slice_get (map (λ e. e.0) es) 0 → set.len (set.remove s k) < set.len s) [
        | [] ↦ λ e is. cc
        | x ∷ xs ↦ λ e is.
            let less : set.len (set.remove s k) ≡ set.len s - 1 = maps.len-remove o s k ∙ ap (λ b. cond b (set.len s - 1) (set.len s)) (first_in k first) in
            let some : set.len s ≡ suc (length xs) = maps.len-entries s ∙ ap length e in
            omega arith
      ] refl first

-- ---- what is kept of a member once it was told of

told_on : (o : Option Flags) → is_wanted o ≡ true → told o ≡ Some (record { sent = true; now = true })
told_on None on = cc
told_on (Some f) on = ap (λ b. cond b (Some (record { sent = true; now = true })) None) on

told_off : (o : Option Flags) → is_wanted o ≡ false → told o ≡ None
told_off None off = refl
told_off (Some f) off = ap (λ b. cond b (Some (record { sent = true; now = true })) None) off

-- one that is wanted is held
pub wanted_held : (o : Option Flags) → is_wanted o ≡ true → is_some o ≡ true
wanted_held None on = cc
wanted_held (Some f) on = refl

-- one of them is told of
module _ (flags now : FlagMap) (m : Member) where
  one_told : (here : Option Flags) → told (maps.get flags m) ≡ here → IsBut flags now m here → IsBut flags now m (told (maps.get flags m))
  one_told here is but = subst (IsBut flags now m) (sym is) but

  pub told_stays : is_wanted (maps.get flags m) ≡ true → now ≡ maps.insert flags m (record { sent = true; now = true }) → IsBut flags now m (told (maps.get flags m))
  told_stays on is = one_told (Some (record { sent = true; now = true })) (told_on (maps.get flags m) on) (but_insert member_total flags now m (record { sent = true; now = true }) is)

  pub told_goes : is_wanted (maps.get flags m) ≡ false → now ≡ maps.remove flags m → IsBut flags now m (told (maps.get flags m))
  told_goes off is = one_told None (told_off (maps.get flags m) off) (but_remove member_total flags now m is)

-- with those that are left told of, all is as with all of them told of at the start
pub record IsSettling (start : FlagMap) (all : Members) (flags : FlagMap) (left : Members) : Type 0 where
  pub ends : (m : Member) → cond (set.contains left m) (told (maps.get flags m)) (maps.get flags m) ≡ cond (set.contains all m) (told (maps.get start m)) (maps.get start m)

at_end : {A : Type 0} (tied there : Bool) (here : A) (f : A → A) (x : A) → cond (cond tied false there) (f (cond tied here x)) (cond tied here x) ≡ cond tied here (cond there (f x) x)
at_end true there here f x = refl
at_end false there here f x = refl

module _ (start flags : FlagMap) (all left : Members) (was : IsSettling start all flags left) where
  pub settling : (m : Member) → Some m ≡ slice_get (set.items left) 0 → (now : FlagMap) (others : Members) → IsBut flags now m (told (maps.get flags m)) → others ≡ set.remove left m → IsSettling start all now others
  settling m first now others but is =
      let less = in_remove member_total left others m is in
      let here = told (maps.get flags m) in
      let end = λ (q : Member). cond (set.contains left q) (told (maps.get flags q)) (maps.get flags q) in
      let ends_here : end m ≡ here = ap (λ b. cond b here (maps.get flags m)) (first_in member_total left m first) in
      record {
        ends = λ q.
            (λ i. cond (less.at q i) (told (but.at q i)) (but.at q i))
            ∙ at_end (eq_by_cmp member_cmp.cmp-value.it q m) (set.contains left q) here told (maps.get flags q)
            ∙ at_key exact_member end m q here ends_here ∙ was.ends q;
      }

  -- at the end none is left
  pub settled_all : None ≡ slice_get (set.items left) 0 → (m : Member) → maps.get flags m ≡ cond (set.contains all m) (told (maps.get start m)) (maps.get start m)
  settled_all none m = sym (ap (λ b. cond b (told (maps.get flags m)) (maps.get flags m)) (none_first member_total left none m)) ∙ was.ends m

-- ---- those that were added are told of, and then those that are gone

abbrev with_added : Option Flags → Option Flags
with_added o = cond (is_added o) (told o) o

abbrev settled : Option Flags → Option Flags
settled o = cond (is_gone o) (told (with_added o)) (with_added o)

held_flags : (s n : Bool) → (s || n) ≡ true → is_held (settled (Some (record { sent = s; now = n }))) ≡ true
held_flags true true h = refl
held_flags true false h = refl
held_flags false true h = refl
held_flags false false h = h

same_flags : (s n : Bool) → differs (settled (Some (record { sent = s; now = n }))) ≡ false
same_flags true true = refl
same_flags true false = refl
same_flags false true = refl
same_flags false false = refl

wanted_flags : (s n : Bool) → is_wanted (settled (Some (record { sent = s; now = n }))) ≡ n
wanted_flags true true = refl
wanted_flags true false = refl
wanted_flags false true = refl
wanted_flags false false = refl

settled_held : (o : Option Flags) → is_held o ≡ true → is_held (settled o) ≡ true
settled_held None h = refl
settled_held (Some f) h = held_flags f.sent f.now h

settled_same : (o : Option Flags) → differs (settled o) ≡ false
settled_same None = refl
settled_same (Some f) = same_flags f.sent f.now

settled_wanted : (o : Option Flags) → is_wanted (settled o) ≡ is_wanted o
settled_wanted None = refl
settled_wanted (Some f) = wanted_flags f.sent f.now

module _ (flags : FlagMap) (added gone : Members) (adds : (m : Member) → set.contains added m ≡ is_added (maps.get flags m)) (goes : (m : Member) → set.contains gone m ≡ is_gone (maps.get flags m))
    (half now : FlagMap)
    (first : (m : Member) → maps.get half m ≡ cond (set.contains added m) (told (maps.get flags m)) (maps.get flags m))
    (second : (m : Member) → maps.get now m ≡ cond (set.contains gone m) (told (maps.get half m)) (maps.get half m)) where
  now_settled : (m : Member) → maps.get now m ≡ settled (maps.get flags m)
  now_settled m =
      let o = maps.get flags m in
      let half_is : maps.get half m ≡ with_added o = first m ∙ ap (λ b. cond b (told o) o) (adds m) in
      second m ∙ (λ i. cond (goes m i) (told (half_is i)) (half_is i))

  pub all_held : ((m : Member) → is_held (maps.get flags m) ≡ true) → (m : Member) → is_held (maps.get now m) ≡ true
  all_held held m = ap is_held (now_settled m) ∙ settled_held (maps.get flags m) (held m)

  pub all_same : (m : Member) → differs (maps.get now m) ≡ false
  all_same m = ap differs (now_settled m) ∙ settled_same (maps.get flags m)

  pub all_wanted : (m : Member) → is_wanted (maps.get now m) ≡ is_wanted (maps.get flags m)
  all_wanted m = ap is_wanted (now_settled m) ∙ settled_wanted (maps.get flags m)
