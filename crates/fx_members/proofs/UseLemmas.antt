-- The sink's sets, as a set is used or used no more; and a node that holds nothing.
use Rattle.std.proofs.Common.{◌≡◌, ℕ, ◌==◌, true, false, cond, not, List, Option, Some, None, IsSome, is_some, unwrap_or, sym, ap, ◌∙◌}
use Rattle.std.specs.Cmp.Lexicographic.{nat_list_cmp_total}
use Rattle.std.specs.FinMap as map
use Rattle.fx_base.specs.Set as set
use Rattle.fx_base.specs.Grouped.{Texts, has_key, same_text}
use Rattle.fx_base.proofs.AtKey.{get_empty, get_insert_same}
use Rattle.fx_base.proofs.Keyed.{own_key}
use Rattle.fx_model.specs.Messages.{Members, members_of}
use Rattle.fx_model.specs.Pairs.{pair_cmp}
use Rattle.fx_model.specs.Sinks.{Uses}
use Rattle.fx_model.specs.Tables.{Sets}
use Rattle.fx_model.specs.declared.member.Member.{Member}
use Rattle.fx_model.specs.declared.set_use.SetUse.{SetUse}
use Rattle.fx_model.specs.contracts.ids.ItemKeyOrd.TheImpl as item_cmp
use Rattle.fx_members.specs.Counts.{Counts, place_cmp, count_at, due, HaveSameKeys, AreTold}
use Rattle.fx_members.specs.Indexes.{has_text}
use Rattle.fx_members.specs.Kept.{IsKept}
use Rattle.fx_members.proofs.MemberLemmas.{no_members}
use Rattle.fx_members.proofs.TellLemmas.{key_insert, key_remove}

present : (o : Option Members) (s : Members) → is_some o ≡ true → members_of o ≡ s → o ≡ Some s
present None s h is = cc
present (Some t) s h is = ap Some is

module _ (uses : Uses) (sets : Sets) (name : List ℕ) (named : HaveSameKeys uses sets) where
  pub set_absent : map.get uses name ≡ None → map.contains_key sets name ≡ false
  set_absent none = named name ∙ ap is_some none

  pub set_there : (u : SetUse) → map.get uses name ≡ Some u → IsSome (map.get sets name)
  set_there u there = named name ∙ ap is_some there

  -- with a set that comes without members, and then gets them
  pub named_put : (u : SetUse) (begun now : Sets) → begun ≡ map.insert sets name set.empty → HaveSameKeys begun now → HaveSameKeys (map.insert uses name u) now
  named_put u begun now is kept q =
      kept q ∙ ap (λ s. map.contains_key s q) is ∙ key_insert sets name set.empty q
      ∙ ap (cond (same_text q name) true) (named q) ∙ sym (key_insert uses name u q)

  -- with a set that loses its members, and then goes
  pub named_gone : (without now : Sets) → HaveSameKeys sets without → now ≡ map.remove without name → HaveSameKeys (map.remove uses name) now
  named_gone without now kept is q =
      ap (λ s. map.contains_key s q) is ∙ key_remove without name q
      ∙ ap (cond (same_text q name) false) (kept q ∙ named q) ∙ sym (key_remove uses name q)

-- a set that was put is there
pub put_there : (sets begun : Sets) (name : List ℕ) → begun ≡ map.insert sets name set.empty → IsSome (map.get begun name)
put_there sets begun name is = ap is_some (ap (λ s. map.get s name) is ∙ get_insert_same sets name set.empty)

-- a set of which no member is counted has none
pub set_empty : (counts : Counts) (sets : Sets) (name : List ℕ) → IsSome (map.get sets name) → AreTold counts sets → ((m : Member) → count_at counts name m ≡ 0) → map.get sets name ≡ Some set.empty
set_empty counts sets name there told none =
    present (map.get sets name) set.empty there (no_members (members_of (map.get sets name)) (λ m. told name m ∙ ap (λ n. not (n == 0)) (none m)))

-- what is counted at a name
pub own_counts : (now : Counts) (name : List ℕ) (f : Member → ℕ) (g : List ℕ → Member → ℕ) → ((q : List ℕ) (m : Member) → count_at now q m ≡ cond (same_text q name) (f m) (g q m)) → (m : Member) → count_at now name m ≡ f m
own_counts now name f g is m = is name m ∙ ap (λ b. cond b (f m) (g name m)) (own_key nat_list_cmp_total name)

pub nothing_kept : IsKept (record { inputs = record { uses = map.empty; items = map.empty; matched = set.empty }; names = map.empty; texts = map.empty; counts = map.empty })
nothing_kept = record {
  by_text = λ t q. ap (λ (o : Option Texts). has_key o q) (get_empty t) ∙ sym (ap (has_text t) (get_empty q));
  by_item = λ i t.
      ap (λ (o : Option Texts). has_key o t) (map.get-empty item_cmp.cmp-value.it i)
      ∙ sym (ap is_some (map.get-empty pair_cmp (t, i)));
  counted = λ name m.
      ap (λ (o : Option ℕ). unwrap_or o 0) (map.get-empty place_cmp (m, name))
      ∙ sym (ap (λ (o : Option SetUse). due map.empty set.empty o m) (get_empty name));
}
