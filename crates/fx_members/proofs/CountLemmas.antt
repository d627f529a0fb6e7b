-- Counts of members after one more or one less.
use Rattle.std.proofs.Common.{◌≡◌, ℕ, ◌-◌, Bool, true, false, cond, ◌&&◌, List, Some, None, unwrap_or, refl, sym, ap, ◌∙◌, arith}
use Rattle.std.specs.Ordering.{nat_cmp, eq_by_cmp}
use Rattle.std.specs.Cmp.{IsTotalOrder}
use Rattle.std.specs.Cmp.Lexicographic.{slice_cmp, nat_list_cmp_total}
use Rattle.std.specs.FinMap as map
use Rattle.std.specs.FinMap.{IsAntisymmetric}
use Rattle.std.proofs.lemmas.Cmp.{on_total, then_total}
use Rattle.std.proofs.lemmas.Map.Lookups.{exact_pairs}
use Rattle.fx_base.specs.Same.{both_pass}
use Rattle.fx_base.proofs.KeyCases.{bytes_exact}
use Rattle.fx_base.proofs.SetAt.{tied_pair}
use Rattle.fx_model.specs.declared.member.Member.{Member}
use Rattle.fx_model.specs.contracts.member.MemberOrd.TheImpl as member_cmp
use Rattle.fx_model.specs.contracts.member.MemberOrd.TheImpl.Laws as member_laws
use Rattle.fx_model.proofs.Orders.{exact_member}
use Rattle.fx_members.specs.Counts.{Counts, place_cmp, count_at, is_place, same_member, shifted}
use Rattle.fx_base.proofs.Cases.{either}
use Rattle.fx_base.proofs.AtKey.{insert_removed}
use Rattle.fx_base.proofs.Keyed.{one_key, own_key, at_key}

pub member_total : IsTotalOrder member_cmp.cmp-value.it
member_total = member_laws.total-law

pub place_total : IsTotalOrder place_cmp
place_total = then_total (on_total (λ (p : Member × List ℕ). p.0) member_laws.total-law) (on_total (λ (p : Member × List ℕ). p.1) nat_list_cmp_total)

pub exact_place : IsAntisymmetric place_cmp
exact_place = exact_pairs member_cmp.cmp-value.it (slice_cmp nat_cmp) exact_member bytes_exact

-- a place is that of its name and its member
pub place_same : (name : List ℕ) (member : Member) (q : List ℕ) (m : Member) → is_place name member q m ≡ true → (q ≡ name) × (m ≡ member)
place_same name member q m h =
    let p = both_pass (eq_by_cmp (slice_cmp nat_cmp) q name) (same_member m member) h in
    (one_key bytes_exact q name p.0, one_key exact_member m member p.1)

own_place : (name : List ℕ) (member : Member) → is_place name member name member ≡ true
own_place name member = λ j. own_key nat_list_cmp_total name j && own_key member_total member j

swapped : (a b : Bool) → (a && b) ≡ (b && a)
swapped true true = refl
swapped true false = refl
swapped false true = refl
swapped false false = refl

-- places are told apart as their members and names are
tied_place : (name : List ℕ) (member : Member) (q : List ℕ) (m : Member) → eq_by_cmp place_cmp (m, q) (member, name) ≡ is_place name member q m
tied_place name member q m =
    tied_pair (member_cmp.cmp-value.it m member) (slice_cmp nat_cmp q name) ∙ swapped (same_member m member) (eq_by_cmp (slice_cmp nat_cmp) q name)

-- nothing more or less
pub unmoved : (more : Bool) (n : ℕ) → shifted more 0 n ≡ n
unmoved true n = omega arith
unmoved false n = omega arith

by_place : (more b : Bool) (x n : ℕ) → cond b x n ≡ n → cond b (shifted more 1 x) n ≡ shifted more (cond b 1 0) n
by_place more true x n h = ap (shifted more 1) h
by_place more false x n h = sym (unmoved more n)

module _ (counts : Counts) (name : List ℕ) (member : Member) where
  count_insert : (x : ℕ) (q : List ℕ) (m : Member) → count_at (map.insert counts (member, name) x) q m ≡ cond (is_place name member q m) x (count_at counts q m)
  count_insert x q m =
      ap (λ o. unwrap_or o 0) (map.get-insert place_total counts (member, name) x (m, q))
      ∙ either (eq_by_cmp place_cmp (m, q) (member, name)) (Some x) (map.get counts (m, q))
      ∙ ap (λ b. cond b x (count_at counts q m)) (tied_place name member q m)

  count_remove : (q : List ℕ) (m : Member) → count_at (map.remove counts (member, name)) q m ≡ cond (is_place name member q m) 0 (count_at counts q m)
  count_remove q m =
      ap (λ o. unwrap_or o 0) (map.get-remove place_total counts (member, name) (m, q))
      ∙ either (eq_by_cmp place_cmp (m, q) (member, name)) None (map.get counts (m, q))
      ∙ ap (λ b. cond b 0 (count_at counts q m)) (tied_place name member q m)

  own_count : (q : List ℕ) (m : Member) → cond (is_place name member q m) (count_at counts name member) (count_at counts q m) ≡ count_at counts q m
  own_count q m =
      ap (λ b. cond b (count_at counts name member) (count_at counts q m)) (sym (tied_place name member q m))
      ∙ at_key exact_place (λ p. count_at counts p.1 p.0) (member, name) (m, q) (count_at counts name member) refl

  -- taken out, and put back with one more or one less
  pub count_put : (more : Bool) (x : ℕ) (now : Counts) → x ≡ count_at counts name member → now ≡ map.insert (map.remove counts (member, name)) (member, name) (shifted more 1 x)
      → (q : List ℕ) (m : Member) → count_at now q m ≡ shifted more (cond (is_place name member q m) 1 0) (count_at counts q m)
  count_put more x now was is q m =
      let b = is_place name member q m in
      ap (λ n. count_at n q m) (is ∙ insert_removed place_total exact_place counts (member, name) (shifted more 1 x))
      ∙ count_insert (shifted more 1 x) q m
      ∙ by_place more b x (count_at counts q m) (ap (λ n. cond b n (count_at counts q m)) was ∙ own_count q m)

  -- taken out, with one that is the last
  pub count_out : (x : ℕ) (now : Counts) → x ≡ count_at counts name member → x - 1 ≡ 0 → now ≡ map.remove counts (member, name)
      → (q : List ℕ) (m : Member) → count_at now q m ≡ shifted false (cond (is_place name member q m) 1 0) (count_at counts q m)
  count_out x now was none is q m =
      let b = is_place name member q m in
      ap (λ n. count_at n q m) is ∙ count_remove q m ∙ ap (λ n. cond b n (count_at counts q m)) (sym none)
      ∙ by_place false b x (count_at counts q m) (ap (λ n. cond b n (count_at counts q m)) was ∙ own_count q m)

  -- what is counted there then
  pub count_now : (more : Bool) (now : Counts) → ((q : List ℕ) (m : Member) → count_at now q m ≡ shifted more (cond (is_place name member q m) 1 0) (count_at counts q m))
      → count_at now name member ≡ shifted more 1 (count_at counts name member)
  count_now more now is = is name member ∙ ap (λ b. shifted more (cond b 1 0) (count_at counts name member)) (own_place name member)
