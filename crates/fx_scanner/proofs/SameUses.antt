-- Uses that the test does not tell apart are one, and a use's key tells its name.
use Rattle.std.proofs.Common.{◌≡◌, ℕ, Bool, true, false, not, ◌&&◌, nat_eq, List, ◌++◌, Option, Some, None, refl, sym, ap, ◌∙◌}
use Rattle.std.specs.Str.{bytes_eq}
use Rattle.std.specs.Option.{option_eq}
use Rattle.std.specs.Cmp.Lexicographic.{nat_list_eq_equiv}
use Rattle.std.proofs.lemmas.Cmp.{nat_eq_equiv}
use Rattle.std.specs.FinMap as maps
use Rattle.fx_base.specs.Same.{both_pass, same_bytes, same_numbers, same_option}
use Rattle.fx_base.specs.SetName.{kind_of}
use Rattle.fx_base.specs.declared.net.Proto.{Proto}
use Rattle.fx_base.specs.declared.set_name.SetKind.{SetKind}
use Rattle.fx_base.specs.declared.set_name.SetKind.TheVariants.{Nets, Ports}
use Rattle.fx_base.specs.contracts.set_name.SetKindPartialEq.TheImpl as kinds
use Rattle.fx_names.specs.Digests.{Digest}
use Rattle.fx_names.specs.Names.{set_name_of}
use Rattle.fx_selector.specs.SameTree.{same_tree, same_tree_equiv, one_tree}
use Rattle.fx_model.specs.Claims.{kind_letter}
use Rattle.fx_model.specs.Sets.{use_name}
use Rattle.fx_model.specs.Sinks.{Uses}
use Rattle.fx_model.specs.declared.set_use.SetUse.{SetUse}
use Rattle.fx_scanner.specs.Uses.{same_port, same_use, is_use, use_key, has_key}
use Rattle.fx_scanner.specs.Told.{has_name, is_told, clashes}
use Rattle.fx_scanner.proofs.Texts.{one_text, from_one}
use Rattle.fx_scanner.proofs.Bags.{not_true}
use Rattle.fx_base.proofs.Cases.{same_some}

same_kind : (k l : SetKind) → kinds.eq-value.it k l ≡ true → k ≡ l
same_kind Nets Nets e = refl
same_kind Ports Ports e = refl
same_kind _ _ e = cc

own_kind : (k : SetKind) → kinds.eq-value.it k k ≡ true
own_kind Nets = refl
own_kind Ports = refl

one_port : (p q : Proto × List ℕ) → same_port p q ≡ true → p ≡ q
one_port p q e =
    let b = both_pass (nat_eq p.0.0 q.0.0) (bytes_eq p.1 q.1) e in
    λ i. (record { 0 = same_numbers p.0.0 q.0.0 b.0 i }, same_bytes p.1 q.1 b.1 i)

own_port : (o : Option (Proto × List ℕ)) → option_eq same_port o o ≡ true
own_port None = refl
own_port (Some p) = λ j. nat_eq_equiv.refl p.0.0 j && nat_list_eq_equiv.refl p.1 j

pub one_use : (u v : SetUse) → same_use u v ≡ true → u ≡ v
one_use u v e =
    let p = both_pass ((kinds.eq-value.it u.kind v.kind && bytes_eq u.text v.text) && same_tree u.selector v.selector) (option_eq same_port u.port v.port) e in
    let q = both_pass (kinds.eq-value.it u.kind v.kind && bytes_eq u.text v.text) (same_tree u.selector v.selector) p.0 in
    let r = both_pass (kinds.eq-value.it u.kind v.kind) (bytes_eq u.text v.text) q.0 in
    λ i. record {
      kind = same_kind u.kind v.kind r.0 i;
      text = same_bytes u.text v.text r.1 i;
      selector = one_tree u.selector v.selector q.1 i;
      port = same_option same_port one_port u.port v.port p.1 i;
    }

pub own_use : (u : SetUse) → same_use u u ≡ true
own_use u = λ j. ((own_kind u.kind j && nat_list_eq_equiv.refl u.text j) && same_tree_equiv.refl u.selector j) && own_port u.port j

pub from_one_use : (u v : SetUse) → u ≡ v → same_use u v ≡ true
from_one_use u v h = ap (λ w. same_use u w) (sym h) ∙ own_use u

-- the use that is there
pub value_of : (u : SetUse) (o : Option SetUse) → is_use u o ≡ true → o ≡ Some u
value_of u None h = cc
value_of u (Some v) h = ap Some (one_use v u h)

pub of_value : (u : SetUse) (o : Option SetUse) → o ≡ Some u → is_use u o ≡ true
of_value u o h = ap (is_use u) h ∙ own_use u

-- ---- keys and names

named : (dg : Digest) (k l : SetKind) (s t : List ℕ) → kind_letter k ++ s ≡ kind_letter l ++ t → set_name_of dg k s ≡ set_name_of dg l t
named dg Nets Nets s t e = let same : s ≡ t = cc in ap (set_name_of dg Nets) same
named dg Ports Ports s t e = let same : s ≡ t = cc in ap (set_name_of dg Ports) same
named dg Nets Ports s t e = cc
named dg Ports Nets s t e = cc

pub key_name : (dg : Digest) (u v : SetUse) → use_key u ≡ use_key v → use_name dg u ≡ use_name dg v
key_name dg u v e = named dg u.kind v.kind u.text v.text e

pub key_has_name : (dg : Digest) (u v : SetUse) → has_key (use_key u) v ≡ true → has_name dg (use_name dg u) v ≡ true
key_has_name dg u v h = from_one (use_name dg u) (use_name dg v) (key_name dg u v (one_text (use_key u) (use_key v) h))

pub kind_is : (dg : Digest) (u : SetUse) → kind_of (use_name dg u) ≡ u.kind
kind_is dg u = by_kind u.kind u.text
  where
    by_kind : (k : SetKind) (t : List ℕ) → kind_of (set_name_of dg k t) ≡ k
    by_kind Nets t = refl
    by_kind Ports t = refl

-- ---- clashes

unlike : (a b : Bool) → a ≡ true → (a && not b) ≡ false → b ≡ true
unlike true b h e = not_true b e
unlike false b h e = cc

-- without a clash the same name is the same use
pub one_by_name : (dg : Digest) (u v : SetUse) → has_name dg (use_name dg u) v ≡ true → clashes dg u v ≡ false → u ≡ v
one_by_name dg u v h e = one_use u v (unlike (has_name dg (use_name dg u) v) (same_use u v) h e)

pub told_value : (dg : Digest) (uses : Uses) (u : SetUse) → is_told dg uses u ≡ true → maps.get uses (use_name dg u) ≡ Some u
told_value dg uses u h = value_of u (maps.get uses (use_name dg u)) h

-- of two uses that are there at one name, each is the other
pub one_told : (dg : Digest) (uses : Uses) (u v : SetUse) → is_told dg uses u ≡ true → is_told dg uses v ≡ true → has_name dg (use_name dg u) v ≡ true → u ≡ v
one_told dg uses u v g h same =
    same_some u v (sym (told_value dg uses u g) ∙ ap (maps.get uses) (one_text (use_name dg u) (use_name dg v) same) ∙ told_value dg uses v h)
