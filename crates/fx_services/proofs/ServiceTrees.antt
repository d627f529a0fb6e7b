-- The selectors that stand in rules which are lowered are ones that some text spells, and not too high.
use Rattle.std.proofs.Common.{◌≡◌, ◌≤◌, ℕ, List, [], ◌∷◌, ◌++◌, nat_le, Bool, true, false, ◌&&◌, ◌==◌, not, Option, Some, None, refl, subst, arith, lit<}
use Rattle.std.specs.Prelude.{codes, option_map}
use Rattle.std.specs.List.{list_all}
use Rattle.std.proofs.lemmas.Bool.{le-leb, leb-true, eqb-true, false≢true}
use Rattle.std.proofs.lemmas.Bool.Decides.{nat_tests}
use Rattle.fx_selector.specs.Formed.{is_tree}
use Rattle.fx_selector.specs.Tree.{Tree, IsKey, IsString, height, has, negated}
use Rattle.fx_selector.proofs.FormedTrees.{tree_tested}
use Rattle.fx_selector.proofs.Literals.{string_test, literal_key, literal_string}
use Rattle.fx_model.specs.Formed.{is_formed_selector, is_formed_namespace}
use Rattle.fx_fields.specs.declared.names.NamespacedName.{NamespacedName}
use Rattle.fx_fields.specs.Forms.{is_name_byte, is_namespace_byte, has_length, is_name, is_namespace}
use Rattle.fx_fields.proofs.NameTexts.{all_pass, bytes_of}
use Rattle.fx_fields.proofs.Readings.{both, first_of, second_of}
use Rattle.fx_services.specs.Marks.{mark, full_name}
use Rattle.fx_services.specs.Lowering.{plain_tree, of_service}
use Rattle.fx_services.specs.Lowerable.{is_low, is_service}

pub mark_key : IsKey mark
mark_key = literal_key (codes "pcsvc") refl (lit< tt)

-- ---- what a selector selects apart from slices

unmarked-tree : is_tree (negated (has mark)) ≡ true
unmarked-tree = tree_tested (negated (has mark)) mark_key

plain_tree-formed : (t : Tree) → is_tree t ≡ true → height t ≤ 138 → is_formed_selector (Some (plain_tree t)) ≡ true
plain_tree-formed t e low =
    let height_low : height (plain_tree t) ≤ 139 = omega (arith, low) in
    both (is_tree (plain_tree t)) (nat_le (height (plain_tree t)) 139)
    (both (is_tree t && (is_tree (negated (has mark)) && true)) true
    (both (is_tree t) (is_tree (negated (has mark)) && true) e (both (is_tree (negated (has mark))) true unmarked-tree refl)) refl)
    (le-leb (height (plain_tree t)) 139 height_low)

pub plain_selector-formed : (o : Option Tree) → is_formed_selector o ≡ true → is_low o ≡ true → is_formed_selector (option_map plain_tree o) ≡ true
plain_selector-formed None e low = refl
plain_selector-formed (Some t) e low = plain_tree-formed t (first_of (is_tree t) (nat_le (height t) 139) e) (leb-true (height t) 138 low)

-- ---- the slices of a service

name_byte : (b : ℕ) → is_name_byte b ≡ true → string_test b ≡ true
name_byte b e = grind (arith, nat_tests)

namespace_byte : (b : ℕ) → is_namespace_byte b ≡ true → string_test b ≡ true
namespace_byte b e = grind (arith, nat_tests)

bytes-append : (xs ys : List ℕ) → list_all string_test xs ≡ true → list_all string_test ys ≡ true → list_all string_test (xs ++ ys) ≡ true
bytes-append [] ys e f = f
bytes-append (x ∷ xs) ys e f =
    both (string_test x) (list_all string_test (xs ++ ys)) (first_of (string_test x) (list_all string_test xs) e)
    (bytes-append xs ys (second_of (string_test x) (list_all string_test xs) e) f)

-- a service's name may stand in a selector
pub service_string : (v : NamespacedName) → is_service v ≡ true → IsString (full_name v.ns v.name)
service_string v e =
    literal_string (full_name v.ns v.name)
    (bytes-append v.ns (codes "/" ++ v.name)
    (all_pass is_namespace_byte string_test namespace_byte v.ns (bytes_of v.ns (first_of (is_namespace v.ns) (is_name v.name) e)))
    (bytes-append (codes "/") v.name refl
    (all_pass is_name_byte string_test name_byte v.name (second_of (has_length 1 253 v.name) (list_all is_name_byte v.name) (second_of (is_namespace v.ns) (is_name v.name) e)))))

pub of_service-formed : (v : NamespacedName) → is_service v ≡ true → is_formed_selector (Some (of_service v)) ≡ true
of_service-formed v e =
    both (is_tree (of_service v)) (nat_le (height (of_service v)) 139) (tree_tested (of_service v) (mark_key, service_string v e)) refl

-- ---- namespaces

no_slash : (b : ℕ) → is_namespace_byte b ≡ true → not (b == 47) ≡ true
no_slash b e = by (b == 47) refl
  where
    by : (t : Bool) → (b == 47) ≡ t → not t ≡ true
    by true f = (let wrong : false ≡ true = subst (λ (c : ℕ). is_namespace_byte c ≡ true) (eqb-true b 47 f) e in absurd (false≢true wrong))
    by false f = refl

-- a namespace holds no `/`
pub namespace_free : (s : List ℕ) → is_namespace s ≡ true → is_formed_namespace s ≡ true
namespace_free s e = all_pass is_namespace_byte (λ b. not (b == 47)) no_slash s (bytes_of s e)

pub service_free : (v : NamespacedName) → is_service v ≡ true → is_formed_namespace v.ns ≡ true
service_free v e = namespace_free v.ns (first_of (is_namespace v.ns) (is_name v.name) e)
