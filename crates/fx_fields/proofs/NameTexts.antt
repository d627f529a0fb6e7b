-- A namespace and a name that are read may stand in a selector.
use Rattle.std.proofs.Common.{◌≡◌, ℕ, List, [], ◌∷◌, Bool, true, Ok, IfOk, refl, arith}
use Rattle.std.specs.Prelude.{codes}
use Rattle.std.specs.List.{list_all}
use Rattle.std.proofs.lemmas.Bool.Decides.{nat_tests}
use Rattle.serde_json.specs.Data.{Data}
use Rattle.fx_selector.specs.Tree.{IsString, AreStrings}
use Rattle.fx_selector.proofs.Literals.{string_test, literal_string}
use Rattle.fx_fields.specs.declared.names.NamespacedName.{NamespacedName}
use Rattle.fx_fields.specs.declared.texts.TextForm.TheVariants.{Namespace}
use Rattle.fx_fields.specs.Forms.{is_name_byte, is_namespace_byte, has_length, is_name, is_namespace, is_label_value, text}
use Rattle.fx_fields.specs.Fields.{required, section}
use Rattle.fx_fields.specs.Names.{name_at, namespaced_name, namespaced_name_in}
use Rattle.fx_fields.proofs.Readings.{then-if, read-if, required-if, both, first_of, second_of, text-formed}

pub all_pass : (p q : ℕ → Bool) → ((b : ℕ) → p b ≡ true → q b ≡ true) → (s : List ℕ) → list_all p s ≡ true → list_all q s ≡ true
all_pass p q each [] e = refl
all_pass p q each (b ∷ s) e =
    both (q b) (list_all q s) (each b (first_of (p b) (list_all p s) e)) (all_pass p q each s (second_of (p b) (list_all p s) e))

pub bytes_of : (s : List ℕ) → is_namespace s ≡ true → list_all is_namespace_byte s ≡ true
bytes_of s e = second_of (has_length 1 63 s) (list_all is_namespace_byte s) e

plain_byte : (b : ℕ) → is_namespace_byte b ≡ true → string_test b ≡ true
plain_byte b e = grind (arith, nat_tests)

namespace-string : (s : List ℕ) → is_namespace s ≡ true → IsString s
namespace-string s e = literal_string s (all_pass is_namespace_byte string_test plain_byte s (bytes_of s e))

-- ---- names

plain_name_byte : (b : ℕ) → is_name_byte b ≡ true → string_test b ≡ true
plain_name_byte b e = grind (arith, nat_tests)

name-string : (s : List ℕ) → is_name s ≡ true → IsString s
name-string s e =
    literal_string s (all_pass is_name_byte string_test plain_name_byte s (second_of (has_length 1 253 s) (list_all is_name_byte s) e))

pub names-strings : (names : List (List ℕ)) → list_all is_name names ≡ true → AreStrings names
names-strings [] e = tt
names-strings (s ∷ ss) e =
    (name-string s (first_of (is_name s) (list_all is_name ss) e), names-strings ss (second_of (is_name s) (list_all is_name ss) e))

-- ---- values of labels

pub label_value-string : (s : List ℕ) → is_label_value s ≡ true → IsString s
label_value-string s e =
    literal_string s (all_pass is_name_byte string_test plain_name_byte s (second_of (has_length 0 63 s) (list_all is_name_byte s) e))

pub label_values-strings : (values : List (List ℕ)) → list_all is_label_value values ≡ true → AreStrings values
label_values-strings [] e = tt
label_values-strings (s ∷ ss) e =
    (label_value-string s (first_of (is_label_value s) (list_all is_label_value ss) e), label_values-strings ss (second_of (is_label_value s) (list_all is_label_value ss) e))

-- ---- of a name that was read

abbrev pub IsNamespaced : NamespacedName → Type 0
IsNamespaced named = is_namespace named.ns ≡ true

pub namespaced_name-if : (path : List ℕ) (d : Data) → IfOk (namespaced_name path d) IsNamespaced
unfolding namespaced_name
namespaced_name-if path d =
    then-if IsNamespaced (name_at path d) _ (λ name _.
    then-if IsNamespaced (required (text Namespace) path (codes "namespace") d) _ (λ ns ns_read.
    read-if (λ (s : List ℕ). is_namespace s ≡ true) (required (text Namespace) path (codes "namespace") d) ns (required-if (λ s. is_namespace s ≡ true) (text Namespace) (text-formed Namespace) path (codes "namespace") d) ns_read))

pub namespaced_name_in-if : (d : Data) → IfOk (namespaced_name_in d) IsNamespaced
unfolding namespaced_name_in
namespaced_name_in-if d =
    then-if IsNamespaced (section (codes "metadata") (codes "metadata") d) _ (λ metadata _. namespaced_name-if (codes "metadata") metadata)

pub named_in_string : (d : Data) (named : NamespacedName) → namespaced_name_in d ≡ Ok named → IsString named.ns
named_in_string d named is = namespace-string named.ns (read-if IsNamespaced (namespaced_name_in d) named (namespaced_name_in-if d) is)
