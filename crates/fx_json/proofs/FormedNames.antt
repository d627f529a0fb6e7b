-- A namespace that is read holds no `/`, and a port's name no comma.
use Rattle.std.proofs.Common.{◌≡◌, ℕ, List, Bool, true, false, ◌==◌, not, Ok, refl, subst}
use Rattle.std.specs.Prelude.{◌&&◌}
use Rattle.std.specs.List.{list_all}
use Rattle.std.specs.Char.{is_ascii_digit}
use Rattle.std.proofs.lemmas.Bool.{eqb-true, false≢true}
use Rattle.serde_json.specs.Data.{Data}
use Rattle.fx_model.specs.Formed.{is_formed_namespace, is_formed_port_name}
use Rattle.fx_fields.specs.declared.names.NamespacedName.{NamespacedName}
use Rattle.fx_fields.specs.Forms.{is_name_byte, is_namespace_byte, has_length, is_namespace, is_port_name}
use Rattle.fx_fields.specs.Names.{namespaced_name, namespaced_name_in}
use Rattle.fx_fields.proofs.Readings.{read-if, first_of, second_of}
use Rattle.fx_fields.proofs.NameTexts.{all_pass, bytes_of, IsNamespaced, namespaced_name-if, namespaced_name_in-if}

no_slash : (b : ℕ) → is_namespace_byte b ≡ true → not (b == 47) ≡ true
no_slash b e = by (b == 47) refl
  where
    by : (t : Bool) → (b == 47) ≡ t → not t ≡ true
    by true f = (let wrong : false ≡ true = subst (λ (c : ℕ). is_namespace_byte c ≡ true) (eqb-true b 47 f) e in absurd (false≢true wrong))
    by false f = refl

namespace-formed : (s : List ℕ) → is_namespace s ≡ true → is_formed_namespace s ≡ true
namespace-formed s e = all_pass is_namespace_byte (λ b. not (b == 47)) no_slash s (bytes_of s e)

no_comma : (b : ℕ) → is_name_byte b ≡ true → not (b == 44) ≡ true
no_comma b e = by (b == 44) refl
  where
    by : (t : Bool) → (b == 44) ≡ t → not t ≡ true
    by true f = (let wrong : false ≡ true = subst (λ (c : ℕ). is_name_byte c ≡ true) (eqb-true b 44 f) e in absurd (false≢true wrong))
    by false f = refl

pub port_name-formed : (s : List ℕ) → is_port_name s ≡ true → is_formed_port_name s ≡ true
port_name-formed s e =
    let named = first_of (has_length 1 128 s && list_all is_name_byte s) (not (list_all is_ascii_digit s)) e in
    all_pass is_name_byte (λ b. not (b == 44)) no_comma s (second_of (has_length 1 128 s) (list_all is_name_byte s) named)

-- ---- of a name that was read

pub named-formed : (path : List ℕ) (d : Data) (named : NamespacedName) → namespaced_name path d ≡ Ok named → is_formed_namespace named.ns ≡ true
named-formed path d named is = namespace-formed named.ns (read-if IsNamespaced (namespaced_name path d) named (namespaced_name-if path d) is)

pub named_in-formed : (d : Data) (named : NamespacedName) → namespaced_name_in d ≡ Ok named → is_formed_namespace named.ns ≡ true
named_in-formed d named is = namespace-formed named.ns (read-if IsNamespaced (namespaced_name_in d) named (namespaced_name_in-if d) is)
