-- The forms of texts. From Calico's resource reference (`projectcalico.org/v3`) and Kubernetes' names of objects.
use Rattle.std.specs.Prelude.{ℕ, List, length, Bool, ◌&&◌, ◌||◌, ◌==◌, nat_eq, nat_le, not, if◌then◌else◌, Option, Some, None, option_and_then, codes}
use Rattle.std.specs.List.{list_all, starts_with}
use Rattle.std.specs.Char.{is_ascii_digit, is_ascii_lowercase, is_ascii_uppercase}
use Rattle.serde_json.specs.Find.{as_str}
use Rattle.fx_fields.specs.declared.texts.TextForm.{TextForm}
use Rattle.fx_fields.specs.declared.texts.TextForm.TheVariants.{Name, Namespace, Interface, WorkloadInterface, PortName, LabelValue}
use Rattle.fx_fields.specs.Fields.{Reader, formed}

-- ---- bytes

-- `[A-Za-z0-9_.-]`
abbrev pub is_name_byte : ℕ → Bool
is_name_byte b = is_ascii_uppercase b || is_ascii_lowercase b || is_ascii_digit b || (b == 95) || (b == 46) || (b == 45)

-- `[a-z0-9-]`
abbrev pub is_namespace_byte : ℕ → Bool
is_namespace_byte b = is_ascii_lowercase b || is_ascii_digit b || (b == 45)

-- ---- texts

abbrev pub has_length : ℕ → ℕ → List ℕ → Bool
has_length low high s = nat_le low (length s) && nat_le (length s) high

-- 1 to 253 bytes
abbrev pub is_name : List ℕ → Bool
is_name s = has_length 1 253 s && list_all is_name_byte s

-- 1 to 63 bytes
abbrev pub is_namespace : List ℕ → Bool
is_namespace s = has_length 1 63 s && list_all is_namespace_byte s

-- an interface's name has 1 to 15 bytes
abbrev pub is_interface : List ℕ → Bool
is_interface s = has_length 1 15 s && list_all is_name_byte s

-- that of a workload begins with `cali`
abbrev pub is_workload_interface : List ℕ → Bool
is_workload_interface s = is_interface s && starts_with nat_eq s (codes "cali")

-- a port's name has 1 to 128 bytes, which aren't all digits
abbrev pub is_port_name : List ℕ → Bool
is_port_name s = has_length 1 128 s && list_all is_name_byte s && not (list_all is_ascii_digit s)

-- a label's value has at most 63 bytes
abbrev pub is_label_value : List ℕ → Bool
is_label_value s = has_length 0 63 s && list_all is_name_byte s

abbrev pub is_in : TextForm → List ℕ → Bool
is_in Name = is_name
is_in Namespace = is_namespace
is_in Interface = is_interface
is_in WorkloadInterface = is_workload_interface
is_in PortName = is_port_name
is_in LabelValue = is_label_value

-- ---- reading them

-- what is there, where it passes
abbrev pub passing : {A : Type 0} → (A → Bool) → Option A → Option A
passing test o = option_and_then (λ x. if test x then Some x else None) o

abbrev pub text : TextForm → Reader (List ℕ)
text form path d = formed path (passing (is_in form) (as_str d))
