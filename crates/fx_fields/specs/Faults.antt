-- The numbers and names of faults. docs/INPUT.md of this repository is their public source.
use Rattle.std.specs.Prelude.{◌≡◌, ◌⊎◌, ℕ, List, Bool, true, false, codes, Option, Some, None, option_map, Result, Ok, Err}
use Rattle.fx_fields.specs.declared.fault.ReadFault.{ReadFault}
use Rattle.fx_fields.specs.declared.fault.ReadFault.TheVariants.{UnknownKind, MissingField, BadField, BadSelector, Unsupported, PortsWithoutProtocol, IcmpWithoutProtocol, PassInProfile, BlockWithSelector, BadEndPort, BadExpression, Memory}
use Rattle.fx_fields.specs.Paths.{member_path}

abbrev pub fault_number : ReadFault → ℕ
fault_number UnknownKind = 1
fault_number (MissingField path) = 2
fault_number (BadField path) = 3
fault_number (BadSelector path at) = 4
fault_number (Unsupported path) = 5
fault_number (PortsWithoutProtocol path) = 6
fault_number (IcmpWithoutProtocol path) = 7
fault_number (PassInProfile path) = 8
fault_number (BlockWithSelector path) = 10
fault_number (BadEndPort path) = 11
fault_number (BadExpression path) = 12
fault_number Memory = 9

abbrev pub fault_name : ReadFault → List ℕ
fault_name UnknownKind = codes "UnknownKind"
fault_name (MissingField path) = codes "MissingField"
fault_name (BadField path) = codes "BadField"
fault_name (BadSelector path at) = codes "BadSelector"
fault_name (Unsupported path) = codes "Unsupported"
fault_name (PortsWithoutProtocol path) = codes "PortsWithoutProtocol"
fault_name (IcmpWithoutProtocol path) = codes "IcmpWithoutProtocol"
fault_name (PassInProfile path) = codes "PassInProfile"
fault_name (BlockWithSelector path) = codes "BlockWithSelector"
fault_name (BadEndPort path) = codes "BadEndPort"
fault_name (BadExpression path) = codes "BadExpression"
fault_name Memory = codes "Memory"

-- where the value at fault stands
abbrev pub path_of : ReadFault → Option (List ℕ)
path_of UnknownKind = None
path_of (MissingField path) = Some path
path_of (BadField path) = Some path
path_of (BadSelector path at) = Some path
path_of (Unsupported path) = Some path
path_of (PortsWithoutProtocol path) = Some path
path_of (IcmpWithoutProtocol path) = Some path
path_of (PassInProfile path) = Some path
path_of (BlockWithSelector path) = Some path
path_of (BadEndPort path) = Some path
path_of (BadExpression path) = Some path
path_of Memory = None

-- where a selector's text is at fault: so many bytes of it come before
abbrev pub place_of : ReadFault → Option ℕ
place_of UnknownKind = None
place_of (MissingField path) = None
place_of (BadField path) = None
place_of (BadSelector path at) = Some at
place_of (Unsupported path) = None
place_of (PortsWithoutProtocol path) = None
place_of (IcmpWithoutProtocol path) = None
place_of (PassInProfile path) = None
place_of (BlockWithSelector path) = None
place_of (BadEndPort path) = None
place_of (BadExpression path) = None
place_of Memory = None

abbrev pub is_memory : ReadFault → Bool
is_memory UnknownKind = false
is_memory (MissingField path) = false
is_memory (BadField path) = false
is_memory (BadSelector path at) = false
is_memory (Unsupported path) = false
is_memory (PortsWithoutProtocol path) = false
is_memory (IcmpWithoutProtocol path) = false
is_memory (PassInProfile path) = false
is_memory (BlockWithSelector path) = false
is_memory (BadEndPort path) = false
is_memory (BadExpression path) = false
is_memory Memory = true

-- ---- faults of values inside others

-- the fault at another path, where it has one
abbrev pub at_path : List ℕ → ReadFault → ReadFault
at_path path UnknownKind = UnknownKind
at_path path (MissingField p) = MissingField path
at_path path (BadField p) = BadField path
at_path path (BadSelector p at) = BadSelector path at
at_path path (Unsupported p) = Unsupported path
at_path path (PortsWithoutProtocol p) = PortsWithoutProtocol path
at_path path (IcmpWithoutProtocol p) = IcmpWithoutProtocol path
at_path path (PassInProfile p) = PassInProfile path
at_path path (BlockWithSelector p) = BlockWithSelector path
at_path path (BadEndPort p) = BadEndPort path
at_path path (BadExpression p) = BadExpression path
at_path path Memory = Memory

-- the path of a fault's value, by that of a value around it
abbrev pub path_within : List ℕ → ReadFault → Option (List ℕ)
path_within outer fault = option_map (member_path outer) (path_of fault)

abbrev pub at_path_if : Option (List ℕ) → ReadFault → ReadFault
at_path_if None fault = fault
at_path_if (Some path) fault = at_path path fault

-- the fault of a value inside another that stands at this path: its own path leads on from there
abbrev pub within : List ℕ → ReadFault → ReadFault
within outer fault = at_path_if (path_within outer fault) fault

-- ---- answers

-- What code answers where a value isn't read: the fault, unless memory is wanted.
abbrev pub IsReadFault : {A : Type 0} → Result A ReadFault → ReadFault → Type 0
IsReadFault answer told = (told ≡ Memory) ⊎ (answer ≡ Err told)

-- What code answers: what is read or the fault, unless memory is wanted.
abbrev pub IsAnswerOf : {A : Type 0} → Result A ReadFault → Result A ReadFault → Type 0
IsAnswerOf answer (Ok x) = answer ≡ Ok x
IsAnswerOf answer (Err told) = IsReadFault answer told
