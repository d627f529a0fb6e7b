-- The members of a JSON object and the items of a list, as `serde_json` reads them, and how they are read one after another.
-- A member whose value is null counts as absent, as in Kubernetes' API conventions, and an absent object is empty. A null in a list is
-- a value like any other.
use Rattle.std.specs.Prelude.{◌+◌, ℕ, List, [], ◌∷◌, Bool, false, ◌==◌, if◌then◌else◌, Option, Some, None, is_some, is_none, Result, Ok, Err}
use Rattle.serde_json.specs.Data.{Data, null, boolean, number, string, array, object, Items, no_items, item, Members, no_members, member}
use Rattle.serde_json.specs.Find.{get, as_null, as_array, as_object}
use Rattle.fx_fields.specs.declared.fault.ReadFault.{ReadFault}
use Rattle.fx_fields.specs.declared.fault.ReadFault.TheVariants.{MissingField, BadField, Unsupported}
use Rattle.fx_fields.specs.Paths.{member_path, item_path}

-- ---- members

abbrev pub present : Option Data → Option Data
present None = None
present (Some null) = None
present (Some (boolean b)) = Some (boolean b)
present (Some (number n)) = Some (number n)
present (Some (string s)) = Some (string s)
present (Some (array ds)) = Some (array ds)
present (Some (object ms)) = Some (object ms)

-- the member of this name
abbrev pub field : List ℕ → Data → Option Data
field key d = present (get key d)

abbrev pub is_absent : List ℕ → Data → Bool
is_absent key d = is_none (field key d)

abbrev pub is_null : Data → Bool
is_null d = is_some (as_null d)

abbrev pub is_object : Data → Bool
is_object d = is_some (as_object d)

-- how many members there are
abbrev pub member_count : Members → ℕ
member_count no_members = 0
member_count (member k d ms) = (if is_null d then 0 else 1) + member_count ms

-- an object with this many members
abbrev pub has_members : ℕ → Data → Bool
has_members n d = is_count n (as_object d)
  where
    is_count : ℕ → Option Members → Bool
    is_count n None = false
    is_count n (Some ms) = member_count ms == n

-- ---- one after another

-- the first fault, or what is read next
infixl 10 ◌>>=◌
abbrev pub ◌>>=◌ : {A B : Type 0} → Result A ReadFault → (A → Result B ReadFault) → Result B ReadFault
Ok x >>= next = next x
Err fault >>= next = Err fault

-- How a value at a path is read.
abbrev pub Reader : Type 0 → Type 0
Reader A = List ℕ → Data → Result A ReadFault

-- a value at a path that has to be in a form
abbrev pub formed : {A : Type 0} → List ℕ → Option A → Result A ReadFault
formed path None = Err (BadField path)
formed path (Some x) = Ok x

-- the member of this name, which has to be there
unfoldable pub required : {A : Type 0} → Reader A → List ℕ → List ℕ → Data → Result A ReadFault
required {A = A} read path key d = of_member (field key d)
  where
    of_member : Option Data → Result A ReadFault
    of_member None = Err (MissingField (member_path path key))
    of_member (Some v) = read (member_path path key) v

-- the member of this name, or what stands for it where it is absent
unfoldable pub defaulted : {A : Type 0} → A → Reader A → List ℕ → List ℕ → Data → Result A ReadFault
defaulted {A = A} absent read path key d = of_member (field key d)
  where
    of_member : Option Data → Result A ReadFault
    of_member None = Ok absent
    of_member (Some v) = read (member_path path key) v

-- the member of this name, if it is there
unfoldable pub optional : {A : Type 0} → Reader A → List ℕ → List ℕ → Data → Result (Option A) ReadFault
optional {A = A} read path key d = of_member (field key d)
  where
    of_member : Option Data → Result (Option A) ReadFault
    of_member None = Ok None
    of_member (Some v) = read (member_path path key) v >>= λ x. Ok (Some x)

-- a value that isn't read yet
abbrev pub unread : Reader (Unit {0})
unread path d = Err (Unsupported path)

-- ---- objects and lists

unfoldable pub object_at : Reader Data
object_at path d = formed path (if is_object d then Some d else None)

-- the object of this name, which stands at this path; null stands for the empty object
unfoldable pub section : List ℕ → List ℕ → Data → Result Data ReadFault
section path key d = of_member (field key d)
  where
    of_member : Option Data → Result Data ReadFault
    of_member None = Ok null
    of_member (Some v) = object_at path v

-- the items of a list, the first of this index
abbrev pub items_from : {A : Type 0} → Reader A → List ℕ → ℕ → Items → Result (List A) ReadFault
items_from read path index no_items = Ok []
items_from read path index (item d ds) = read (item_path path index) d >>= λ x. items_from read path (index + 1) ds >>= λ xs. Ok (x ∷ xs)

-- the list of this name, which is empty where it is absent
unfoldable pub list_at : List ℕ → List ℕ → Data → Result Items ReadFault
list_at = defaulted no_items (λ path d. formed path (as_array d))

-- the list of this name, item by item
unfoldable pub items : {A : Type 0} → Reader A → List ℕ → List ℕ → Data → Result (List A) ReadFault
items read path key d = list_at path key d >>= items_from read (member_path path key) 0
