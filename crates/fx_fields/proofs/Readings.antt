-- What a reading says of what it gives.
use Rattle.std.proofs.Common.{◌≡◌, ℕ, List, Bool, true, false, ◌&&◌, Option, Some, None, Result, Ok, Err, IfOk, refl, subst}
use Rattle.std.specs.Prelude.{IfSome, if◌then◌else◌, ◌+◌}
use Rattle.std.specs.List.{list_all}
use Rattle.serde_json.specs.Data.{Data, Items, no_items, item as cons_item}
use Rattle.serde_json.specs.Find.{as_str}
use Rattle.fx_fields.specs.declared.fault.ReadFault.{ReadFault}
use Rattle.fx_fields.specs.declared.fault.ReadFault.TheVariants.{MissingField}
use Rattle.fx_fields.specs.declared.texts.TextForm.{TextForm}
use Rattle.fx_fields.specs.Faults.{IsAnswerOf}
use Rattle.fx_fields.specs.Forms.{is_in, passing, text}
use Rattle.fx_fields.specs.Paths.{member_path, item_path}
use Rattle.fx_fields.specs.Fields.{◌>>=◌, Reader, field, formed, required, items_from, list_at, items}

pub then-if : {A B : Type 0} (P : B → Type 0) (answer : Result A ReadFault) (next : A → Result B ReadFault) → ((x : A) → answer ≡ Ok x → IfOk (next x) P) → IfOk (answer >>= next) P
then-if P (Ok x) next is = is x refl
then-if P (Err fault) next is = tt

-- what holds of what is read
pub read-if : {A : Type 0} (P : A → Type 0) (answer : Result A ReadFault) (x : A) → IfOk answer P → answer ≡ Ok x → P x
read-if {A = A} P answer x holds is = let Q : Result A ReadFault → Type 0 = λ r. IfOk r P in subst Q is holds

-- what code answers of what is read
pub answered-if : {A : Type 0} (P : A → Type 0) (answer told : Result A ReadFault) → IfOk answer P → IsAnswerOf answer told → IfOk told P
answered-if P answer (Ok x) holds is = read-if P answer x holds is
answered-if P answer (Err fault) holds is = tt

pub at_member-if : {A : Type 0} (P : A → Type 0) (absent : Result A ReadFault) (read : Data → Result A ReadFault) (o : Option Data) → IfOk absent P → ((d : Data) → IfOk (read d) P) → IfOk (elim o [ None ↦ absent | Some d ↦ read d ]) P
at_member-if P absent read None first others = first
at_member-if P absent read (Some d) first others = others d

pub required-if : {A : Type 0} (P : A → Type 0) (read : Reader A) → ((path : List ℕ) (d : Data) → IfOk (read path d) P) → (path k : List ℕ) (d : Data) → IfOk (required read path k d) P
unfolding required
required-if P read each path k d =
    at_member-if P (Err (MissingField (member_path path k))) (read (member_path path k)) (field k d) tt (each (member_path path k))

pub formed-if : {A : Type 0} (P : A → Type 0) (path : List ℕ) (o : Option A) → IfSome o P → IfOk (formed path o) P
formed-if P path None is = tt
formed-if P path (Some x) is = is

passing-if : {A : Type 0} (test : A → Bool) (o : Option A) → IfSome (passing test o) (λ x. test x ≡ true)
passing-if test None = tt
passing-if {A = A} test (Some x) = chosen (test x) x refl
  where
    chosen : (b : Bool) (x : A) → test x ≡ b → IfSome (if b then Some x else None) (λ y. test y ≡ true)
    chosen true x e = e
    chosen false x e = tt

pub choice-if : {A : Type 0} (P : A → Type 0) (b : Bool) (x : A) (fault : ReadFault) → (b ≡ true → P x) → IfOk (if b then Ok x else Err fault) P
choice-if P true x fault holds = holds refl
choice-if P false x fault holds = tt

pub both : (a b : Bool) → a ≡ true → b ≡ true → (a && b) ≡ true
both true b e f = f
both false b e f = e

-- what holds of each item that is read holds of all
pub items_from-each : {A : Type 0} (test : A → Bool) (read : Reader A) → ((path : List ℕ) (d : Data) → IfOk (read path d) (λ x. test x ≡ true)) → (path : List ℕ) (index : ℕ) (ds : Items) → IfOk (items_from read path index ds) (λ xs. list_all test xs ≡ true)
items_from-each test read each path index no_items = refl
items_from-each {A = A} test read each path index (cons_item d ds) =
    then-if (λ xs. list_all test xs ≡ true) (read (item_path path index) d) _ (λ x is.
    then-if (λ xs. list_all test xs ≡ true) (items_from read path (index + 1) ds) _ (λ xs rest.
    both (test x) (list_all test xs)
    (read-if (λ (y : A). test y ≡ true) (read (item_path path index) d) x (each (item_path path index) d) is)
    (read-if (λ (ys : List A). list_all test ys ≡ true) (items_from read path (index + 1) ds) xs (items_from-each test read each path (index + 1) ds) rest)))

pub items-each : {A : Type 0} (test : A → Bool) (read : Reader A) → ((path : List ℕ) (d : Data) → IfOk (read path d) (λ x. test x ≡ true)) → (path k : List ℕ) (d : Data) → IfOk (items read path k d) (λ xs. list_all test xs ≡ true)
unfolding items
items-each test read each path k d =
    then-if (λ xs. list_all test xs ≡ true) (list_at path k d) (items_from read (member_path path k) 0) (λ ds is. items_from-each test read each (member_path path k) 0 ds)

pub weaker-if : {A : Type 0} (P Q : A → Type 0) (answer : Result A ReadFault) → ((x : A) → P x → Q x) → IfOk answer P → IfOk answer Q
weaker-if P Q (Ok x) weaker is = weaker x is
weaker-if P Q (Err fault) weaker is = tt

-- ---- tests

pub first_of : (a b : Bool) → (a && b) ≡ true → a ≡ true
first_of true b e = refl
first_of false b e = e

pub second_of : (a b : Bool) → (a && b) ≡ true → b ≡ true
second_of true b e = e
second_of false b e = cc

-- ---- texts

pub text-formed : (form : TextForm) (path : List ℕ) (d : Data) → IfOk (text form path d) (λ s. is_in form s ≡ true)
text-formed form path d = formed-if (λ s. is_in form s ≡ true) path (passing (is_in form) (as_str d)) (passing-if (is_in form) (as_str d))
