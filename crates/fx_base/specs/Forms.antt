-- Texts in a form, and how far a text goes along one. A form relates its texts to their values.
use Rattle.std.specs.Prelude.{◌≡◌, ◌≤◌, ◌⊎◌, ℕ, List, [], ◌∷◌, ◌++◌, length, take, Result, MatchResult, Option, Some, None}
use Rattle.std.specs.Fmt.{decimal}

-- a text of the form
abbrev pub IsIn : {A : Type 0} → (List ℕ → A → Type 0) → List ℕ → Type 0
IsIn {A = A} Form text = (value : A) × Form text value

-- a text with which some text of the form begins
abbrev pub Begins : {A : Type 0} → (List ℕ → A → Type 0) → List ℕ → Type 0
Begins Form prefix = (rest : List ℕ) × IsIn Form (prefix ++ rest)

-- the longest prefix of the text with which some text of the form begins has this length
pub record GoesTo {A : Type 0} (Form : List ℕ → A → Type 0) (text : List ℕ) (at : ℕ) : Type 0 where
  pub within : at ≤ length text
  pub begins : Begins Form (take at text)
  pub furthest : (n : ℕ) → n ≤ length text → Begins Form (take n text) → n ≤ at

-- the text is in the form, with this value alone
pub record Means {A : Type 0} (Form : List ℕ → A → Type 0) (text : List ℕ) (value : A) : Type 0 where
  pub is : Form text value
  pub only : (other : A) → Form text other → other ≡ value

-- the text isn't in the form, and goes so far along it
pub record Leaves {A : Type 0} (Form : List ℕ → A → Type 0) (text : List ℕ) (at : ℕ) : Type 0 where
  pub none : (value : A) → ¬ Form text value
  pub goes : GoesTo Form text at

-- an answer of a reader of the form: the value, or how far the text goes
abbrev pub Reads : {A : Type 0} → (List ℕ → A → Type 0) → List ℕ → Result A ℕ → Type 0
Reads Form text result = MatchResult result (Means Form text) (Leaves Form text)

-- a number of a range, in decimal digits without leading zeros
pub record IsNumber (low high : ℕ) (text : List ℕ) (value : ℕ) : Type 0 where
  pub digits : text ≡ decimal value
  pub least : low ≤ value
  pub most : value ≤ high

-- nothing, which stands for a value, or a mark and a number of a range
abbrev pub IsOptional : ℕ → ℕ → ℕ → ℕ → List ℕ → ℕ → Type 0
IsOptional absent mark low high text value = ((text ≡ []) × (value ≡ absent)) ⊎ ((digits : List ℕ) × (text ≡ mark ∷ digits) × IsNumber low high digits value)

-- a number of a range, and what follows it by its value
pub record NumberThen {A : Type 0} (low high : ℕ) (Then : ℕ → List ℕ → A → Type 0) (text : List ℕ) (value : A) : Type 0 where
  pub number : ℕ
  pub prefix : List ℕ
  pub rest : List ℕ
  pub whole : text ≡ prefix ++ rest
  pub is : IsNumber low high prefix number
  pub after : Then number rest value

-- the digits that were read so far
abbrev pub digits_of : Option ℕ → List ℕ
digits_of None = []
digits_of (Some value) = decimal value
