-- The tree of a selector: the Calico resource reference, "Selectors".
use Rattle.std.specs.Prelude.{ℕ, ◌+◌, ◌<◌, ◌≤◌, max, cond, nat_eq, List, [], ◌∷◌, length}
use Rattle.std.specs.Ordering.{nat_cmp, match_ordering}
use Rattle.std.specs.Cmp.Lexicographic.{slice_cmp}
use Rattle.std.specs.List.{list_any}
use Rattle.std.specs.List.Sorted.{IsStrictlySortedBy}
use Rattle.fx_selector.specs.Phrase.{Each, is_key, is_text}

mutual
  pub data Tree : Type 0 where
    -- all(), global(), has(k)
    all : Tree
    global : Tree
    has : List ℕ → Tree
    -- k == v, k != v, k in {vs}, k not in {vs}
    equal : List ℕ → List ℕ → Tree
    unequal : List ℕ → List ℕ → Tree
    within : List ℕ → List (List ℕ) → Tree
    outside : List ℕ → List (List ℕ) → Tree
    -- k contains v, k starts with v, k ends with v
    contains : List ℕ → List ℕ → Tree
    starts : List ℕ → List ℕ → Tree
    ends : List ℕ → List ℕ → Tree
    -- Not, And, Or
    negated : Tree → Tree
    each : Trees → Tree
    some : Trees → Tree

  pub data Trees : Type 0 where
    none : Trees
    more : Tree → Trees → Trees

abbrev pub many : List Tree → Trees
many [] = none
many (t ∷ ts) = more t (many ts)

abbrev pub count : Trees → ℕ
count none = 0
count (more t ts) = count ts + 1

-- one operand stands for itself
abbrev pub together : (Trees → Tree) → List Tree → Tree
together f [] = f none
together f (t ∷ []) = t
together f (t ∷ u ∷ us) = f (many (t ∷ u ∷ us))

-- the And of the parts, where no part says all()
abbrev pub and_of : List Tree → Tree
and_of [] = all
and_of (t ∷ ts) = together each (t ∷ ts)

-- a value put into an ascending list, unless it is there
abbrev pub put : List ℕ → List (List ℕ) → List (List ℕ)
put v [] = v ∷ []
put v (w ∷ ws) = match_ordering (slice_cmp nat_cmp v w) (v ∷ w ∷ ws) (w ∷ ws) (w ∷ put v ws)

-- the values, distinct and ascending
abbrev pub set_of : List (List ℕ) → List (List ℕ)
set_of [] = []
set_of (v ∷ vs) = put v (set_of vs)

-- how many levels a tree has
abbrev mutual
  pub height : Tree → ℕ
  height (negated t) = height t + 1
  height (each ts) = heights ts + 1
  height (some ts) = heights ts + 1
  height _ = 1

  pub heights : Trees → ℕ
  heights none = 0
  heights (more t ts) = max (height t) (heights ts)

-- a string that holds `"` stands in `'`
abbrev pub quote_of : List ℕ → ℕ
quote_of v = cond (list_any (λ c. nat_eq c 34) v) 39 34

-- a run of key bytes
abbrev pub IsKey : List ℕ → Type 0
IsKey k = Each is_key k × (0 < length k)

-- no control byte, and not both quotes
abbrev pub IsString : List ℕ → Type 0
IsString v = Each (is_text (quote_of v)) v

abbrev pub AreStrings : List (List ℕ) → Type 0
AreStrings [] = Unit {0}
AreStrings (v ∷ vs) = IsString v × AreStrings vs

-- distinct and ascending strings
abbrev pub IsSet : List (List ℕ) → Type 0
IsSet vs = AreStrings vs × IsStrictlySortedBy (slice_cmp nat_cmp) vs

-- a tree that some text spells
abbrev mutual
  pub IsTree : Tree → Type 0
  IsTree all = Unit {0}
  IsTree global = Unit {0}
  IsTree (has k) = IsKey k
  IsTree (equal k v) = IsKey k × IsString v
  IsTree (unequal k v) = IsKey k × IsString v
  IsTree (within k vs) = IsKey k × IsSet vs
  IsTree (outside k vs) = IsKey k × IsSet vs
  IsTree (contains k v) = IsKey k × IsString v
  IsTree (starts k v) = IsKey k × IsString v
  IsTree (ends k v) = IsKey k × IsString v
  IsTree (negated t) = IsTree t
  IsTree (each ts) = AreTrees ts × (2 ≤ count ts)
  IsTree (some ts) = AreTrees ts × (2 ≤ count ts)

  pub AreTrees : Trees → Type 0
  AreTrees none = Unit {0}
  AreTrees (more t ts) = IsTree t × AreTrees ts

-- what a `Selector` keeps
pub record IsSelector (t : Tree) : Type 0 where
  pub tree : IsTree t
  pub shallow : height t ≤ 140
