-- What the words of the command line ask for. Each option has a value, in the next word or behind `=` in the same, as
-- getopt_long(3) of the GNU C library takes long options. There is no `--` that ends the options, and no option may be shortened.
use Rattle.std.specs.Prelude.{ℕ, ◌-◌, ◌^◌, ◌==◌, ◌&&◌, not, nat_le, if◌then◌else◌, List, [], ◌∷◌, slice_index, Bool, true, Option, Some, None, option_map, option_and_then, find, codes, decimal}
use Rattle.std.specs.List.{list_any}
use Rattle.std.specs.Str.{bytes_eq}
use Rattle.std.specs.Str.Parse.{digits_value}
use Rattle.fx_fields.specs.Forms.{is_name}
use Rattle.fx_words.specs.declared.words.Asked.{Asked}
use Rattle.fx_words.specs.declared.words.Soak.{Soak}

-- ---- forms of values

-- a name whose first byte isn't `-`
abbrev pub is_node_name : List ℕ → Bool
is_node_name s = is_name s && not (slice_index s 0 == 45)

-- the number of which this is the decimal text, without a sign or a leading zero, where it is at most so great
abbrev pub number_of : ℕ → List ℕ → Option ℕ
number_of most s = if bytes_eq s (decimal (digits_value 10 s)) && nat_le (digits_value 10 s) most then Some (digits_value 10 s) else None

-- ---- options with their values

-- an option's name, and its value
abbrev pub Use : Type 0
Use = List ℕ × List ℕ

abbrev pub option_names : List (List ℕ)
option_names = codes "node" ∷ codes "soak" ∷ codes "count" ∷ []

-- the option with this value, where there is such an option
abbrev pub named : List ℕ → List ℕ → Option Use
named name value = if list_any (λ option. bytes_eq option name) option_names then Some (name, value) else None

-- the same of a value in a word of its own, which doesn't begin with `-`
abbrev pub named_apart : List ℕ → List ℕ → Option Use
named_apart name value = if slice_index value 0 == 45 then None else named name value

abbrev pub before : Option Use → Option (List Use) → Option (List Use)
before None uses = None
before (Some first) None = None
before (Some first) (Some uses) = Some (first ∷ uses)

-- `NAME=VALUE`, cut at its first `=`, or a name alone
abbrev pub cut : List ℕ → List ℕ × Option (List ℕ)
cut [] = ([], None)
cut (b ∷ bs) = if b == 61 then ([], Some bs) else (b ∷ (cut bs).0, (cut bs).1)

-- a word `--NAME` or `--NAME=VALUE`, as the name and the value
abbrev pub option_in : List ℕ → Option (List ℕ × Option (List ℕ))
option_in [] = None
option_in (a ∷ []) = None
option_in (a ∷ b ∷ bs) = if a == 45 && b == 45 then Some (cut bs) else None

-- A word is an option, given as its name and its value. The next word is the value where this one has none; what
-- follows is read from behind the value.
abbrev pub met : List ℕ → Option (List ℕ) → List ℕ → Option (List Use) → Option (List Use) → Option (List Use)
met name None next behind_next behind_word = before (named_apart name next) behind_next
met name (Some value) next behind_next behind_word = before (named name value) behind_word

abbrev pub met_last : List ℕ → Option (List ℕ) → Option (List Use)
met_last name None = None
met_last name (Some value) = before (named name value) (Some [])

abbrev pub first_met : Option (List ℕ × Option (List ℕ)) → List ℕ → Option (List Use) → Option (List Use) → Option (List Use)
first_met None next behind_next behind_word = None
first_met (Some p) next behind_next behind_word = met p.0 p.1 next behind_next behind_word

abbrev pub last_met : Option (List ℕ × Option (List ℕ)) → Option (List Use)
last_met None = None
last_met (Some p) = met_last p.0 p.1

-- the options of the words with their values, where the words are nothing else
unfoldable pub uses_of : List (List ℕ) → Option (List Use)
uses_of [] = Some []
uses_of (word ∷ []) = last_met (option_in word)
uses_of (word ∷ next ∷ words) = first_met (option_in word) next (uses_of words) (uses_of (next ∷ words))

-- ---- the value of each option

-- no option is given twice
abbrev pub are_single : List Use → Bool
are_single [] = true
are_single (first ∷ later) = not (list_any (λ u. bytes_eq first.0 u.0) later) && are_single later

-- the values of the three options, where they were given
pub record Given : Type 0 where
  pub node : Option (List ℕ)
  pub seed : Option (List ℕ)
  pub count : Option (List ℕ)

abbrev pub value_in : List ℕ → List Use → Option (List ℕ)
value_in name uses = option_map (λ u. u.1) (find (λ u. bytes_eq u.0 name) uses)

abbrev pub values_in : List Use → Given
values_in uses = record { node = value_in (codes "node") uses; seed = value_in (codes "soak") uses; count = value_in (codes "count") uses }

abbrev pub single : List Use → Option Given
single uses = if are_single uses then Some (values_in uses) else None

abbrev pub given_of : List (List ℕ) → Option Given
given_of words = option_and_then single (uses_of words)

-- ---- what is asked

-- the most lines of a soak run
abbrev pub most_lines : ℕ
most_lines = 1000000

abbrev pub soak_in : Option ℕ → Option ℕ → Option Soak
soak_in None count = None
soak_in (Some seed) None = None
soak_in (Some seed) (Some count) = Some (record { seed = seed; count = count })

abbrev pub soak_of : List ℕ → List ℕ → Option Soak
soak_of seed count = soak_in (number_of (2 ^ 64 - 1) seed) (number_of most_lines count)

-- the soak run that is asked for: a seed and a count are given both or neither
abbrev pub soak_with : Option (List ℕ) → Option (List ℕ) → Option (Option Soak)
soak_with None None = Some None
soak_with None (Some count) = None
soak_with (Some seed) None = None
soak_with (Some seed) (Some count) = option_map (λ s. Some s) (soak_of seed count)

abbrev pub asked_at : List ℕ → Option (Option Soak) → Option Asked
asked_at node None = None
asked_at node (Some soak) = Some (record { node = node; soak = soak })

abbrev pub asked_on : Option (List ℕ) → Option (Option Soak) → Option Asked
asked_on None soak = None
asked_on (Some node) soak = if is_node_name node then asked_at node soak else None

abbrev pub asked_with : Given → Option Asked
asked_with given = asked_on given.node (soak_with given.seed given.count)

-- what the words ask for, where they are in the grammar
abbrev pub asked_of : List (List ℕ) → Option Asked
asked_of words = option_and_then asked_with (given_of words)

-- ---- what is asked of a program that takes a node and nothing else

-- the name behind `--node`, where there are these two words
abbrev pub node_of : List (List ℕ) → Option (List ℕ)
node_of [] = None
node_of (option ∷ []) = None
node_of (option ∷ node ∷ []) = if bytes_eq option (codes "--node") && is_node_name node then Some node else None
node_of (option ∷ node ∷ more ∷ words) = None

abbrev pub node_in : Option (List ℕ) → List ℕ
node_in None = []
node_in (Some node) = node

-- the node's name, or none where the words are not in the grammar
abbrev pub node_name : List (List ℕ) → List ℕ
node_name words = node_in (node_of words)
