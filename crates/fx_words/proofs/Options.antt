-- The program's options as clap's walk reads them.
use Rattle.std.proofs.Common.{◌≡◌, ◌⊎◌, ◌||◌, Bool, true, false, cond, refl, subst, inl, inr, ℕ, List, Some, None}
use Rattle.std.specs.Prelude.{codes}
use Rattle.std.specs.List.{list_any}
use Rattle.std.specs.Str.{bytes_eq}
use Rattle.std.proofs.lemmas.Bool.{cases_Bool}
use Rattle.std.proofs.lemmas.Slice.Eq.{bytes_eq-Decides}
use Rattle.clap.specs.Walk.{Rule, arg_by_id, arg_by_long}
use Rattle.clap.specs.Simple.{Shape, built, filled, is_simple, with_index}
use Rattle.clap.specs.Faults.{is_simple_and_free}
use Rattle.fx_words.specs.Words.{option_names}
use Rattle.fx_words.specs.Splitting.{value_option, words_app}

-- the command as building leaves it
abbrev pub shape : Shape
shape = (built words_app).top

abbrev pub options : List Rule
options = shape.rules

abbrev pub option_rule : List ℕ → Rule
option_rule name = with_index 1 (filled (value_option name))

pub app_is_simple : is_simple words_app ≡ true
app_is_simple = refl

pub app_is_free : is_simple_and_free words_app ≡ true
app_is_free = refl

abbrev pub is_option : List ℕ → Bool
is_option name = list_any (λ option. bytes_eq option name) option_names

pub record IsOption (name : List ℕ) : Type 0 where
  pub listed : is_option name ≡ true
  pub by_long : arg_by_long options name ≡ Some (option_rule name)
  pub by_id : arg_by_id options name ≡ Some (option_rule name)

-- no option has this name
pub record IsNoOption (name : List ℕ) : Type 0 where
  pub listed : is_option name ≡ false
  pub by_long : arg_by_long options name ≡ None

named_so : (option name : List ℕ) → bytes_eq option name ≡ true → IsOption option → IsOption name
named_so option name e h = subst IsOption ((bytes_eq-Decides option name).0 e) h

is_node : IsOption (codes "node")
is_node = record { listed = refl; by_long = refl; by_id = refl }

is_soak : IsOption (codes "soak")
is_soak = record { listed = refl; by_long = refl; by_id = refl }

is_count : IsOption (codes "count")
is_count = record { listed = refl; by_long = refl; by_id = refl }

none_of : (name : List ℕ) → bytes_eq (codes "node") name ≡ false → bytes_eq (codes "soak") name ≡ false → bytes_eq (codes "count") name ≡ false → IsNoOption name
none_of name n s c = record {
  listed = λ i. n i || (s i || (c i || false));
  by_long = λ i. cond (n i || false) (Some (option_rule (codes "node"))) (cond (s i || false) (Some (option_rule (codes "soak"))) (cond (c i || false) (Some (option_rule (codes "count"))) None));
}

pub option_or_not : (name : List ℕ) → IsOption name ⊎ IsNoOption name
option_or_not name = elim (cases_Bool (bytes_eq (codes "node") name)) [
  | inl e ↦ inl (named_so (codes "node") name e is_node)
  | inr n ↦ elim (cases_Bool (bytes_eq (codes "soak") name)) [
    | inl e ↦ inl (named_so (codes "soak") name e is_soak)
    | inr s ↦ elim (cases_Bool (bytes_eq (codes "count") name)) [
      | inl e ↦ inl (named_so (codes "count") name e is_count)
      | inr c ↦ inr (none_of name n s c)
    ]
  ]
]
