-- How uses of sets are told apart and counted. By ipset(8) a set has one name and one type: uses of one kind and text are of one set
-- in the kernel.
use Rattle.std.specs.Prelude.{ℕ, ◌+◌, ◌==◌, Bool, false, ◌&&◌, cond, nat_eq, List, [], ◌∷◌, ◌++◌, map, Option, Some, None, unwrap_or}
use Rattle.std.specs.Str.{bytes_eq}
use Rattle.std.specs.Option.{option_eq}
use Rattle.std.specs.Ordering.{nat_cmp, eq_by_cmp}
use Rattle.std.specs.Cmp.Lexicographic.{slice_cmp}
use Rattle.std.specs.FinMap as maps
use Rattle.fx_base.specs.Extended.{filled}
use Rattle.fx_base.specs.declared.net.Proto.{Proto}
use Rattle.fx_base.specs.contracts.set_name.SetKindPartialEq.TheImpl as kinds
use Rattle.fx_selector.specs.SameTree.{same_tree}
use Rattle.fx_model.specs.Claims.{kind_letter}
use Rattle.fx_model.specs.Sinks.{Uses}
use Rattle.fx_model.specs.declared.set_use.SetUse.{SetUse}

abbrev pub same_text : List ℕ → List ℕ → Bool
same_text t u = eq_by_cmp (slice_cmp nat_cmp) t u

abbrev pub same_port : Proto × List ℕ → Proto × List ℕ → Bool
same_port p q = nat_eq p.0.0 q.0.0 && bytes_eq p.1 q.1

abbrev pub same_use : SetUse → SetUse → Bool
same_use u v =
    ((kinds.eq-value.it u.kind v.kind && bytes_eq u.text v.text) && same_tree u.selector v.selector) && option_eq same_port u.port v.port

-- the use is this one
abbrev pub is_use : SetUse → Option SetUse → Bool
is_use u None = false
is_use u (Some v) = same_use v u

-- what tells a set apart from others
abbrev pub use_key : SetUse → List ℕ
use_key u = kind_letter u.kind ++ u.text

abbrev pub has_key : List ℕ → SetUse → Bool
has_key key u = same_text key (use_key u)

-- how many of these uses pass a test
abbrev pub times : (SetUse → Bool) → List SetUse → ℕ
times p [] = 0
times p (u ∷ us) = cond (p u) 1 0 + times p us

-- ---- counts, by keys

abbrev pub Counts : Type 0
Counts = maps.FinMap (slice_cmp nat_cmp) ℕ

abbrev pub count_at : Counts → List ℕ → ℕ
count_at counts key = unwrap_or (maps.get counts key) 0

-- with this count, which isn't kept where it is none
abbrev pub with_count : Counts → List ℕ → ℕ → Counts
with_count counts key n = cond (n == 0) (maps.remove counts key) (maps.insert counts key n)

-- ---- which uses stay

abbrev pub key_entry : SetUse → List ℕ × SetUse
key_entry u = (use_key u, u)

-- the first of these uses for each key
abbrev pub by_key : List SetUse → Uses
by_key us = filled maps.empty (map key_entry us)

-- the use is that one of these
abbrev pub is_among : List SetUse → SetUse → Bool
is_among us u = is_use u (maps.get (by_key us) (use_key u))
