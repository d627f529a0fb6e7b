-- What a selector needs of the labels that it holds on: a label, and maybe one of some values.
-- From the Calico resource reference, "Selectors": all of these forms are false where the label is absent.
use Rattle.std.specs.Prelude.{ℕ, Bool, true, false, cond, List, [], ◌∷◌, Option, Some, None, is_some}
use Rattle.std.specs.Option.{option_or, option_copied}
use Rattle.std.specs.FinMap as map
use Rattle.fx_selector.specs.Tree.{Tree, Trees, has, equal, within, contains, starts, ends, each, none, more}
use Rattle.fx_selector.specs.Truth.{LabelMap, is_among}
use Rattle.fx_selector.specs.declared.needs.Requirement.{Requirement}

-- a key and, where the value counts, the values of which one has to be there
pub record Need : Type 0 where
  pub key : List ℕ
  pub values : Option (List (List ℕ))

abbrev pub has_values : Option Need → Bool
has_values None = false
has_values (Some n) = is_some n.values

-- the one, if it names values, else the other
abbrev pub valued_or : Option Need → Option Need → Option Need
valued_or n others = cond (has_values n) n others

abbrev mutual
  -- an And needs what its first operand with values needs, else what its first operand with a need needs
  pub needed : Tree → Option Need
  needed (equal k v) = Some (record { key = k; values = Some (v ∷ []) })
  needed (within k vs) = Some (record { key = k; values = Some vs })
  needed (has k) = Some (record { key = k; values = None })
  needed (contains k v) = Some (record { key = k; values = None })
  needed (starts k v) = Some (record { key = k; values = None })
  needed (ends k v) = Some (record { key = k; values = None })
  needed (each ts) = option_or (needed_with_values ts) (needed_first ts)
  needed _ = None

  -- what the first operand with values needs
  pub needed_with_values : Trees → Option Need
  needed_with_values none = None
  needed_with_values (more t ts) = valued_or (needed t) (needed_with_values ts)

  -- what the first operand with a need needs
  pub needed_first : Trees → Option Need
  needed_first none = None
  needed_first (more t ts) = option_or (needed t) (needed_first ts)

-- a label that is there, or is absent, has one of the values, if values are given
abbrev pub has_one : Option (List (List ℕ)) → Option (List ℕ) → Bool
has_one values None = false
has_one None (Some x) = true
has_one (Some vs) (Some x) = is_among vs x

-- labels meet a need
abbrev pub meets : Option Need → LabelMap → Bool
meets None m = true
meets (Some n) m = has_one n.values (map.get m n.key)

-- ---- as the code has it
abbrev pub need_in : Option Requirement → Option Need
need_in None = None
need_in (Some r) = Some (record { key = r.key.now; values = option_copied r.values })

-- what an And needs whose earlier operands, none of them with values, need this first
abbrev pub needed_from : Option Need → Trees → Option Need
needed_from found ts = option_or (needed_with_values ts) (option_or found (needed_first ts))
