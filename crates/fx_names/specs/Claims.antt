-- Claims on names, and which of them clash.
use Rattle.std.specs.Prelude.{ℕ, ◌+◌, List, [], ◌∷◌, ◌++◌, Bool, ◌&&◌, not, cond, Option, Some, None}
use Rattle.std.specs.Str.{bytes_eq}
use Rattle.fx_base.specs.declared.kernel_name.KernelName.{KernelName}
use Rattle.fx_base.specs.contracts.kernel_name.KernelNamePartialEq.TheImpl.{eq-value}
use Rattle.fx_names.specs.declared.claim.Claim.{Claim}

abbrev pub same_name : KernelName → KernelName → Bool
same_name a b = eq-value.it a b

abbrev pub is_same : Claim → Claim → Bool
is_same c d = same_name c.name d.name && bytes_eq c.holder d.holder

-- claims clash where their names are one and their holders aren't
abbrev pub clashes : Claim → Claim → Bool
clashes c d = same_name c.name d.name && not (bytes_eq c.holder d.holder)

-- how often a claim is among these
abbrev pub times : Claim → List Claim → ℕ
times c [] = 0
times c (d ∷ ds) = cond (is_same c d) 1 0 + times c ds

-- who else holds a claim's name: the holder of the first of these claims that clashes with it
abbrev pub other_holder : List Claim → Claim → Option (List ℕ)
other_holder [] c = None
other_holder (d ∷ ds) c = cond (clashes c d) (Some d.holder) (other_holder ds c)

pub record Clash : Type 0 where
  pub name : KernelName
  pub holder : List ℕ

-- the first of the new claims that clashes with one that is held or with a new one before it: its name, and the other holder
abbrev pub first_clash : List Claim → List Claim → Option Clash
first_clash held [] = None
first_clash held (c ∷ cs) = elim (other_holder held c) [
  | Some holder ↦ Some (record { name = c.name; holder = holder })
  | None ↦ first_clash (held ++ c ∷ []) cs
]
