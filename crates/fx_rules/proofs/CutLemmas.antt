-- How lists of ports are cut.
use Rattle.std.proofs.Common.{◌≡◌, ℕ, ◌-◌, true, false, nat_le, List, [], ◌∷◌, refl}
use Rattle.fx_base.specs.declared.net.PortRange.{PortRange}
use Rattle.fx_model.specs.Rendering.{slots_of, onto_first, lists_from}
use Rattle.fx_rules.specs.Cuts.{before_first}

before_first-onto : (r : PortRange) (lists : List (List PortRange)) → before_first [] (onto_first r lists) ≡ onto_first r lists
before_first-onto r [] = refl
before_first-onto r (c ∷ cs) = refl

-- no ranges before those of the first list change nothing
pub before_first_none : (room : ℕ) (rs : List PortRange) → before_first [] (lists_from room rs) ≡ lists_from room rs
before_first_none room [] = refl
before_first_none room (r ∷ rs) =
    elim (nat_le (slots_of r) room) as (λ fits.
    before_first [] (elim fits [ true ↦ onto_first r (lists_from (room - slots_of r) rs) | false ↦ [] ∷ onto_first r (lists_from (15 - slots_of r) rs) ])
    ≡ elim fits [ true ↦ onto_first r (lists_from (room - slots_of r) rs) | false ↦ [] ∷ onto_first r (lists_from (15 - slots_of r) rs) ]) [
      | true ↦ before_first-onto r (lists_from (room - slots_of r) rs)
      | false ↦ refl
    ]
