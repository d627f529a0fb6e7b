-- Texts of ports as the policies of Calico write them: `80`, or `1000:2000` for a range with both its ends.
-- Source: Calico's resource reference, GlobalNetworkPolicy, "Ports".
use Rattle.std.specs.Prelude.{◌≡◌, ℕ, List}
use Rattle.fx_base.specs.Forms.{IsOptional, NumberThen}

-- what may follow the lower end, 58 being `:`: nothing, where it is the upper end too, or an end that isn't below it
abbrev pub UpperEnd : ℕ → List ℕ → ℕ × ℕ → Type 0
UpperEnd low rest ports = (ports.0 ≡ low) × IsOptional low 58 low 65535 rest ports.1

-- the text of these ports, the lower end and the upper
abbrev pub IsPortRange : List ℕ → ℕ × ℕ → Type 0
IsPortRange = NumberThen 0 65535 UpperEnd
