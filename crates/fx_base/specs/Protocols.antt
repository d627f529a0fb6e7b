-- Names of protocols, as Calico's policies write them, and their numbers in IANA's list of protocol numbers.
-- Sources: Calico's resource reference, GlobalNetworkPolicy, "Protocol"; IANA, Assigned Internet Protocol Numbers.
use Rattle.std.specs.Prelude.{◌≡◌, ◌⊎◌, ℕ, List, [], ◌∷◌, Result, Ok, Err, max, codes}
use Rattle.std.specs.Str.{str_to_ascii_lowercase}

-- the text of this name, in any case of ASCII's letters, with its number
abbrev pub IsNamed : List ℕ → ℕ → List ℕ → ℕ → Type 0
IsNamed name number text value = (str_to_ascii_lowercase text ≡ name) × (value ≡ number)

-- the text of some name of a table
abbrev pub IsNamedIn : List (List ℕ × ℕ) → List ℕ → ℕ → Type 0
IsNamedIn [] text value = ⊥
IsNamedIn (entry ∷ table) text value = IsNamed entry.0 entry.1 text value ⊎ IsNamedIn table text value

abbrev pub protocols : List (List ℕ × ℕ)
protocols = (codes "icmp", 1) ∷ (codes "icmpv6", 58) ∷ (codes "tcp", 6) ∷ (codes "udp", 17) ∷ (codes "sctp", 132) ∷ (codes "udplite", 136) ∷ []

-- the text of a protocol's name, with its number
abbrev pub IsProtocol : List ℕ → ℕ → Type 0
IsProtocol = IsNamedIn protocols

-- of two answers the one that is a value, or else the farther place
abbrev pub farther : Result ℕ ℕ → Result ℕ ℕ → Result ℕ ℕ
farther (Ok number) second = Ok number
farther (Err at) (Ok number) = Ok number
farther (Err at) (Err further) = Err (max at further)
