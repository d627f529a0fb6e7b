-- The names of own sets and chains. From Felix: its sets begin with `cali40` and its chains with `cali-`. By iptables(8) a chain's
-- name has at most 28 bytes, and by ipset(8) a set's name 31; a set's has the base64url bytes of RFC 4648, section 5, behind its kind.
use Rattle.std.specs.Prelude.{ℕ, List, Bool, ◌&&◌, ◌||◌, not, ◌==◌, nat_le, nat_eq, length, drop, codes}
use Rattle.std.specs.List.{starts_with, list_all}
use Rattle.std.specs.Str.{bytes_eq}
use Rattle.fx_base.specs.SetName.{head_of}
use Rattle.fx_base.specs.declared.set_name.SetKind.TheVariants.{Nets, Ports}
use Rattle.fx_model.specs.Tables.{ChainName, forward}

abbrev pub is_between : ℕ → ℕ → ℕ → Bool
is_between low high c = nat_le low c && nat_le c high

-- letters and digits
abbrev pub is_letter : ℕ → Bool
is_letter c = is_between 97 122 c || is_between 65 90 c || is_between 48 57 c

-- `-` and `_` beside them
abbrev pub is_tail_byte : ℕ → Bool
is_tail_byte c = is_letter c || (c == 45) || (c == 95)

-- `_`, `-`, `.` and `/` beside them
abbrev pub is_chain_byte : ℕ → Bool
is_chain_byte c = is_letter c || (c == 95) || is_between 45 47 c

-- ---- sets

abbrev pub is_own_set : List ℕ → Bool
is_own_set name = starts_with nat_eq name (codes "cali40")

abbrev pub has_kind : List ℕ → Bool
has_kind name = starts_with nat_eq name (head_of Nets) || starts_with nat_eq name (head_of Ports)

-- a kind, and 23 bytes
abbrev pub is_set_name : List ℕ → Bool
is_set_name name = has_kind name && (nat_eq (length name) 31 && list_all is_tail_byte (drop 8 name))

-- ---- chains

abbrev pub is_own_chain : ChainName → Bool
is_own_chain name = starts_with nat_eq name (codes "cali-")

abbrev pub is_chain_name : ChainName → Bool
is_chain_name name = is_between 1 28 (length name) && list_all is_chain_byte name

-- the words of iptables(8) and iptables-extensions(8) that stand where a chain's name does
abbrev pub is_target_word : List ℕ → Bool
is_target_word name =
    bytes_eq name (codes "ACCEPT") || (bytes_eq name (codes "DROP") || (bytes_eq name (codes "RETURN") || (bytes_eq name (codes "MARK") || bytes_eq name (codes "LOG"))))

-- a chain that a rule may lead to
abbrev pub is_target_name : ChainName → Bool
is_target_name name = is_chain_name name && not (is_target_word name)

-- ---- words of foreign rules

-- the name of an own set or chain, but for the first chain, to which the kernel's hook leads
abbrev pub is_own_word : List ℕ → Bool
is_own_word word = (is_own_set word || is_own_chain word) && not (bytes_eq word forward)
