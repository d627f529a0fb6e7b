-- The names of chains and sets. A chain's name has at most 28 bytes, as iptables(8) bounds it, and a set's has 31, as ipset(8)
-- does. A name that is too long has a digest in its place, in the base64url text of RFC 4648, section 5, without padding.
use Rattle.std.specs.Prelude.{ℕ, ◌-◌, List, ◌∷◌, ◌++◌, Bool, ◌&&◌, ◌||◌, ◌==◌, not, nat_lt, length, take, slice_index, codes, if◌then◌else◌}
use Rattle.base64.specs.Engines.{url_safe_no_pad}
use Rattle.base64.specs.GeneralPurpose.{encode_of}
use Rattle.fx_base.specs.SetName.{set_name_text}
use Rattle.fx_base.specs.declared.set_name.SetKind.{SetKind}
use Rattle.fx_names.specs.Digests.{Digest}
use Rattle.fx_names.specs.declared.prefix.Prefix.{Prefix}
use Rattle.fx_names.specs.declared.prefix.Prefix.TheVariants.{PolicyIn, PolicyOut, ProfileIn, ProfileOut, ToEndpoint, FromEndpoint}

abbrev pub prefix_text : Prefix → List ℕ
prefix_text PolicyIn = codes "cali-pi-"
prefix_text PolicyOut = codes "cali-po-"
prefix_text ProfileIn = codes "cali-pri-"
prefix_text ProfileOut = codes "cali-pro-"
prefix_text ToEndpoint = codes "cali-tw-"
prefix_text FromEndpoint = codes "cali-fw-"

-- what a chain's name has behind its prefix at most
abbrev pub room : Prefix → ℕ
room p = 28 - length (prefix_text p)

-- the digest's text
abbrev pub digest_text : Digest → List ℕ → List ℕ
digest_text dg text = encode_of url_safe_no_pad (dg text)

-- `_` and a prefix of the digest's text, n bytes in all
abbrev pub shortened : Digest → ℕ → List ℕ → List ℕ
shortened dg n text = 95 ∷ take (n - 1) (digest_text dg text)

-- a suffix that leaves room stands as it is, and one that fills the name does so where it doesn't begin as a shortened one
abbrev pub is_whole : Prefix → List ℕ → Bool
is_whole p s = nat_lt (length s) (room p) || ((length s == room p) && not (slice_index s 0 == 95))

-- what stands behind a chain's prefix
abbrev pub key_of : Digest → Prefix → List ℕ → List ℕ
key_of dg p s = if is_whole p s then s else shortened dg (room p) s

abbrev pub chain_name_of : Digest → Prefix → List ℕ → List ℕ
chain_name_of dg p s = prefix_text p ++ key_of dg p s

-- the name of the set that a text describes
abbrev pub set_name_of : Digest → SetKind → List ℕ → List ℕ
set_name_of dg kind text = set_name_text kind (take 23 (digest_text dg text))
