-- Whose chains stand in the tables. The names of the first chain and of dispatch chains, and the prefixes of the others, are Felix's.
use Rattle.std.specs.Prelude.{◌≡◌, ◌⊎◌, ◌<◌, ℕ, List, Bool, true, ◌||◌}
use Rattle.std.specs.Str.{bytes_eq}
use Rattle.fx_base.specs.declared.kernel_name.KernelName.TheVariants.{Chain}
use Rattle.fx_names.specs.Digests.{Digest}
use Rattle.fx_names.specs.Claims.{times}
use Rattle.fx_model.specs.declared.resources.Resources.{Resources}
use Rattle.fx_model.specs.Claims.{all_claims}
use Rattle.fx_model.specs.Ranks.{is_root, is_child}
use Rattle.fx_model.specs.Tables.{ChainName, forward}

-- the first chain, the two roots that it leads to, and the chains of bytes that these lead to
abbrev pub is_fixed_chain : ChainName → Bool
is_fixed_chain name = bytes_eq name forward || (is_root name || is_child name)

-- some resource claims the chain
abbrev pub IsClaimedChain : Digest → Resources → ChainName → Type 0
IsClaimedChain dg R name = (holder : List ℕ) × (0 < times (record { name = Chain name; holder = holder }) (all_claims dg R))

-- the first chain, a chain of dispatch, or one that some resource claims
abbrev pub IsFixedOrClaimed : Digest → Resources → ChainName → Type 0
IsFixedOrClaimed dg R name = (is_fixed_chain name ≡ true) ⊎ IsClaimedChain dg R name
