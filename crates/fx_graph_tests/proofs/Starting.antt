-- Resources of which there are none are formed.
use Rattle.std.proofs.Common.{◌≡◌, ℕ, List, true, refl}
use Rattle.std.specs.Ordering.{nat_cmp}
use Rattle.std.specs.Cmp.Lexicographic.{slice_cmp}
use Rattle.fx_base.proofs.Entries.{entries-empty}
use Rattle.fx_model.specs.Formed.{are_formed}
use Rattle.fx_model.specs.Resources.{empty_resources}
use Rattle.fx_model.specs.contracts.ids.ItemKeyOrd.TheImpl as item_cmp
use Rattle.fx_model.specs.contracts.ids.PolicyIdOrd.TheImpl as policy_cmp

pub none-formed : (node : List ℕ) → are_formed (empty_resources node) ≡ true
none-formed node = rw (entries-empty item_cmp.cmp-value.it, entries-empty (slice_cmp nat_cmp), entries-empty policy_cmp.cmp-value.it) refl
