-- Resources of which there are none can be served.
use Rattle.std.proofs.Common.{◌≡◌, ℕ, List, true, refl}
use Rattle.std.specs.Ordering.{nat_cmp}
use Rattle.std.specs.Cmp.Lexicographic.{slice_cmp}
use Rattle.fx_base.proofs.Entries.{entries-empty}
use Rattle.fx_names.specs.Digests.{Digest}
use Rattle.fx_model.specs.Formed.{are_formed, have_workload_interfaces}
use Rattle.fx_model.specs.Resources.{empty_resources}
use Rattle.fx_model.specs.ViewPolicy.{IsServable}
use Rattle.fx_model.specs.contracts.ids.ItemKeyOrd.TheImpl as item_cmp
use Rattle.fx_model.specs.contracts.ids.PolicyIdOrd.TheImpl as policy_cmp
use Rattle.fx_laws.proofs.ClaimsApart.{clash_free_none}

none-formed : (node : List ℕ) → are_formed (empty_resources node) ≡ true
none-formed node = rw (entries-empty item_cmp.cmp-value.it, entries-empty (slice_cmp nat_cmp), entries-empty policy_cmp.cmp-value.it) refl

none-on_workloads : (node : List ℕ) → have_workload_interfaces (empty_resources node) ≡ true
none-on_workloads node = rw (entries-empty item_cmp.cmp-value.it) refl

pub none-servable : (dg : Digest) (node : List ℕ) → IsServable dg (empty_resources node)
none-servable dg node = record {
  formed = none-formed node;
  clash_free = clash_free_none dg (empty_resources node) refl refl refl;
  on_workloads = none-on_workloads node;
}
