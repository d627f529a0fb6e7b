-- The tests between the index's inputs before an update and those after it are no more than the update calls for at most, and no fewer
-- than at least.
use Rattle.std.proofs.Common.{◌≤◌}
use Rattle.fx_names.specs.Digests.{Digest}
use Rattle.fx_model.specs.declared.resources.Resources.{Resources}
use Rattle.fx_model.specs.declared.resources.Update.{Update}
use Rattle.fx_model.specs.declared.view.View.{View}
use Rattle.fx_model.specs.Pairs.{PolicyPairs}
use Rattle.fx_model.specs.Resources.{after}
use Rattle.fx_model.specs.Sinks.{Policies, Profiles, Uses}
use Rattle.fx_model.specs.Tests.{most_tests, least_tests}
use Rattle.fx_label_index.specs.declared.held.Inputs as index
use Rattle.fx_label_index.specs.Tested.{most_between, least_between}
use Rattle.fx_active.specs.declared.inputs.Inputs as active
use Rattle.fx_scanner.specs.declared.inputs.Inputs as scanner
use Rattle.fx_resolver.specs.declared.inputs.Inputs as resolver
use Rattle.fx_members.specs.declared.inputs.Inputs as members
use Rattle.fx_node_laws.specs.Counted.{CountsUsed}
use Rattle.fx_node_laws.specs.Tied.{IsTied}
use Rattle.fx_node_laws.specs.Told.{IsTold}
use Rattle.fx_node_laws.proofs.Items.{labels_held, labels_known}
use Rattle.fx_node_laws.proofs.ListedItems.{items_found, held_listed}
use Rattle.fx_node_laws.proofs.LiveSelectors.{known_alike, live_entries}
use Rattle.fx_node_laws.proofs.TestSums.{most_are, least_are}

module _ {dg : Digest} {R : Resources} (u : Update)
    {n : index.Inputs} {a : active.Inputs} {r : resolver.Inputs} {m : members.Inputs} {policies : Policies} {profiles : Profiles} {pairs : PolicyPairs} {s : scanner.Inputs} {v : View} {uses : Uses}
    {n_now : index.Inputs} {a_now : active.Inputs} {r_now : resolver.Inputs} {m_now : members.Inputs} {policies_now : Policies} {profiles_now : Profiles} {pairs_now : PolicyPairs} {s_now : scanner.Inputs} {v_now : View} {uses_now : Uses}
    (tied : IsTied dg R n a r m) (told : IsTold dg n a policies profiles pairs s r m v uses) (counts : CountsUsed n.selectors a.policies uses)
    (tied_now : IsTied dg (after R u) n_now a_now r_now m_now) (told_now : IsTold dg n_now a_now policies_now profiles_now pairs_now s_now r_now m_now v_now uses_now) (counts_now : CountsUsed n_now.selectors a_now.policies uses_now) where
  pub most_of_update : most_between n n_now ≤ most_tests R u
  most_of_update = most_are R u n n_now (labels_known tied) (labels_held tied_now) (held_listed tied_now) (items_found tied_now) (live_entries tied told counts) (live_entries tied_now told_now counts_now) (known_alike tied told counts)

  pub least_of_update : least_tests R u ≤ least_between n n_now
  least_of_update = least_are R u n n_now (labels_known tied) (labels_held tied_now) (held_listed tied_now) (items_found tied_now) (live_entries tied told counts) (live_entries tied_now told_now counts_now) (known_alike tied told counts)
