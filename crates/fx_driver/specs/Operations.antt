-- How many single operations on the tables a message takes.
use Rattle.std.specs.Prelude.{◌≡◌, ◌≤◌, ◌+◌, ℕ, List, length}
use Rattle.std.specs.FinMap as maps
use Rattle.fx_base.specs.Ticks.{ticked}
use Rattle.fx_model.specs.declared.view.View.{View}
use Rattle.fx_model.specs.Messages.{Change, SetAdd, SetDelta, PolicyPut, ProfilePut, EndpointPut, EndpointGone, ProfileGone, PolicyGone, SetGone, step}
use Rattle.fx_model.specs.Tables.{ChainName, Chains}
use Rattle.fx_model.specs.Tree.{tree_of}
use Rattle.fx_dispatch.specs.Plans.{DifferAt}
use Rattle.fx_driver.specs.declared.driver.Driver.{Driver}
use Rattle.fx_driver.specs.Stepping.{IsStep}
use Rattle.fx_driver.specs.Drives.{Drives}

-- the operations on the set or the chains that a message speaks of: a set is created or destroyed, each member comes or goes, and
-- of a policy, a profile or an endpoint a chain for each direction is written or deleted
abbrev pub own_operations : Change → ℕ
own_operations (SetAdd name members) = 1 + length members
own_operations (SetDelta name adds removes) = length adds + length removes
own_operations (PolicyPut key policy) = 2
own_operations (ProfilePut key profile) = 2
own_operations (EndpointPut iface endpoint) = 2
own_operations (EndpointGone iface) = 2
own_operations (ProfileGone key) = 2
own_operations (PolicyGone key) = 2
own_operations (SetGone name) = 1

-- the chains by which a packet finds its interface's endpoint
abbrev pub dispatch_chains : View → Chains
dispatch_chains v = tree_of (maps.keys v.endpoints)

-- from one view to the next a message takes so many operations: its own, and one for each dispatch chain that differs
abbrev pub Takes : Change → View → View → ℕ → Type 0
Takes change before after n =
    (differing : List ChainName) × (DifferAt (dispatch_chains before) (dispatch_chains after) differing × (n ≡ own_operations change + length differing))

-- whichever these views are, so many operations were counted as the change takes
abbrev pub Costs : Driver → Change → ℕ → ℕ → Type 0
Costs driver change old new =
    (sent now : View) → Drives driver sent → IsStep sent now change → (n : ℕ) × (Takes change sent (step sent now) n × (new ≡ ticked n old))

-- or fewer
abbrev pub CostsAtMost : Driver → Change → ℕ → ℕ → Type 0
CostsAtMost driver change old new =
    (sent now : View) → Drives driver sent → IsStep sent now change → (n : ℕ) × (Takes change sent (step sent now) n × (new ≤ old + n))
