-- The inputs of nodes that were given nothing.
use Rattle.std.specs.FinMap as map
use Rattle.fx_base.specs.Set as set
use Rattle.fx_label_index.specs.declared.held.Inputs as index
use Rattle.fx_active.specs.declared.inputs.Inputs as active
use Rattle.fx_scanner.specs.declared.inputs.Inputs as scanner
use Rattle.fx_resolver.specs.declared.inputs.Inputs as resolver
use Rattle.fx_members.specs.declared.inputs.Inputs as members

-- of the label index
abbrev pub no_items : index.Inputs
no_items = record { items = map.empty; parents = map.empty; selectors = map.empty }

-- of the active rules
abbrev pub no_rules : active.Inputs
no_rules = record { policies = map.empty; profiles = map.empty; endpoints = map.empty; matched = set.empty }

-- of the scanner
abbrev pub no_active : scanner.Inputs
no_active = record { policies = map.empty; profiles = map.empty }

-- of the resolver
abbrev pub no_endpoints : resolver.Inputs
no_endpoints = record { tiers = map.empty; policies = map.empty; endpoints = map.empty; pairs = set.empty }

-- of the members
abbrev pub no_sets : members.Inputs
no_sets = record { uses = map.empty; items = map.empty; matched = set.empty }
