-- What contracts see of an agent.
use Rattle.std.specs.Prelude.{Bool, refl}
use Rattle.std.specs.Coded.{Coded, code_by, coded×, coded_bool}
use Rattle.fx_model.specs.declared.resources.Resources.{Resources}
use Rattle.fx_model.specs.declared.view.View.{View}
use Rattle.fx_model.specs.Tables.{Tables}

-- The resources, the view that was sent, the tables, and whether memory has run out. Until it has, the view that is wanted is that of
-- the resources.
pub record AgentState : Type 0 where
  pub resources : Resources
  pub sent : View
  pub tables : Tables
  pub failed : Bool

-- an agent is stored as the tuple of these
abbrev pub agent_code : Coded Resources → Coded View → Coded Tables → Coded AgentState
agent_code resources view tables =
    code_by (Resources × (View × (Tables × Bool))) (coded× resources (coded× view (coded× tables coded_bool)))
    (λ a. (a.resources, (a.sent, (a.tables, a.failed))))
    (λ p. record { resources = p.0; sent = p.1.0; tables = p.1.1.0; failed = p.1.1.1 }) (λ _. refl)
