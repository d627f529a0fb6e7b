-- What contracts see of an engine.
use Rattle.std.specs.Prelude.{Bool, refl}
use Rattle.std.specs.Coded.{Coded, code_by, coded×, coded_bool}
use Rattle.fx_model.specs.declared.resources.Resources.{Resources}
use Rattle.fx_model.specs.declared.view.View.{View}

-- The resources, the view that was sent, and whether memory has run out. Until it has, the view that is wanted is that of the resources.
pub record EngineState : Type 0 where
  pub resources : Resources
  pub sent : View
  pub failed : Bool

-- an engine is stored as the tuple of these
abbrev pub engine_code : Coded Resources → Coded View → Coded EngineState
engine_code resources view =
    code_by (Resources × (View × Bool)) (coded× resources (coded× view coded_bool)) (λ e. (e.resources, (e.sent, e.failed)))
    (λ p. record { resources = p.0; sent = p.1.0; failed = p.1.1 }) (λ _. refl)
