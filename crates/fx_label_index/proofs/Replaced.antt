-- The state that a call takes out has the inputs of the index.
use Rattle.std.proofs.Common.{◌≡◌, ap, ◌∙◌}
use Rattle.fx_label_index.specs.declared.held.Inputs.{Inputs}
use Rattle.fx_label_index.specs.declared.state.State.{State}

pub inputs_then : {n : Inputs} {s t : State} → s.inputs ≡ n → t ≡ s → t.inputs ≡ n
inputs_then is same = ap (λ (u : State). u.inputs) same ∙ is
