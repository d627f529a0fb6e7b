-- There is no message exactly where the views are equal.
use Rattle.std.proofs.Common.{◌≡◌, Option, Some, None, IsNone, option_map, refl, sym, ap, ◌∙◌}
use Rattle.fx_model.specs.declared.message.Message.{Message}
use Rattle.fx_model.specs.declared.view.View.{View}
use Rattle.fx_model.specs.Lent.{change_of}
use Rattle.fx_model.specs.Messages.{next_message}
use Rattle.fx_laws.proofs.Nearer.{no_message, nothing_to_send}

pub equal_if_silent : (next : Option Message) (s w : View) → option_map change_of next ≡ next_message s w → IsNone next → s ≡ w
equal_if_silent None s w is none = no_message s w (sym is)
equal_if_silent (Some message) s w is none = cc

-- from a view to itself there is none
none_between_equal : (s w : View) → s ≡ w → next_message s w ≡ None
none_between_equal s w same = ap (λ (v : View). next_message v w) same ∙ nothing_to_send w

pub silent_if_equal : (next : Option Message) (s w : View) → option_map change_of next ≡ next_message s w → s ≡ w → IsNone next
silent_if_equal None s w is same = refl
silent_if_equal (Some message) s w is same = let none = is ∙ none_between_equal s w same in cc
