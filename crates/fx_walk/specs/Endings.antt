-- What the rendered rules of a policy or a profile come to, against what the rules say.
use Rattle.std.specs.Prelude.{◌≡◌, ℕ, true, false, List, [], ◌∷◌}
use Rattle.std.specs.Int.{bit_at}
use Rattle.std.specs.List.{list_all}
use Rattle.std.specs.Str.{bytes_eq}
use Rattle.fx_model.specs.declared.packet.Packet.{Packet}
use Rattle.fx_model.specs.declared.rules.Action.{Action}
use Rattle.fx_model.specs.declared.rules.Action.TheVariants as action
use Rattle.fx_model.specs.declared.chain.Reason.{Reason}
use Rattle.fx_model.specs.declared.view_rule.ViewRule.{ViewRule}
use Rattle.fx_model.specs.Formed.{is_formed_view_rule}
use Rattle.fx_model.specs.Tables.{ChainName, Sets, forward}
use Rattle.fx_model.specs.Rendering.{rendered_rules}
use Rattle.fx_model.specs.Machine.{holds, Reasons, with_reason, last_reason}
use Rattle.fx_model.specs.Walk.{Onward, Ended, Dropped, Left, Through, over_rules}
use Rattle.fx_model.specs.Policy.{Answer, Silent, Passed, Allowed, Denied, first_answer}
use Rattle.fx_model.specs.ViewPolicy.{met_view_rules}

-- the accept bit and the pass bit stay
pub record KeepsBits (m n : ℕ) : Type 0 where
  pub accept : bit_at n 16 ≡ bit_at m 16
  pub pass : bit_at n 17 ≡ bit_at m 17

-- A walk from the mark m ends as an answer wants it: it goes on where nothing is said, leaves with the accept bit set where a
-- packet is allowed and with the pass bit alone where it is passed, and else drops it; the reason is that of the rule.
abbrev pub EndsAs : Ended Reasons → ℕ → Reasons → Answer → Type 0
EndsAs e m s Silent = (n : ℕ) × (e ≡ Through n s) × KeepsBits m n
EndsAs e m s (Allowed why) = (n : ℕ) × (e ≡ Left n (with_reason s.side why s)) × (bit_at n 16 ≡ 1)
EndsAs e m s (Denied why) = e ≡ Dropped (with_reason s.side why s)
EndsAs e m s Passed = (n : ℕ) × (w : Reason) × (e ≡ Left n (with_reason s.side w s)) × (bit_at n 16 ≡ 0) × (bit_at n 17 ≡ 1)

-- a rule that passes is met with the pass bit clear
abbrev pub IsClearFor : Action → ℕ → Type 0
IsClearFor action.Allow m = Unit {0}
IsClearFor action.Deny m = Unit {0}
IsClearFor action.Log m = Unit {0}
IsClearFor action.Pass m = bit_at m 17 ≡ 0

abbrev pub AllClearFor : List ViewRule → ℕ → Type 0
AllClearFor [] m = Unit {0}
AllClearFor (r ∷ rs) m = IsClearFor r.action m × AllClearFor rs m

-- in every chain but the first one, for every packet and every mark whose accept bit is clear
abbrev pub RulesEndAsTheySay : Type 0
RulesEndAsTheySay =
    (sets : Sets) (a : Packet) (call : ChainName → Onward Reasons) (c : ChainName) → bytes_eq c forward ≡ false
    → (why : ℕ → Reason) (place : ℕ) (rs : List ViewRule) (p m : ℕ) (s : Reasons) → list_all is_formed_view_rule rs ≡ true → bit_at m 16 ≡ 0 → AllClearFor rs m
    → EndsAs (over_rules last_reason (holds sets a) call c p (rendered_rules why place rs) m s) m s (first_answer (met_view_rules sets a why place rs))
