-- A flush without a limit ends at the wanted view, and each sent view on the way of any flush is as the two views are.
use Rattle.std.proofs.Common.{◌≡◌, ℕ, zero, suc, ◌+◌, true, List, [], ◌∷◌, Option, Some, None, refl, sym, ap, ◌∙◌, subst, arith}
use Rattle.std.specs.List.{AllByRecursion}
use Rattle.fx_model.specs.declared.view.View.{View}
use Rattle.fx_model.specs.Messages.{Change, next_message, step_at, differences, messages, messages_from, limit_or_all, flush, sent_after, sent_views}
use Rattle.fx_model.specs.Closed.{IsClosedView}
use Rattle.fx_model.specs.Formed.{is_formed_view, has_workload_interfaces}
use Rattle.fx_model.specs.Shapes.{AreOfKinds}
use Rattle.fx_laws.proofs.Nearer.{no_message, step-nearer}
use Rattle.fx_laws.proofs.StepClosed.{step-closed}
use Rattle.fx_laws.proofs.StepFormed.{step-formed, step-on-workloads, step-of-kinds}

no_messages : (n : ℕ) (s w : View) → next_message s w ≡ None → messages n s w ≡ []
unfolding messages
no_messages zero s w none = refl
no_messages (suc n) s w none = ap (λ o. messages_from (λ after. messages n after w) o s w) none

first_message : (n : ℕ) (s w : View) (c : Change) → next_message s w ≡ Some c → messages (suc n) s w ≡ c ∷ messages n (step_at c s w) w
unfolding messages
first_message n s w c is = ap (λ o. messages_from (λ after. messages n after w) o s w) is

none_allowed : (s w : View) → messages zero s w ≡ []
unfolding messages
none_allowed s w = refl

one_more : (m n : ℕ) → n + 1 ≡ m → m ≡ suc n
one_more m n e = omega arith

-- nothing is left to tell
pub flush-none : (s w : View) → next_message s w ≡ None → (flush None s w).messages ≡ []
flush-none s w none = no_messages (differences s w) s w none

-- the next message comes first
pub flush-some : (s w : View) (c : Change) → next_message s w ≡ Some c → (flush None s w).messages ≡ c ∷ (flush None (step_at c s w) w).messages
flush-some s w c is =
    let rest = differences (step_at c s w) w in
    ap (λ n. messages n s w) (one_more (differences s w) rest (step-nearer s w c is)) ∙ first_message rest s w c is

module _ (w : View) (P : View → Type 0) (at_end : (s : View) → next_message s w ≡ None → P s) (at_step : (s : View) (c : Change) → next_message s w ≡ Some c → P (step_at c s w) → P s) where
  next_from : (n : ℕ) → ((t : View) → differences t w + 1 ≡ n → P t) → (s : View) → differences s w ≡ n → P s
  next_from n later s e =
      elim (next_message s w) as (λ o. next_message s w ≡ o → P s) [
        | None ↦ λ is. at_end s is
        | Some c ↦ λ is. at_step s c is (later (step_at c s w) (step-nearer s w c is ∙ e))
      ] refl

  from_end : (n : ℕ) (s : View) → differences s w ≡ n → P s
  from_end zero s e = next_from zero (λ t h. absurd (omega arith)) s e
  from_end (suc n) s e = next_from (suc n) (λ t h. from_end n t (omega arith)) s e

  -- what holds at the end, and before a message where it holds after it, holds from the start
  pub by_messages : (s : View) → P s
  by_messages s = from_end (differences s w) s refl

end_here : (s w : View) → next_message s w ≡ None → (flush None s w).ends ≡ w
unfolding sent_after
end_here s w none = ap (λ cs. sent_after cs s w) (flush-none s w none) ∙ no_message s w none

end_later : (s w : View) (c : Change) → next_message s w ≡ Some c → (flush None (step_at c s w) w).ends ≡ w → (flush None s w).ends ≡ w
unfolding sent_after
end_later s w c is later = ap (λ cs. sent_after cs s w) (flush-some s w c is) ∙ later

-- without a limit a flush ends at the wanted view
pub flush-ends : (s w : View) → (flush None s w).ends ≡ w
flush-ends s w = by_messages w (λ t. (flush None t w).ends ≡ w) (λ t none. end_here t w none) (λ t c is later. end_later t w c is later) s

module _ (w : View) (P : View → Type 0) (keeps : (s : View) (c : Change) → P s → next_message s w ≡ Some c → P (step_at c s w)) where
  abbrev AllSent : List Change → View → Type 0
  AllSent cs s = AllByRecursion P (sent_views cs s w)

  nothing_sent : (s : View) → AllSent [] s
  unfolding sent_views
  nothing_sent s = tt

  one_sent : (s : View) (c : Change) (cs : List Change) → P (step_at c s w) → AllSent cs (step_at c s w) → AllSent (c ∷ cs) s
  unfolding sent_views
  one_sent s c cs first rest = (first, rest)

  messages-keep : (n : ℕ) (s : View) → P s → AllSent (messages n s w) s
  messages-keep zero s holds = subst (λ cs. AllSent cs s) (sym (none_allowed s w)) (nothing_sent s)
  messages-keep (suc n) s holds =
      elim (next_message s w) as (λ o. next_message s w ≡ o → AllSent (messages (suc n) s w) s) [
        | None ↦ λ none. subst (λ cs. AllSent cs s) (sym (no_messages (suc n) s w none)) (nothing_sent s)
        | Some c ↦ λ is.
            let after = keeps s c holds is in
            subst (λ cs. AllSent cs s) (sym (first_message n s w c is)) (one_sent s c (messages n (step_at c s w) w) after (messages-keep n (step_at c s w) after))
      ] refl

  -- what each message keeps holds of each view on the way of a flush, whatever its limit
  pub flush-keeps : (limit : Option ℕ) (s : View) → P s → AllByRecursion P (sent_views (flush limit s w).messages s w)
  flush-keeps limit s holds = messages-keep (limit_or_all limit s w) s holds

pub flush-closed : (limit : Option ℕ) (s w : View) → IsClosedView s → IsClosedView w → AllByRecursion IsClosedView (sent_views (flush limit s w).messages s w)
flush-closed limit s w closed aim = flush-keeps w IsClosedView (λ t c h is. step-closed t w h aim c is) limit s closed

pub flush-formed : (limit : Option ℕ) (s w : View) → is_formed_view s ≡ true → is_formed_view w ≡ true → AllByRecursion (λ v. is_formed_view v ≡ true) (sent_views (flush limit s w).messages s w)
flush-formed limit s w was aim = flush-keeps w (λ v. is_formed_view v ≡ true) (λ t c h is. step-formed t w c h aim) limit s was

pub flush-on-workloads : (limit : Option ℕ) (s w : View) → has_workload_interfaces s ≡ true → has_workload_interfaces w ≡ true → AllByRecursion (λ v. has_workload_interfaces v ≡ true) (sent_views (flush limit s w).messages s w)
flush-on-workloads limit s w was aim = flush-keeps w (λ v. has_workload_interfaces v ≡ true) (λ t c h is. step-on-workloads t w c h aim) limit s was

pub flush-of-kinds : (limit : Option ℕ) (s w : View) → AreOfKinds s.sets → AreOfKinds w.sets → AllByRecursion (λ v. AreOfKinds v.sets) (sent_views (flush limit s w).messages s w)
flush-of-kinds limit s w was aim = flush-keeps w (λ v. AreOfKinds v.sets) (λ t c h is. step-of-kinds t w c h aim) limit s was
