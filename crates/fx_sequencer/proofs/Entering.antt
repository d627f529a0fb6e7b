-- The sides of a key's entry after each of its changes.
use Rattle.std.proofs.Common.{◌≡◌, Bool, true, false, not, cond, Option, Some, None, is_some, refl, sym, ap}
use Rattle.std.specs.Option.{option_eq}
use Rattle.fx_base.specs.Same.{same_option}
use Rattle.fx_sequencer.specs.Entry.{sent_of, wanted_of, entry_of, is_exact}
use Rattle.fx_sequencer.specs.Pending.{comes}
use Rattle.fx_sequencer.specs.declared.entry.Entry.TheVariants.{Both, Split}

module _ {X : Type 0} where
  -- what is there does not come
  pub there_already : (x : X) (other : Option X) → comes (Some x) other ≡ false
  there_already x None = refl
  there_already x (Some y) = refl

  -- what was sent, and is wanted no more, goes
  pub goes : (sent : Option X) → is_some sent ≡ true → true ≡ comes None sent
  goes None h = cc
  goes (Some x) h = refl

  -- what goes is wanted no more
  pub gone : (wanted sent : Option X) → comes wanted sent ≡ true → wanted ≡ None
  gone wanted None h = cc
  gone None (Some y) h = refl
  gone (Some x) (Some y) h = cc

module _ {X : Type 0} (eq : X → X → Bool) where
  -- one side alone differs from none
  pub lone : (sent : Option X) → is_some sent ≡ true → not (option_eq eq sent None) ≡ true
  lone None h = cc
  lone (Some x) h = refl

  module _ (sent : Option X) (x : X) where
    pub entered_sent : ((a b : X) → eq a b ≡ true → a ≡ b) → sent_of (entry_of eq sent x) ≡ sent
    entered_sent same =
        elim (option_eq eq sent (Some x)) as (λ b. option_eq eq sent (Some x) ≡ b → sent_of (cond b (Both x) (Split sent (Some x))) ≡ sent) [
          | true ↦ λ e. sym (same_option eq same sent (Some x) e)
          | false ↦ λ e. refl
        ] refl

    pub entered_wanted : wanted_of (entry_of eq sent x) ≡ Some x
    entered_wanted =
        elim (option_eq eq sent (Some x)) as (λ b. wanted_of (cond b (Both x) (Split sent (Some x))) ≡ Some x) [ true ↦ refl | false ↦ refl ]

    pub entered_exact : is_exact eq (Some (entry_of eq sent x)) ≡ true
    entered_exact =
        elim (option_eq eq sent (Some x)) as (λ b. option_eq eq sent (Some x) ≡ b → is_exact eq (Some (cond b (Both x) (Split sent (Some x)))) ≡ true) [
          | true ↦ λ e. refl
          | false ↦ λ e. ap not e
        ] refl
