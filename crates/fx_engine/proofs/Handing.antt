-- Updates that a graph is given one by one, as the steps of a batch.
use Rattle.std.proofs.Common.{◌≡◌, ℕ, ◌+◌, ◌<◌, true, None, List, [], ◌∷◌, ◌++◌, length, get_or, take, sym, ap, ◌∙◌, subst, arith}
use Rattle.std.proofs.lemmas.List.{take_more}
use Rattle.std.specs.List.{list_all}
use Rattle.fx_base.specs.Same.{both_pass}
use Rattle.fx_base.specs.Ticks.{IsTicked}
use Rattle.fx_base.proofs.TickLemmas.{IsTicked-sum}
use Rattle.fx_names.specs.Digests.{Digest}
use Rattle.fx_model.specs.declared.resources.Resources.{Resources}
use Rattle.fx_model.specs.declared.resources.Update.{Update}
use Rattle.fx_model.specs.Batches.{after_all, clash_all}
use Rattle.fx_model.specs.Claims.{IsClashFree}
use Rattle.fx_model.specs.Formed.{is_formed, are_formed}
use Rattle.fx_model.specs.Resources.{after}
use Rattle.fx_model.specs.Steps.{along, is_change, steps_of}
use Rattle.fx_laws.specs.Stages.{StayClashFree}
use Rattle.fx_laws.proofs.BatchClaims.{batch_apart}
use Rattle.fx_laws.proofs.BatchSteps.{after_all-append, all-formed, steps-formed, steps-stay}
use Rattle.fx_laws.proofs.FormedLemmas.{are_formed-after}
use Rattle.fx_graph.specs.declared.state.GraphState.{GraphState}
use Rattle.fx_graph.specs.Graphs.{IsGraphOf}
use Rattle.fx_store.specs.declared.store.Store.{Store}
use Rattle.fx_store.specs.Keeping.{KeepsClaims}
use Rattle.fx_engine.specs.Handing.{AreAccepted}
use Rattle.fx_engine.specs.Sound.{IsSound}
use Rattle.fx_engine.proofs.Following.{sound-anew}

-- ---- one more in a walk

taken_more : (us : List Update) (i : ℕ) (u : Update) → i < length us → u ≡ get_or us i u → take (i + 1) us ≡ take i us ++ u ∷ []
taken_more us i u h e = take_more us i u h ∙ ap (λ v. take i us ++ v ∷ []) (sym e)

pub made_more : (R : Resources) (us : List Update) (i : ℕ) (u : Update) → i < length us → u ≡ get_or us i u → after_all R (take (i + 1) us) ≡ after (after_all R (take i us)) u
made_more R us i u h e = ap (after_all R) (taken_more us i u h e) ∙ after_all-append R (take i us) (u ∷ [])

along-more : (count : Resources → Update → ℕ) (R : Resources) (xs : List Update) (u : Update) → along count R (xs ++ u ∷ []) ≡ along count R xs + count (after_all R xs) u
along-more count R [] u = omega arith
along-more count R (x ∷ xs) u = let e = along-more count (after R x) xs u in omega (arith, e)

pub counted_more : (count : Resources → Update → ℕ) (R : Resources) (us : List Update) (i : ℕ) (u : Update) → i < length us → u ≡ get_or us i u → along count R (take (i + 1) us) ≡ along count R (take i us) + count (after_all R (take i us)) u
counted_more count R us i u h e = ap (along count R) (taken_more us i u h e) ∙ along-more count R (take i us) u

-- the ticks of one step more lie between the sums
pub ticked_more : (least most : Resources → Update → ℕ) (R : Resources) (us : List Update) (i : ℕ) (u : Update) → i < length us → u ≡ get_or us i u → (old mid new : ℕ) → IsTicked (along least R (take i us)) (along most R (take i us)) old mid → IsTicked (least (after_all R (take i us)) u) (most (after_all R (take i us)) u) mid new → IsTicked (along least R (take (i + 1) us)) (along most R (take (i + 1) us)) old new
ticked_more least most R us i u h e old mid new before now =
    subst (λ n. IsTicked n (along most R (take (i + 1) us)) old new) (sym (counted_more least R us i u h e))
    (subst (λ n. IsTicked (along least R (take i us) + least (after_all R (take i us)) u) n old new) (sym (counted_more most R us i u h e))
    (IsTicked-sum _ _ _ _ old mid new before now))

-- ---- steps that a graph can follow

module _ (dg : Digest) where
  all-accepted : (S : Resources) (us : List Update) → are_formed S ≡ true → list_all is_formed us ≡ true → StayClashFree dg S us → AreAccepted dg S us
  all-accepted S [] was formed stay = tt
  all-accepted S (u ∷ us) was formed stay =
      let both = both_pass (is_formed u) (list_all is_formed us) formed in
      let now = are_formed-after S was u both.0 in
      ((both.0, record { formed = now; apart = stay.0 }), all-accepted (after S u) us now both.1 stay.1)

  pub steps-accepted : (R : Resources) → are_formed R ≡ true → IsClashFree dg R → (us : List Update) → list_all is_formed us ≡ true → list_all is_change us ≡ true → clash_all dg R us ≡ None → AreAccepted dg R (steps_of R us)
  steps-accepted R was apart us formed changes free =
      all-accepted R (steps_of R us) was (steps-formed R us formed) (steps-stay dg R us formed changes apart free)

  -- where graph and store have followed the updates, all stands as before
  pub sound-after_all : (s t : Store) (g h : GraphState) → IsSound dg s g → (us : List Update) → list_all is_formed us ≡ true → clash_all dg s.resources us ≡ None
      → IsGraphOf dg (after_all s.resources us) h → t.resources ≡ after_all s.resources us → KeepsClaims dg t → IsSound dg t h
  sound-after_all s t g h was us formed free graph made claims =
      sound-anew dg (after_all s.resources us) (all-formed s.resources us was.formed formed) (batch_apart dg s.resources us formed was.apart free) t h graph made claims
