-- What the log of the active rules keeps as it is told.
use Rattle.std.proofs.Common.{◌≡◌, ℕ, cond, List, Option, sym, ap, ◌∙◌, subst}
use Rattle.std.specs.Ordering.{nat_cmp, eq_by_cmp}
use Rattle.std.specs.Cmp.Lexicographic.{slice_cmp, nat_list_cmp_total}
use Rattle.std.specs.FinMap as map
use Rattle.fx_model.proofs.Orders.{policy_total}
use Rattle.fx_model.specs.contracts.ids.PolicyIdOrd.TheImpl as policy_cmp
use Rattle.fx_model.specs.declared.ids.PolicyId.{PolicyId}
use Rattle.fx_model.specs.declared.policy.Policy.{Policy}
use Rattle.fx_model.specs.declared.resources.Profile.{Profile}
use Rattle.fx_logs.specs.Logged.{IsLogged}
use Rattle.fx_model.specs.PairRuns.{IsPairRun}
use Rattle.fx_logs.specs.Touched.{Keys, IsTouched}
use Rattle.fx_logs.specs.declared.active_log.Logged.{Logged}
use Rattle.fx_model.specs.declared.policy_pairs.PolicyPairChange.{PolicyPairChange}
use Rattle.fx_logs.specs.declared.active_told.ActiveTold.{ActiveTold}
use Rattle.fx_logs.proofs.LoggedLemmas.{touched_more, touched_set}

module _ (start : ActiveTold) (c : Logged) (told : ActiveTold) (h : IsLogged start c) where
  pub policy_changed : (touched : Keys policy_cmp.cmp-value.it) (k key : PolicyId) (x : Option Policy) → key ≡ k → touched ≡ map.insert c.policies key tt → ((q : PolicyId) → map.get told.policies q ≡ cond (eq_by_cmp policy_cmp.cmp-value.it q k) x (map.get c.told.policies q)) → told.profiles ≡ c.told.profiles → told.pairs ≡ c.told.pairs → IsLogged start (record c { told = told; policies = touched })
  policy_changed touched k key x is made change profiles pairs = record {
    policies = touched_set policy_total c.policies touched start.policies c.told.policies told.policies k x h.policies (made ∙ ap (λ i. map.insert c.policies i tt) is) change;
    profiles = subst (IsTouched c.profiles start.profiles) (sym profiles) h.profiles;
    pairs = subst (IsPairRun c.pairs start.pairs) (sym pairs) h.pairs;
  }

  pub policy_kept : (touched : Keys policy_cmp.cmp-value.it) (key : PolicyId) → touched ≡ map.insert c.policies key tt → told ≡ c.told → IsLogged start (record c { told = told; policies = touched })
  policy_kept touched key made same = subst (λ t. IsLogged start (record c { told = t; policies = touched })) (sym same) (record {
    policies = touched_more policy_total c.policies touched start.policies c.told.policies key h.policies made;
    profiles = h.profiles;
    pairs = h.pairs;
  })

  pub profile_changed : (touched : Keys (slice_cmp nat_cmp)) (k key : List ℕ) (x : Option (Option Profile)) → key ≡ k → touched ≡ map.insert c.profiles key tt → ((q : List ℕ) → map.get told.profiles q ≡ cond (eq_by_cmp (slice_cmp nat_cmp) q k) x (map.get c.told.profiles q)) → told.policies ≡ c.told.policies → told.pairs ≡ c.told.pairs → IsLogged start (record c { told = told; profiles = touched })
  profile_changed touched k key x is made change policies pairs = record {
    profiles = touched_set nat_list_cmp_total c.profiles touched start.profiles c.told.profiles told.profiles k x h.profiles (made ∙ ap (λ i. map.insert c.profiles i tt) is) change;
    policies = subst (IsTouched c.policies start.policies) (sym policies) h.policies;
    pairs = subst (IsPairRun c.pairs start.pairs) (sym pairs) h.pairs;
  }

  pub profile_kept : (touched : Keys (slice_cmp nat_cmp)) (key : List ℕ) → touched ≡ map.insert c.profiles key tt → told ≡ c.told → IsLogged start (record c { told = told; profiles = touched })
  profile_kept touched key made same = subst (λ t. IsLogged start (record c { told = t; profiles = touched })) (sym same) (record {
    profiles = touched_more nat_list_cmp_total c.profiles touched start.profiles c.told.profiles key h.profiles made;
    policies = h.policies;
    pairs = h.pairs;
  })

  pub pairs_changed : (changes : List PolicyPairChange) → told.policies ≡ c.told.policies → told.profiles ≡ c.told.profiles → IsPairRun changes start.pairs told.pairs → IsLogged start (record c { told = told; pairs = changes })
  pairs_changed changes policies profiles run = record {
    policies = subst (IsTouched c.policies start.policies) (sym policies) h.policies;
    profiles = subst (IsTouched c.profiles start.profiles) (sym profiles) h.profiles;
    pairs = run;
  }
