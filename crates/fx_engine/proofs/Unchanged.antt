-- An update that leaves the resources as they are clashes with nothing and calls for no test.
use Rattle.std.proofs.Common.{◌≡◌, ℕ, zero, suc, ◌<◌, true, false, List, [], ◌∷◌, ◌++◌, None, refl, sym, ◌∙◌, subst, append_assoc, arith}
use Rattle.fx_base.proofs.Cases.{true_false}
use Rattle.fx_base.specs.Ticks.{IsTicked}
use Rattle.fx_names.specs.Digests.{Digest}
use Rattle.fx_names.specs.declared.claim.Claim.{Claim}
use Rattle.fx_names.specs.Claims.{clashes, times, other_holder, first_clash}
use Rattle.fx_names.proofs.ClaimLists.{times-append, times-itself, other_holder-none, first_clash-miss}
use Rattle.fx_model.specs.declared.ids.Key.{Key}
use Rattle.fx_model.specs.declared.resources.Item.{Item}
use Rattle.fx_model.specs.declared.resources.Resources.{Resources}
use Rattle.fx_model.specs.declared.resources.Update.{Update}
use Rattle.fx_model.specs.declared.resources.Update.TheVariants as update
use Rattle.fx_model.specs.Claims.{claims_of, all_claims, clash, AreApart, IsClashFree}
use Rattle.fx_model.specs.Formed.{is_formed}
use Rattle.fx_model.specs.Resources.{after, after_put, after_delete}
use Rattle.fx_model.specs.Tests.{least_tests, most_tests}
use Rattle.fx_laws.proofs.ClaimsApart.{fewer_apart}
use Rattle.fx_laws.proofs.ClaimsCounted.{times-put}
use Rattle.fx_laws.proofs.Clashing.{clash-put, clash-delete}
use Rattle.fx_label_index.proofs.Sums.{self_tested}
use Rattle.fx_graph.proofs.Bounded.{tests_of_update}
use Rattle.fx_graph.specs.Graphs.{IsGraphOf}
use Rattle.fx_graph.specs.declared.state.GraphState.{GraphState}

-- ---- claims that are apart don't clash

none_of : (n : ℕ) → (0 < n → ⊥) → n ≡ 0
none_of zero h = refl
none_of (suc n) h = absurd (h (omega arith))

-- nobody else holds the name of one of them
none_other : (all held : List Claim) (c : Claim) → AreApart all → 0 < times c all → ((d : Claim) → 0 < times d held → 0 < times d all) → other_holder held c ≡ None
none_other all held c apart here among =
    other_holder-none held c (λ d same. none_of (times d held) (λ there. true_false (sym same ∙ apart c d here (among d there))))

none_clash : (held new : List Claim) → AreApart (held ++ new) → first_clash held new ≡ None
none_clash held [] apart = refl
none_clash held (c ∷ cs) apart =
    first_clash-miss held c cs
    (none_other (held ++ c ∷ cs) held c apart
    (omega (arith, times-append c held (c ∷ cs), times-itself c cs))
    (λ d there. omega (arith, there, times-append d held (c ∷ cs))))
    ∙ none_clash (held ++ c ∷ []) cs (subst AreApart (sym (append_assoc held (c ∷ []) cs)) apart)

module _ (dg : Digest) (R : Resources) (apart : IsClashFree dg R) where
  put_free : (k : Key) (x : Item) → is_formed (update.Put k x) ≡ true → after_put R k x ≡ R → clash dg R (update.Put k x) ≡ None
  put_free k x formed same =
      let kept = all_claims dg (after_delete R k) in
      let new = claims_of dg R.node k x in
      let still : IsClashFree dg (after_put R k x) = subst (λ (S : Resources). IsClashFree dg S) (sym same) apart in
      clash-put dg R k x formed
      ∙ none_clash kept new
      (fewer_apart (all_claims dg (after_put R k x)) (kept ++ new) (λ c there. omega (arith, there, times-append c kept new, times-put c dg R k x formed)) still)

  pub unchanged_free : (u : Update) → is_formed u ≡ true → after R u ≡ R → clash dg R u ≡ None
  unchanged_free update.InSync formed same = refl
  unchanged_free (update.Put k x) formed same = put_free k x formed same
  unchanged_free (update.Delete k) formed same = clash-delete dg R k

-- ---- the graph stays that of the resources, and no selector is tested

module _ (dg : Digest) (R : Resources) (u : Update) (same : after R u ≡ R) (g : GraphState) (is : IsGraphOf dg R g) where
  unchanged_graph : IsGraphOf dg (after R u) g
  unchanged_graph = subst (λ (S : Resources). IsGraphOf dg S g) (sym same) is

  pub unchanged_tested : (n : ℕ) → IsTicked (least_tests R u) (most_tests R u) n n
  unchanged_tested n = tests_of_update dg R u g g is unchanged_graph n n (self_tested g.nodes.upper.joined.index n)
