-- How many operations a message makes, from what is made for its own set or chains and for the dispatch chains.
use Rattle.std.proofs.Common.{◌≡◌, ◌≤◌, ℕ, ◌+◌, List, [], map, length, length-append, sym, ap, ◌∙◌, subst, arith}
use Rattle.std.proofs.lemmas.List.{length-map}
use Rattle.std.specs.FinMap as maps
use Rattle.fx_base.specs.Set as set
use Rattle.fx_base.specs.Ticks.{ticked}
use Rattle.fx_model.specs.declared.view.View.{View}
use Rattle.fx_model.specs.declared.view.ViewEndpoint.{ViewEndpoint}
use Rattle.fx_model.specs.Messages.{Change, Named, EndpointPut, EndpointGone, step, step_at}
use Rattle.fx_model.specs.Tables.{ChainName, Chains}
use Rattle.fx_model.specs.Tree.{tree_of}
use Rattle.fx_dispatch.specs.Plans.{DifferAt, IsExact, touched}
use Rattle.fx_dispatch.specs.Plans as plans
use Rattle.fx_dispatch.proofs.Written.{writes_between, deletes_between}
use Rattle.fx_dispatch.proofs.Exact.{is_exact}
use Rattle.fx_driver.specs.declared.driver.Driver.{Driver}
use Rattle.fx_driver.specs.Stepping.{IsStep}
use Rattle.fx_driver.specs.Drives.{Drives}
use Rattle.fx_driver.specs.Operations.{own_operations, dispatch_chains, Takes, Costs, CostsAtMost}
use Rattle.fx_driver.proofs.Counts.{then_counted, then_at_most}
use Rattle.fx_driver.proofs.Interfaces.{Names, HasKeys}
use Rattle.fx_driver.proofs.EndpointSteps.{tree_same}
use Rattle.fx_driver.proofs.Following.{keys_after_put, keys_after_gone}
use Rattle.fx_driver.proofs.Steps.{stepped}

length_touched : (writes : plans.Writes) (deletes : List ChainName) → length (touched writes deletes) ≡ length writes + length deletes
length_touched writes deletes = length-append (map (λ w. w.0) writes) deletes ∙ ap (λ n. n + length deletes) (length-map writes (λ w. w.0))

-- no dispatch chain differs where the endpoints stay
none_differ : (before after : View) → after.endpoints ≡ before.endpoints → DifferAt (dispatch_chains before) (dispatch_chains after) []
none_differ before after same = record {
  once = tt;
  differ = tt;
  others = λ q _. ap (λ (m : Named ViewEndpoint). maps.get (tree_of (maps.keys m)) q) (sym same);
}

module _ (driver : Driver) (c : Change) (stay : (s w : View) → (step_at c s w).endpoints ≡ s.endpoints) where
  own_takes : (s w : View) → IsStep s w c → Takes c s (step s w) (own_operations c)
  own_takes s w is = ([], (none_differ s (step s w) (ap (λ (v : View). v.endpoints) (stepped s w c is.next) ∙ stay s w), omega arith))

  -- a message of no endpoint
  pub own_costs : (before after : ℕ) → after ≡ ticked (own_operations c) before → Costs driver c before after
  own_costs before after counted = λ s w drives is. (own_operations c, (own_takes s w is, counted))

  pub own_at_most : (before after : ℕ) → after ≤ before + own_operations c → CostsAtMost driver c before after
  own_at_most before after most = λ s w drives is. (own_operations c, (own_takes s w is, most))

-- ---- messages of an endpoint

module _ (driver : Driver) (c : Change) (s w : View) (drives : Drives driver s) (new : Names) (keys : HasKeys new (step s w).endpoints) where
  -- the trees of the interfaces are those of the views
  differ_so : (names : List ChainName) → DifferAt (plans.tree_of driver.dispatch) (plans.tree_of new) names → DifferAt (dispatch_chains s) (dispatch_chains (step s w)) names
  differ_so names differ =
      subst (λ (t : Chains). DifferAt t (dispatch_chains (step s w)) names) (tree_same s.endpoints driver.dispatch drives.interfaces)
      (subst (λ (t : Chains). DifferAt (plans.tree_of driver.dispatch) t names) (tree_same (step s w).endpoints new keys) differ)

  takes_so : (writes : plans.Writes) (deletes : List ChainName) → IsExact driver.dispatch new writes deletes → Takes c s (step s w) (own_operations c + (length writes + length deletes))
  takes_so writes deletes exact = (
    touched writes deletes,
    (differ_so (touched writes deletes) exact, ap (λ n. own_operations c + n) (sym (length_touched writes deletes))),
  )

  -- what two trees differ at is known without a plan
  few_so : (before after : ℕ) → after ≤ before + own_operations c → (n : ℕ) × (Takes c s (step s w) n × (after ≤ before + n))
  few_so before after few =
      let writes = writes_between (set.items driver.dispatch) (set.items new) in
      let deletes = deletes_between (set.items driver.dispatch) (set.items new) in
      (own_operations c + (length writes + length deletes), (takes_so writes deletes (is_exact driver.dispatch new), omega (arith, few)))

module _ (driver : Driver) (k : List ℕ) (e : ViewEndpoint) where
  pub put_few : (before after : ℕ) → after ≤ before + 2 → CostsAtMost driver (EndpointPut k e) before after
  put_few before after few = λ s w drives is.
      few_so driver (EndpointPut k e) s w drives (set.insert driver.dispatch k) (keys_after_put driver s w drives k e is) before after few

  module _ (new : Names) (more : new ≡ set.insert driver.dispatch k) (writes : plans.Writes) (deletes : List ChainName) (exact : IsExact driver.dispatch new writes deletes) (before written after : ℕ) (first : written ≡ ticked 2 before) where
    exactly : IsExact driver.dispatch (set.insert driver.dispatch k) writes deletes
    exactly = subst (λ (n : Names). IsExact driver.dispatch n writes deletes) more exact

    pub put_costs : after ≡ ticked (length writes + length deletes) written → Costs driver (EndpointPut k e) before after
    put_costs then = λ s w drives is. (
      2 + (length writes + length deletes),
      (
        takes_so driver (EndpointPut k e) s w drives (set.insert driver.dispatch k) (keys_after_put driver s w drives k e is) writes deletes exactly,
        then_counted (length writes + length deletes) 2 before written after first then,
      ),
    )

    pub put_at_most : after ≤ written + (length writes + length deletes) → CostsAtMost driver (EndpointPut k e) before after
    put_at_most then = λ s w drives is. (
      2 + (length writes + length deletes),
      (
        takes_so driver (EndpointPut k e) s w drives (set.insert driver.dispatch k) (keys_after_put driver s w drives k e is) writes deletes exactly,
        then_at_most (length writes + length deletes) 2 before written after first then,
      ),
    )

two_first : (n before after : ℕ) → after ≡ ticked (n + 2) before → after ≡ ticked (2 + n) before
two_first n before after is = let e : n + 2 ≡ 2 + n = omega arith in is ∙ ap (λ m. ticked m before) e

module _ (driver : Driver) (k : List ℕ) where
  pub gone_few : (before after : ℕ) → after ≤ before + 2 → CostsAtMost driver (EndpointGone k) before after
  gone_few before after few = λ s w drives is.
      few_so driver (EndpointGone k) s w drives (set.remove driver.dispatch k) (keys_after_gone driver s w drives k is) before after few

  module _ (new : Names) (fewer : new ≡ set.remove driver.dispatch k) (writes : plans.Writes) (deletes : List ChainName) (exact : IsExact driver.dispatch new writes deletes) where
    exactly_left : IsExact driver.dispatch (set.remove driver.dispatch k) writes deletes
    exactly_left = subst (λ (n : Names). IsExact driver.dispatch n writes deletes) fewer exact

    pub gone_costs : (before planned after : ℕ) → planned ≡ ticked (length writes + length deletes) before → after ≡ ticked 2 planned → Costs driver (EndpointGone k) before after
    gone_costs before planned after first then = λ s w drives is. (
      2 + (length writes + length deletes),
      (
        takes_so driver (EndpointGone k) s w drives (set.remove driver.dispatch k) (keys_after_gone driver s w drives k is) writes deletes exactly_left,
        two_first (length writes + length deletes) before after (then_counted 2 (length writes + length deletes) before planned after first then),
      ),
    )

    pub gone_at_most : (before after : ℕ) → after ≤ before + (length writes + length deletes) → CostsAtMost driver (EndpointGone k) before after
    gone_at_most before after most = λ s w drives is. (
      2 + (length writes + length deletes),
      (
        takes_so driver (EndpointGone k) s w drives (set.remove driver.dispatch k) (keys_after_gone driver s w drives k is) writes deletes exactly_left,
        omega (arith, most),
      ),
    )
