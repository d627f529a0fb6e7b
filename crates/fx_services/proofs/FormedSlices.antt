-- The update that a slice is read as is formed, and puts no endpoint on an interface of a node that has a name.
use Rattle.std.proofs.Common.{◌≡◌, ℕ, List, [], ◌∷◌, true, Result, Ok, Err, IfOk, refl}
use Rattle.std.specs.Prelude.{◌≢◌}
use Rattle.serde_json.specs.Data.{Data}
use Rattle.fx_model.specs.declared.resources.Update.{Update}
use Rattle.fx_model.specs.Formed.{is_formed, puts_workload_interface}
use Rattle.fx_fields.specs.Faults.{IsAnswerOf}
use Rattle.fx_fields.specs.Names.{namespaced_name_in}
use Rattle.fx_fields.specs.declared.fault.ReadFault.{ReadFault}
use Rattle.fx_fields.proofs.Readings.{then-if, read-if}
use Rattle.fx_services.specs.declared.slices.Slice.{Slice}
use Rattle.fx_services.specs.Slices.{slice_of, put_of_slice, slice_put, slice_delete}

abbrev IsFormed : Update → Type 0
IsFormed u = is_formed u ≡ true

pub slice_put-formed : (d : Data) → IfOk (slice_put d) (λ u. is_formed u ≡ true)
unfolding slice_put
slice_put-formed d = then-if IsFormed (slice_of d) _ (λ s _. refl)

-- an endpoint of no node is of none that has a name
of_no_node : (node : List ℕ) (s : Slice) → node ≢ [] → puts_workload_interface node (put_of_slice s) ≡ true
of_no_node [] s named = absurd (named refl)
of_no_node (b ∷ bs) s named = refl

module _ (node : List ℕ) (named : node ≢ []) where
  abbrev IsFit : Update → Type 0
  IsFit u = puts_workload_interface node u ≡ true

  pub slice_put-workload : (d : Data) → IfOk (slice_put d) (λ u. puts_workload_interface node u ≡ true)
  unfolding slice_put
  slice_put-workload d = then-if IsFit (slice_of d) _ (λ s _. of_no_node node s named)

pub slice_delete-formed : (d : Data) → IfOk (slice_delete d) (λ u. is_formed u ≡ true)
unfolding slice_delete
slice_delete-formed d = then-if IsFormed (namespaced_name_in d) _ (λ named _. refl)

pub slice_delete-workload : (node : List ℕ) (d : Data) → IfOk (slice_delete d) (λ u. puts_workload_interface node u ≡ true)
unfolding slice_delete
slice_delete-workload node d =
    then-if (λ u. puts_workload_interface node u ≡ true) (namespaced_name_in d) _ (λ named _. refl)

-- what code answers of them
pub answered-named : (answer told : Result Update ReadFault) → ((node : List ℕ) → node ≢ [] → IfOk answer (λ u. puts_workload_interface node u ≡ true)) → IsAnswerOf answer told → IfOk told (λ u. (node : List ℕ) → node ≢ [] → puts_workload_interface node u ≡ true)
answered-named answer (Ok u) holds is =
    λ node named. read-if (λ (v : Update). puts_workload_interface node v ≡ true) answer u (holds node named) is
answered-named answer (Err fault) holds is = tt
