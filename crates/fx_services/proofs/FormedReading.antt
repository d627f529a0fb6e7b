-- What is read of a resource whose rules may name services is formed, and puts no endpoint on an interface that isn't one of workloads.
use Rattle.std.proofs.Common.{◌≡◌, ℕ, List, true, Result, Ok, Err, IfOk}
use Rattle.serde_json.specs.Data.{Data}
use Rattle.fx_model.specs.declared.resources.Update.{Update}
use Rattle.fx_model.specs.Formed.{is_formed, puts_workload_interface}
use Rattle.fx_fields.specs.Faults.{IsAnswerOf}
use Rattle.fx_fields.specs.Kinds.{kubernetes_kind}
use Rattle.fx_fields.specs.declared.fault.ReadFault.{ReadFault}
use Rattle.fx_fields.specs.declared.rule_form.Services.TheVariants.{PassedOver}
use Rattle.fx_fields.proofs.Readings.{then-if, read-if}
use Rattle.fx_k8s.specs.Puts.{put_with}
use Rattle.fx_k8s.proofs.FormedPuts.{put_with-formed, put_with-workload}
use Rattle.fx_services.specs.declared.lowered.Lowered.{Lowered}
use Rattle.fx_services.specs.declared.lowered.Resource.{Resource}
use Rattle.fx_services.specs.Marks.{unmarked}
use Rattle.fx_services.specs.Reading.{read_resource, lowered_of}
use Rattle.fx_services.specs.Services.{resource_services}
use Rattle.fx_services.proofs.FormedLowering.{lowered-formed, lowered-workload}
use Rattle.fx_services.proofs.LowResources.{IsLowerable, read_resource-low}

-- what holds of the update that a resource is apart from services
plain-if : (P : Update → Type 0) (d : Data) → IfOk (put_with PassedOver d) P → IfOk (read_resource d) (λ r. P r.plain)
unfolding read_resource
plain-if P d holds =
    then-if (λ r. P r.plain) (put_with PassedOver d) _ (λ plain plain_read.
    then-if (λ r. P r.plain) (resource_services d) _ (λ services _.
    then-if (λ r. P r.plain) (unmarked (kubernetes_kind d) plain) _ (λ x _. read-if P (put_with PassedOver d) plain holds plain_read)))

abbrev IsFormed : Update → Type 0
IsFormed u = is_formed u ≡ true

pub lowered_of-formed : (d : Data) → IfOk (lowered_of d) (λ l. is_formed l.update ≡ true)
unfolding lowered_of
lowered_of-formed d =
    then-if (λ l. is_formed l.update ≡ true) (read_resource d) _ (λ r r_read.
    lowered-formed r.services r.plain
    (read-if (λ (s : Resource). IsFormed s.plain) (read_resource d) r (plain-if IsFormed d (put_with-formed PassedOver d)) r_read)
    (read-if IsLowerable (read_resource d) r (read_resource-low d) r_read))

module _ (node : List ℕ) where
  abbrev IsFit : Update → Type 0
  IsFit u = puts_workload_interface node u ≡ true

  pub lowered_of-workload : (d : Data) → IfOk (lowered_of d) (λ l. puts_workload_interface node l.update ≡ true)
  unfolding lowered_of
  lowered_of-workload d =
      then-if (λ l. puts_workload_interface node l.update ≡ true) (read_resource d) _ (λ r r_read.
      lowered-workload r.services node r.plain
      (read-if (λ (s : Resource). IsFit s.plain) (read_resource d) r (plain-if IsFit d (put_with-workload PassedOver node d)) r_read))

-- what code answers of it
pub answered-lowered : (answer told : Result Lowered ReadFault) → ((node : List ℕ) → IfOk answer (λ l. puts_workload_interface node l.update ≡ true)) → IsAnswerOf answer told → IfOk told (λ l. (node : List ℕ) → puts_workload_interface node l.update ≡ true)
answered-lowered answer (Ok l) holds is =
    λ node. read-if (λ (m : Lowered). puts_workload_interface node m.update ≡ true) answer l (holds node) is
answered-lowered answer (Err fault) holds is = tt
