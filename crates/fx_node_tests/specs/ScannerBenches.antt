-- A scanner and its sink, with one policy, one profile and one set at most, under the rule that gives texts with one
-- prefix one digest.
use Rattle.std.specs.Prelude.{ℕ, List}
use Rattle.fx_names.specs.Digests.{plain_digest}
use Rattle.fx_selector.specs.Tree.{Tree}
use Rattle.fx_model.specs.Sets.{nets_use}
use Rattle.fx_model.specs.declared.ids.PolicyId.{PolicyId}
use Rattle.fx_record.specs.declared.records.RecordUses.{RecordUses}
use Rattle.fx_scanner.specs.Alone.{IsAlone}
use Rattle.fx_scanner.specs.Scanned.{IsScanned}
use Rattle.fx_scanner.specs.declared.inputs.Inputs.{Inputs}

-- the sink has what follows from the node's inputs, in which no other policy, profile or set is
pub record IsScannerBench (n : Inputs) (sink : RecordUses) (id : PolicyId) (name : List ℕ) (selector : Tree) : Type 0 where
  pub scanned : IsScanned plain_digest n sink.view.policies sink.view.profiles sink.uses
  pub alone : IsAlone id name (nets_use selector) n
