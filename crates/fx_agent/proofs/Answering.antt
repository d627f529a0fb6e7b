-- What a pull answers and leaves, from what the calls below answered.
use Rattle.std.proofs.Common.{◌≡◌, inr, true, false, Option, Some, Result, Err}
use Rattle.std.specs.Prelude.{◌↔◌, IsErrOf}
use Rattle.fx_model.specs.Messages.{Change}
use Rattle.fx_model.specs.declared.out.OutFault.{OutFault}
use Rattle.fx_model.specs.declared.out.OutFault.TheVariants as out
use Rattle.fx_agent.specs.declared.faults.Pulled.{Pulled}
use Rattle.fx_agent.specs.declared.faults.Pulled.TheVariants as pulled
use Rattle.fx_agent.specs.Answers.{IsOutLeft}

-- the out didn't take it
pub torn-left : (next : Option Change) (handed torn : Change → Type 0) (e : OutFault) (c : Change) → next ≡ Some c → torn c → IsOutLeft next handed torn e
torn-left next handed torn out.Write c is left = (c, (is, left))
torn-left next handed torn out.Memory c is left = (c, (is, inr left))

-- want of memory is no write fault
pub no_write : {T A : Type 0} (r : Result T OutFault) (e : OutFault) → r ≡ Err e → e ≡ out.Memory → IsErrOf r out.Write → A
no_write r e is none was = cc

no_nothing : {A : Type 0} → pulled.Sent ≡ pulled.Nothing → A
no_nothing e = cc

no_some : {A : Type 0} → true ≡ false → A
no_some e = cc

-- something was sent, and so the views differed
pub sent-tells : {Same : Type 0} → (true ≡ false) ↔ Same → (pulled.Sent ≡ pulled.Nothing) ↔ Same
sent-tells none = (λ is. no_nothing is, λ same. no_some (none.1 same))
