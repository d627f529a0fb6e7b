-- What an update takes out of the claims, and what it puts in their place: what stands at its key claims no more, and what is put
-- there does.
use Rattle.std.specs.Prelude.{List, []}
use Rattle.fx_names.specs.Digests.{Digest}
use Rattle.fx_names.specs.declared.claim.Claim.{Claim}
use Rattle.fx_model.specs.Claims.{claims_of, claims_at}
use Rattle.fx_model.specs.declared.resources.Resources.{Resources}
use Rattle.fx_model.specs.declared.resources.Update.{Update}
use Rattle.fx_model.specs.declared.resources.Update.TheVariants as update

abbrev pub claims_before : Digest → Resources → Update → List Claim
claims_before dg R update.InSync = []
claims_before dg R (update.Put k x) = claims_at dg R k
claims_before dg R (update.Delete k) = claims_at dg R k

abbrev pub claims_after : Digest → Resources → Update → List Claim
claims_after dg R update.InSync = []
claims_after dg R (update.Put k x) = claims_of dg R.node k x
claims_after dg R (update.Delete k) = []
