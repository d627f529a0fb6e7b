-- What the log of the active rules keeps.
use Rattle.fx_model.specs.PairRuns.{IsPairRun}
use Rattle.fx_logs.specs.Touched.{IsTouched}
use Rattle.fx_logs.specs.declared.active_log.Logged.{Logged}
use Rattle.fx_logs.specs.declared.active_told.ActiveTold.{ActiveTold}

-- what isn't touched is as at the start, and the changes of pairs lead from there to those that stand
pub record IsLogged (start : ActiveTold) (c : Logged) : Type 0 where
  pub policies : IsTouched c.policies start.policies c.told.policies
  pub profiles : IsTouched c.profiles start.profiles c.told.profiles
  pub pairs : IsPairRun c.pairs start.pairs c.told.pairs
