use Rattle.std.proofs.Common.{◌≡◌, List, ◌++◌, drop}
use Rattle.fx_model.specs.declared.set_use.SetUse.{SetUse}
use Rattle.fx_scanner.specs.Told.{AreHeld}
use Rattle.fx_scanner.proofs.changes.give_up.Given as goal

-- those that are left stand still
abbrev pub invariant-loop-set : goal.invariant-loop-set
invariant-loop-set g l = record {
  held : (others : List SetUse) → AreHeld g.R.DigestRule.digest_of l.fn.counts (g.S.UseSink.uses l.fn.sink) (l.sets ++ others)
      → AreHeld g.R.DigestRule.digest_of l.counts (g.S.UseSink.uses l.sink) (drop l.set-index l.sets ++ others);
  policies : g.S.ViewSink.policies l.sink ≡ g.S.ViewSink.policies l.fn.sink;
  profiles : g.S.ViewSink.profiles l.sink ≡ g.S.ViewSink.profiles l.fn.sink;
  endpoints : g.S.ViewSink.endpoints l.sink ≡ g.S.ViewSink.endpoints l.fn.sink;
}
