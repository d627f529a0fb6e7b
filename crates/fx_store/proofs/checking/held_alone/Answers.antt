use Rattle.std.proofs.Common.{[]}
use Rattle.fx_names.proofs.Holdings.{kept_free}
use Rattle.fx_store.proofs.checking.held_alone.Goals as goal

pub returns : goal.returns
returns c = λ registry others k. c.in_ok-swap.ensures [] c.new-alone.ensures (kept_free registry [] c.args.claims.now others k)
