-- Tables in which chains are written, one after another.
use Rattle.std.proofs.Common.{◌≡◌, List}
use Rattle.fx_base.specs.Extended.{extended}
use Rattle.fx_model.specs.declared.chain.ChainRule.{ChainRule}
use Rattle.fx_model.specs.Tables.{ChainName, Chains, Tables}
use Rattle.fx_model.specs.Writing.{CanBeWritten}

abbrev pub chains_to : Tables → Chains → Tables
chains_to t chains = record t { chains = chains }

-- those that are left can be written, and with them all are
pub record IsWriting (first now : Tables) (all left : List (ChainName × List ChainRule)) : Type 0 where
  pub writable : CanBeWritten now.sets now.chains left
  pub whole : chains_to now (extended now.chains left) ≡ chains_to first (extended first.chains all)
