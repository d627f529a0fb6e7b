-- How tables are stored: as a pair of their sets and chains.
use Rattle.std.specs.Prelude.{refl}
use Rattle.std.specs.Coded.{Coded, code_by, coded×, coded_list, coded_ℕ}
use Rattle.std.specs.FinMap as map
use Rattle.fx_model.specs.declared.chain.ChainRule.{ChainRule}
use Rattle.fx_model.specs.Messages.{Members}
use Rattle.fx_model.specs.Tables.{Tables, Sets, Chains}

abbrev pub tables_code : Coded Members → Coded ChainRule → Coded Tables
tables_code members rule =
    code_by (Sets × Chains) (coded× (map.code (coded_list coded_ℕ) members) (map.code (coded_list coded_ℕ) (coded_list rule)))
    (λ t. (t.sets, t.chains)) (λ p. record { sets = p.0; chains = p.1 }) (λ _. refl)
