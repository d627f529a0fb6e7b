use Rattle.fx_driver.proofs.Bare.{roots_writable, roots_written, roots_there, drives_empty}
use Rattle.fx_driver.proofs.driver.Driver.new.Goals as goal

pub write_all-requires : goal.write_all-requires
write_all-requires c = roots_writable c.new-tables.result _ c.new-tables.ensures c.in_ok-first_chains.ensures

pub write_chain-requires-clause-there : goal.write_chain-requires-clause-there
write_chain-requires-clause-there c =
    let roots = roots_written c.new-tables.result c.write_all.new.tables _ c.new-tables.ensures c.in_ok-first_chains.ensures c.in_ok-write_all.ensures.ok in
    roots_there c.write_all.new.tables c.in_ok-forward_chain.field-0 roots c.in_ok-forward_chain.ensures

pub returns : goal.returns
returns c =
    let roots = roots_written c.new-tables.result c.write_all.new.tables _ c.new-tables.ensures c.in_ok-first_chains.ensures c.in_ok-write_all.ensures.ok in
    drives_empty (record { alloc = c.args.alloc; tables = c.write_chain.new.self; dispatch = c.new.result }) c.write_all.new.tables _ _ roots c.in_ok-write_chain.ensures.ok c.first_chain_name.ensures c.in_ok-forward_chain.ensures c.new.ensures
