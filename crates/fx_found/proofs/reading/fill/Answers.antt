use Rattle.std.proofs.Common.{Ok, inr, sym, ◌∙◌}
use Rattle.std.proofs.lemmas.Result.{err_from_is_err_and}
use Rattle.fx_found.proofs.Filling.{rows_fit, found_misplaced, filled_faulty, filled_distinct, filled_writable, filled_all}
use Rattle.fx_found.proofs.reading.fill.Goals as goal

pub declare-requires-clause-read : goal.declare-requires-clause-read
declare-requires-clause-read c = rows_fit c.args.texts.now c.as_slice.result.now (c.as_slice.ensures.value ∙ c.requires.read)

pub returns-in_err-declare-clause-fault : goal.returns-in_err-declare-clause-fault
returns-in_err-declare-clause-fault c =
    let p = err_from_is_err_and c.from_residual.result c.from_residual.ensures.1 in
    rw (p.1, p.2)
    (found_misplaced c.args.texts.now c.args.rows.items c.requires.read c.args.tables.now c.as_slice.result.now c.requires.empty c.as_slice.ensures.value c.in_err-declare.field-0.0 c.in_err-declare.ensures.placed)

pub returns-in-Some-clause-fault : goal.returns-in-Some-clause-fault
returns-in-Some-clause-fault c =
    inr (filled_faulty c.args.texts.now c.args.rows.items c.requires.read c.args.tables.now c.declare.new.tables c.as_slice.result.now c.as_slice-2.result.now
    c.requires.empty c.as_slice.ensures.value c.as_slice-2.ensures.value c.in_ok-declare.ensures.placed c.in_ok-declare.ensures.declared
    c.in-Some.fault (sym c.first_fault.ensures ∙ c.in-Some.is))

pub write_chains-requires-clause-distinct : goal.write_chains-requires-clause-distinct
write_chains-requires-clause-distinct c =
    filled_distinct c.args.texts.now c.args.rows.items c.requires.read c.args.tables.now c.declare.new.tables c.as_slice.result.now c.as_slice-2.result.now
    c.requires.empty c.as_slice.ensures.value c.as_slice-2.ensures.value c.in_ok-declare.ensures.placed c.in_ok-declare.ensures.declared

pub write_chains-requires-clause-writable : goal.write_chains-requires-clause-writable
write_chains-requires-clause-writable c =
    filled_writable c.args.texts.now c.args.rows.items c.requires.read c.args.tables.now c.declare.new.tables c.as_slice.result.now c.as_slice-2.result.now
    c.requires.empty c.as_slice.ensures.value c.as_slice-2.ensures.value c.in_ok-declare.ensures.placed c.in_ok-declare.ensures.declared
    (sym c.first_fault.ensures ∙ c.in_default.is)

pub returns-clause-ok : goal.returns-clause-ok
returns-clause-ok c =
    filled_all c.args.texts.now c.args.rows.items c.requires.read c.args.tables.now c.declare.new.tables c.as_slice.result.now c.as_slice-2.result.now
    c.requires.empty c.as_slice.ensures.value c.as_slice-2.ensures.value c.in_ok-declare.ensures.placed c.in_ok-declare.ensures.declared
    (sym c.first_fault.ensures ∙ c.in_default.is)
    ∙ (λ i. Ok (record { tables = sym c.in_ok-write_chains.ensures i; foreign = sym c.in_ok-foreign_rows.ensures i }))
