use Rattle.std.proofs.Common.{sym, subst, ◌∙◌, arith}
use Rattle.std.proofs.lemmas.Result.{err_from_is_err_and}
use Rattle.fx_selector.specs.Nodes.{tree}
use Rattle.fx_selector.specs.Reader.{test, atom}
use Rattle.fx_selector.specs.Gives.{Gives}
use Rattle.fx_selector.proofs.Failing.{fails_on}
use Rattle.fx_selector.proofs.Paths.{atom_call, atom_test}
use Rattle.fx_selector.proofs.grammar.atom_at.Goals as goal

pub returns-then-begins-clause-reads : goal.returns-then-begins-clause-reads
returns-then-begins-clause-reads c = λ n h. subst (Gives (λ x. tree x.0) (λ x. x.1.now) c.call_at.result)
    (sym (atom_call c.args.limit n c.args.rest.now c.in_ok-word.word c.in_ok-word.behind.now c.past_blanks-after.result.now c.in_ok-word.ensures.reads c.past_blanks-after.ensures.reads (sym c.begins.ensures ∙ c.if-begins.true)))
    (rw c.bytes.ensures at c.call_at.ensures.reads)

pub returns-in_err-test-clause-reads : goal.returns-in_err-test-clause-reads
returns-in_err-test-clause-reads c = λ n h.
    let p = err_from_is_err_and c.from_residual-in_err-test.result c.from_residual-in_err-test.ensures.1 in
    let g = atom_test c.args.limit n c.args.rest.now c.in_ok-word.word c.in_ok-word.behind.now c.past_blanks-after.result.now c.in_ok-word.ensures.reads c.past_blanks-after.ensures.reads (sym c.begins.ensures ∙ c.if-begins.false) in
    rw (p.1, p.2) (fails_on c.in_err-test.field-0.0 (test n c.in_ok-word.word c.past_blanks-after.result.now) (atom c.args.limit n c.args.rest.now)
    (c.in_err-test.ensures.reads c.in_ok-word.word n (omega (arith, c.in_ok-word.ensures.shorter)))
    (λ why rest e. g ∙ e))

pub returns-clause-reads : goal.returns-clause-reads
returns-clause-reads c = λ n h.
    atom_test c.args.limit n c.args.rest.now c.in_ok-word.word c.in_ok-word.behind.now c.past_blanks-after.result.now c.in_ok-word.ensures.reads c.past_blanks-after.ensures.reads (sym c.begins.ensures ∙ c.if-begins.false)
    ∙ c.in_ok-test.ensures.reads c.in_ok-word.word n (omega (arith, c.in_ok-word.ensures.shorter))
