use Rattle.std.proofs.Common.{◌≡◌, ◌-◌, [], ◌∷◌, ◌++◌, map, sym, ap, subst, ◌∙◌, arith}
use Rattle.std.proofs.lemmas.Result.{err_from_is_err_and}
use Rattle.std.proofs.lemmas.List.{map_push}
use Rattle.fx_selector.specs.Reading.{Got, bind, mapped, mark, series}
use Rattle.fx_selector.specs.Tree.{together, each, some}
use Rattle.fx_selector.specs.Reader.{and_of, or_of, not_of}
use Rattle.fx_selector.specs.Nodes.{tree}
use Rattle.fx_selector.specs.Gives.{Gives}
use Rattle.fx_selector.specs.Going.{going}
use Rattle.fx_selector.proofs.Goes.{series_goes, goes_first, goes_next, goes_done, goes_stop_mark, goes_stop_part}
use Rattle.fx_selector.proofs.Failing.{fails_on}
use Rattle.fx_selector.proofs.Paths.{not_group, not_atom}
use Rattle.fx_selector.proofs.grammar.+descent.Goals as goal

pub and_at-returns-in_err-first-clause-reads : goal.and_at-returns-in_err-first-clause-reads
and_at-returns-in_err-first-clause-reads t c = λ n h.
    let p = err_from_is_err_and c.from_residual.result c.from_residual.ensures.1 in
    rw (p.1, p.2) (fails_on c.in_err-first.field-0.0 (not_of c.args.limit n c.args.depth c.args.rest.now) (mapped (together each) (series (not_of c.args.limit n c.args.depth) 38 (38 ∷ []) n) c.args.rest.now) (c.in_err-first.ensures.reads n h)
    (λ why rest e. ap (λ x. bind x (λ a rest. Got (together each a) rest)) (series_goes (not_of c.args.limit n c.args.depth) 38 (38 ∷ []) n c.args.rest.now ∙ ap (λ x. bind x (going (not_of c.args.limit n c.args.depth) 38 (38 ∷ []) n)) e)))

pub and_at-more-init : goal.and_at-more-init
and_at-more-init t c = (
  rw c.in_ok-push.ensures.items (rw c.new-parts.ensures.items (goes_first ((λ n. not_of c.args.limit n c.args.depth)) 38 (38 ∷ []) c.args.rest.now (tree c.in_ok-first.first) c.in_ok-first.behind.now c.in_ok-first.ensures.reads (omega (arith, c.in_ok-first.ensures.shorter)))),
  omega (arith, c.in_ok-first.ensures.shorter),
)

pub and_at-returns-in_err-next-clause-reads : goal.and_at-returns-in_err-next-clause-reads
and_at-returns-in_err-next-clause-reads t c = λ n h.
    let p = err_from_is_err_and c.from_residual-in_err-next.result c.from_residual-in_err-next.ensures.1 in
    rw (p.1, p.2) (fails_on c.in_err-next.field-0.0 (mark (38 ∷ (38 ∷ [])) c.more.after.now) (mapped (together each) (series (not_of c.args.limit n c.args.depth) 38 (38 ∷ []) n) c.args.rest.now) c.in_err-next.ensures.reads
    (λ why rest e. ap (λ x. bind x (λ a rest. Got (together each a) rest)) (goes_stop_mark ((λ n. not_of c.args.limit n c.args.depth)) 38 (38 ∷ []) c.args.rest.now (map tree c.more.parts.items) c.more.after.now c.more.invariant.0 (sym c.begins.ensures ∙ c.more-test.true) why rest e n h)))

pub and_at-returns-in_err-part-clause-reads : goal.and_at-returns-in_err-part-clause-reads
and_at-returns-in_err-part-clause-reads t c = λ n h.
    let p = err_from_is_err_and c.from_residual-in_err-part.result c.from_residual-in_err-part.ensures.1 in
    rw (p.1, p.2) (fails_on c.in_err-part.field-0.0 (not_of c.args.limit n c.args.depth c.in_ok-next.next.now) (mapped (together each) (series (not_of c.args.limit n c.args.depth) 38 (38 ∷ []) n) c.args.rest.now) (c.in_err-part.ensures.reads n (omega (arith, c.in_ok-next.ensures.shorter, c.more.invariant.1)))
    (λ why rest e. ap (λ x. bind x (λ a rest. Got (together each a) rest)) (goes_stop_part ((λ n. not_of c.args.limit n c.args.depth)) 38 (38 ∷ []) c.args.rest.now (map tree c.more.parts.items) c.more.after.now c.more.invariant.0 (sym c.begins.ensures ∙ c.more-test.true) c.in_ok-next.next.now c.in_ok-next.ensures.reads n h why rest e)))

pub and_at-more-preserved : goal.and_at-more-preserved
and_at-more-preserved t c =
    let e : map tree c.push-in-more.new.self.items ≡ map tree c.more.parts.items ++ tree c.in_ok-part.part ∷ [] = rw c.in_ok-push-2.ensures.items (map_push _ c.more.parts.items c.in_ok-part.part) in (
      rw e (goes_next ((λ n. not_of c.args.limit n c.args.depth)) 38 (38 ∷ []) c.args.rest.now (map tree c.more.parts.items) c.more.after.now c.more.invariant.0 (sym c.begins.ensures ∙ c.more-test.true) (omega (arith, c.more.invariant.1)) c.in_ok-next.next.now c.in_ok-next.ensures.reads (omega (arith, c.in_ok-next.ensures.shorter)) (tree c.in_ok-part.part) c.in_ok-part.more.now c.in_ok-part.ensures.reads (omega (arith, c.in_ok-part.ensures.shorter))),
      omega (arith, c.in_ok-next.ensures.shorter, c.in_ok-part.ensures.shorter, c.more.invariant.1),
    )

pub and_at-returns-clause-reads : goal.and_at-returns-clause-reads
and_at-returns-clause-reads t c = λ n h. ap (λ x. bind x (λ a rest. Got (together each a) rest)) (goes_done ((λ n. not_of c.args.limit n c.args.depth)) 38 (38 ∷ []) c.args.rest.now (map tree c.more.parts.items) c.more.after.now c.more.invariant.0 (sym c.begins.ensures ∙ c.more-test.false) n h) ∙ ap (λ x. Got x c.more.after.now) (sym c.all_of.ensures)

pub or_at-returns-in_err-first-clause-reads : goal.or_at-returns-in_err-first-clause-reads
or_at-returns-in_err-first-clause-reads t c = λ n h.
    let p = err_from_is_err_and c.from_residual.result c.from_residual.ensures.1 in
    rw (p.1, p.2) (fails_on c.in_err-first.field-0.0 (and_of (not_of c.args.limit n c.args.depth) n c.args.rest.now) (mapped (together some) (series (and_of (not_of c.args.limit n c.args.depth) n) 124 (124 ∷ []) n) c.args.rest.now) (c.in_err-first.ensures.reads n h)
    (λ why rest e. ap (λ x. bind x (λ a rest. Got (together some a) rest)) (series_goes (and_of (not_of c.args.limit n c.args.depth) n) 124 (124 ∷ []) n c.args.rest.now ∙ ap (λ x. bind x (going (and_of (not_of c.args.limit n c.args.depth) n) 124 (124 ∷ []) n)) e)))

pub or_at-more-init : goal.or_at-more-init
or_at-more-init t c = (
  rw c.in_ok-push.ensures.items (rw c.new-parts.ensures.items (goes_first ((λ n. and_of (not_of c.args.limit n c.args.depth) n)) 124 (124 ∷ []) c.args.rest.now (tree c.in_ok-first.first) c.in_ok-first.behind.now c.in_ok-first.ensures.reads (omega (arith, c.in_ok-first.ensures.shorter)))),
  omega (arith, c.in_ok-first.ensures.shorter),
)

pub or_at-returns-in_err-next-clause-reads : goal.or_at-returns-in_err-next-clause-reads
or_at-returns-in_err-next-clause-reads t c = λ n h.
    let p = err_from_is_err_and c.from_residual-in_err-next.result c.from_residual-in_err-next.ensures.1 in
    rw (p.1, p.2) (fails_on c.in_err-next.field-0.0 (mark (124 ∷ (124 ∷ [])) c.more.after.now) (mapped (together some) (series (and_of (not_of c.args.limit n c.args.depth) n) 124 (124 ∷ []) n) c.args.rest.now) c.in_err-next.ensures.reads
    (λ why rest e. ap (λ x. bind x (λ a rest. Got (together some a) rest)) (goes_stop_mark ((λ n. and_of (not_of c.args.limit n c.args.depth) n)) 124 (124 ∷ []) c.args.rest.now (map tree c.more.parts.items) c.more.after.now c.more.invariant.0 (sym c.begins.ensures ∙ c.more-test.true) why rest e n h)))

pub or_at-returns-in_err-part-clause-reads : goal.or_at-returns-in_err-part-clause-reads
or_at-returns-in_err-part-clause-reads t c = λ n h.
    let p = err_from_is_err_and c.from_residual-in_err-part.result c.from_residual-in_err-part.ensures.1 in
    rw (p.1, p.2) (fails_on c.in_err-part.field-0.0 (and_of (not_of c.args.limit n c.args.depth) n c.in_ok-next.next.now) (mapped (together some) (series (and_of (not_of c.args.limit n c.args.depth) n) 124 (124 ∷ []) n) c.args.rest.now) (c.in_err-part.ensures.reads n (omega (arith, c.in_ok-next.ensures.shorter, c.more.invariant.1)))
    (λ why rest e. ap (λ x. bind x (λ a rest. Got (together some a) rest)) (goes_stop_part ((λ n. and_of (not_of c.args.limit n c.args.depth) n)) 124 (124 ∷ []) c.args.rest.now (map tree c.more.parts.items) c.more.after.now c.more.invariant.0 (sym c.begins.ensures ∙ c.more-test.true) c.in_ok-next.next.now c.in_ok-next.ensures.reads n h why rest e)))

pub or_at-more-preserved : goal.or_at-more-preserved
or_at-more-preserved t c =
    let e : map tree c.push-in-more.new.self.items ≡ map tree c.more.parts.items ++ tree c.in_ok-part.part ∷ [] = rw c.in_ok-push-2.ensures.items (map_push _ c.more.parts.items c.in_ok-part.part) in (
      rw e (goes_next ((λ n. and_of (not_of c.args.limit n c.args.depth) n)) 124 (124 ∷ []) c.args.rest.now (map tree c.more.parts.items) c.more.after.now c.more.invariant.0 (sym c.begins.ensures ∙ c.more-test.true) (omega (arith, c.more.invariant.1)) c.in_ok-next.next.now c.in_ok-next.ensures.reads (omega (arith, c.in_ok-next.ensures.shorter)) (tree c.in_ok-part.part) c.in_ok-part.more.now c.in_ok-part.ensures.reads (omega (arith, c.in_ok-part.ensures.shorter))),
      omega (arith, c.in_ok-next.ensures.shorter, c.in_ok-part.ensures.shorter, c.more.invariant.1),
    )

pub or_at-returns-clause-reads : goal.or_at-returns-clause-reads
or_at-returns-clause-reads t c = λ n h. ap (λ x. bind x (λ a rest. Got (together some a) rest)) (goes_done ((λ n. and_of (not_of c.args.limit n c.args.depth) n)) 124 (124 ∷ []) c.args.rest.now (map tree c.more.parts.items) c.more.after.now c.more.invariant.0 (sym c.begins.ensures ∙ c.more-test.false) n h) ∙ ap (λ x. Got x c.more.after.now) (sym c.some_of.ensures)

pub group_at-returns-in_err-inner-clause-reads : goal.group_at-returns-in_err-inner-clause-reads
group_at-returns-in_err-inner-clause-reads t c = λ n h.
    let p = err_from_is_err_and c.from_residual-in_err-inner.result c.from_residual-in_err-inner.ensures.1 in
    let g = not_group c.args.limit n c.args.depth c.args.rest.now c.if-depth-eq0.false c.requires.other c.requires.open in
    rw (p.1, p.2) (fails_on c.in_err-inner.field-0.0 (or_of (not_of c.args.limit n (c.args.depth - 1)) n c.in_ok-after.after.now) (not_of c.args.limit n c.args.depth c.args.rest.now) (c.in_err-inner.ensures.reads n (omega (arith, c.in_ok-after.ensures.shorter)))
    (λ why rest e. g ∙ (ap (λ x. bind x (λ _. λ y. bind (or_of (not_of c.args.limit n (c.args.depth - 1)) n y) (λ t. mapped (λ _. t) (mark (41 ∷ []))))) c.in_ok-after.ensures.reads
    ∙ ap (λ x. bind x (λ t. mapped (λ _. t) (mark (41 ∷ [])))) e)))

pub group_at-returns-in_err-end-clause-reads : goal.group_at-returns-in_err-end-clause-reads
group_at-returns-in_err-end-clause-reads t c = λ n h.
    let p = err_from_is_err_and c.from_residual-in_err-end.result c.from_residual-in_err-end.ensures.1 in
    let g = not_group c.args.limit n c.args.depth c.args.rest.now c.if-depth-eq0.false c.requires.other c.requires.open in
    rw (p.1, p.2) (fails_on c.in_err-end.field-0.0 (mark (41 ∷ []) c.in_ok-inner.behind.now) (not_of c.args.limit n c.args.depth c.args.rest.now) c.in_err-end.ensures.reads
    (λ why rest e. g ∙ (ap (λ x. bind x (λ _. λ y. bind (or_of (not_of c.args.limit n (c.args.depth - 1)) n y) (λ t. mapped (λ _. t) (mark (41 ∷ []))))) c.in_ok-after.ensures.reads
    ∙ (ap (λ x. bind x (λ t. mapped (λ _. t) (mark (41 ∷ [])))) (c.in_ok-inner.ensures.reads n (omega (arith, c.in_ok-after.ensures.shorter)))
    ∙ ap (λ x. bind x (λ _ r. Got (tree c.in_ok-inner.inner) r)) e))))

pub group_at-returns-clause-reads : goal.group_at-returns-clause-reads
group_at-returns-clause-reads t c = λ n h.
    let g = not_group c.args.limit n c.args.depth c.args.rest.now c.if-depth-eq0.false c.requires.other c.requires.open in
    g ∙ (ap (λ x. bind x (λ _. λ y. bind (or_of (not_of c.args.limit n (c.args.depth - 1)) n y) (λ t. mapped (λ _. t) (mark (41 ∷ []))))) c.in_ok-after.ensures.reads
    ∙ (ap (λ x. bind x (λ t. mapped (λ _. t) (mark (41 ∷ [])))) (c.in_ok-inner.ensures.reads n (omega (arith, c.in_ok-after.ensures.shorter)))
    ∙ ap (λ x. bind x (λ _ r. Got (tree c.in_ok-inner.inner) r)) c.in_ok-end.ensures.reads))

pub not_at-returns-clause-reads : goal.not_at-returns-clause-reads
not_at-returns-clause-reads t c = λ n h. subst (Gives (λ x. tree x.0) (λ x. x.1.now) c.atom_at.result)
    (sym (not_atom c.args.limit n c.args.depth c.args.rest.now (sym c.begins.ensures ∙ c.if-begins.false) (sym c.begins-2.ensures ∙ c.if-begins-2.false)))
    (c.atom_at.ensures.reads n h)
