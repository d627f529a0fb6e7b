use Rattle.std.proofs.Common.{◌++◌, ◌∙◌, ℕ, List, take, drop, ap, sym, append_assoc, arith}
use Rattle.std.proofs.lemmas.List.{take-append-drop, take_all, length-drop}
use Rattle.fx_base.proofs.Compose.{Appends-more}
use Rattle.fx_stdio.proofs.adapters.write_whole.Goals as goal

pub loop-rest-preserved : goal.loop-rest-preserved
loop-rest-preserved g c =
    let was = c.loop-rest.invariant in
    let rest = c.loop-rest.rest.now in
    let taken = take c.in-Ok.taken rest in
    let left = drop c.in-Ok.taken rest in (
      was.0 ++ taken,
      was.1 ∙ ap (λ (l : List ℕ). was.0 ++ l) (sym (take-append-drop c.in-Ok.taken rest)) ∙ sym (append_assoc was.0 taken left) ∙ ap (λ (l : List ℕ). (was.0 ++ taken) ++ l) (sym (take_all _ left (omega (arith, length-drop c.in-Ok.taken rest)))),
      Appends-more _ _ _ was.0 taken was.2 c.in-Ok.ensures.bytes,
    )
