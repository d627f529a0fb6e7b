-- How a loop over the operations goes on by one.
use Rattle.std.proofs.Common.{◌≡◌, ◌≤◌, ◌<◌, ◌+◌, ℕ, List, [], ◌∷◌, ◌++◌, drop, take, length, get_or, refl, sym, ap, ◌∙◌, append_assoc, Result, Ok, Err}
use Rattle.std.specs.Prelude.{OnOk}
use Rattle.std.proofs.lemmas.List.{drop_all, append-nil, take_more}
use Rattle.std.proofs.lemmas.Grind.{flat_map-append}
use Rattle.fx_model.specs.Tables.{Tables}
use Rattle.fx_reconcile.specs.declared.op.Op.{Op}
use Rattle.fx_reconcile.specs.Goal.{after_all}
use Rattle.fx_reconcile.specs.Operations.{applied}
use Rattle.fx_leading.specs.Lines.{op_line, op_lines}

module _ (goal : Tables) (piece all : List ℕ) where
  -- what was written, the next line, and the lines behind it are all lines
  pub line_more : (ops rest : List Op) (op : Op) → ops ≡ op ∷ rest → piece ++ op_lines goal ops ≡ all → (piece ++ op_line goal op) ++ op_lines goal rest ≡ all
  line_more ops rest op is e =
      append_assoc piece (op_line goal op) (op_lines goal rest) ∙ ap (λ (os : List Op). piece ++ op_lines goal os) (sym is) ∙ e

  pub line_next : (ops rest : List Op) (op : Op) → ops ≡ op ∷ rest → piece ++ op_lines goal ops ≡ all → piece ++ (op_line goal op ++ op_lines goal rest) ≡ all
  line_next ops rest op is e = ap (λ (os : List Op). piece ++ op_lines goal os) (sym is) ∙ e

  -- behind the last operation all is written
  pub lines_end : (ops : List Op) (i : ℕ) → length ops ≤ i → piece ++ op_lines goal (drop i ops) ≡ all → piece ≡ all
  lines_end ops i past e =
      sym (append-nil piece) ∙ ap (λ (os : List Op). piece ++ op_lines goal os) (sym (drop_all i ops past)) ∙ e

-- what holds anyway holds after a call that succeeds
pub on_ok_always : {T E P : Type 0} (r : Result T E) → P → OnOk r P
on_ok_always (Ok x) holds = holds
on_ok_always (Err e) holds = tt

-- ---- the operations that were done

module _ (ops : List Op) (i : ℕ) (op : Op) (less : i < length ops) (is : op ≡ get_or ops i op) where
  -- one more of them
  pub one_more : take (i + 1) ops ≡ take i ops ++ op ∷ []
  one_more = take_more ops i op less ∙ ap (λ (x : Op). take i ops ++ x ∷ []) (sym is)

  -- and its line
  pub lines_more : (goal : Tables) → op_lines goal (take i ops) ++ op_line goal op ≡ op_lines goal (take (i + 1) ops)
  lines_more goal =
      ap (λ (l : List ℕ). op_lines goal (take i ops) ++ l) (sym (append-nil (op_line goal op)))
      ∙ sym (flat_map-append (op_line goal) (take i ops) (op ∷ []))
      ∙ ap (op_lines goal) (sym one_more)

pub after_more : (ops : List Op) (op : Op) (now goal : Tables) → applied op (after_all ops now goal) goal ≡ after_all (ops ++ op ∷ []) now goal
after_more [] op now goal = refl
after_more (o ∷ ops) op now goal = after_more ops op (applied o now goal) goal
