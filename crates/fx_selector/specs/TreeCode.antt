-- A code for trees: their nodes in prefix order, read back from the right.
use Rattle.std.specs.Prelude.{◌≡◌, ℕ, cond, eqb, List, [], ◌∷◌, ◌++◌, refl}
use Rattle.std.proofs.Common.{sym, ap, ◌∙◌, append_assoc, append-nil}
use Rattle.std.specs.Coded.{Coded, code_by, coded×, coded_list, coded_ℕ}
use Rattle.fx_selector.specs.Tree.{Tree, Trees, all, global, has, equal, unequal, within, outside, contains, starts, ends, negated, each, some, none, more}

-- a kind, a key and values
abbrev pub Step : Type 0
Step = ℕ × (List ℕ × List (List ℕ))

abbrev mutual
  pub steps : Tree → List Step
  steps all = (0, ([], [])) ∷ []
  steps global = (1, ([], [])) ∷ []
  steps (has k) = (2, (k, [])) ∷ []
  steps (equal k v) = (3, (k, v ∷ [])) ∷ []
  steps (unequal k v) = (4, (k, v ∷ [])) ∷ []
  steps (within k vs) = (5, (k, vs)) ∷ []
  steps (outside k vs) = (6, (k, vs)) ∷ []
  steps (contains k v) = (7, (k, v ∷ [])) ∷ []
  steps (starts k v) = (8, (k, v ∷ [])) ∷ []
  steps (ends k v) = (9, (k, v ∷ [])) ∷ []
  steps (negated t) = (10, ([], [])) ∷ steps t
  steps (each ts) = steps_of ts
  steps (some ts) = (11, ([], [])) ∷ steps_of ts

  -- the steps of their And
  pub steps_of : Trees → List Step
  steps_of none = (12, ([], [])) ∷ []
  steps_of (more t ts) = (13, ([], [])) ∷ (steps t ++ steps_of ts)

abbrev first : List (List ℕ) → List ℕ
first [] = []
first (v ∷ vs) = v

abbrev negate_top : List Tree → List Tree
negate_top [] = []
negate_top (t ∷ ts) = negated t ∷ ts

abbrev or_top : List Tree → List Tree
or_top (each us ∷ ts) = some us ∷ ts
or_top ts = ts

abbrev join_top : List Tree → List Tree
join_top (t ∷ each us ∷ ts) = each (more t us) ∷ ts
join_top ts = ts

abbrev leaf : ℕ → List ℕ → List (List ℕ) → Tree
leaf n k vs =
    cond (eqb n 0) all (cond (eqb n 1) global (cond (eqb n 2) (has k) (cond (eqb n 3) (equal k (first vs)) (cond (eqb n 4) (unequal k (first vs))
    (cond (eqb n 5) (within k vs) (cond (eqb n 6) (outside k vs) (cond (eqb n 7) (contains k (first vs)) (cond (eqb n 8) (starts k (first vs)) (cond (eqb n 9) (ends k (first vs)) (each none))))))))))

abbrev step : ℕ → List ℕ → List (List ℕ) → List Tree → List Tree
step n k vs ts = cond (eqb n 10) (negate_top ts) (cond (eqb n 11) (or_top ts) (cond (eqb n 13) (join_top ts) (leaf n k vs ∷ ts)))

abbrev pub run : List Step → List Tree
run [] = []
run (x ∷ xs) = step x.0 x.1.0 x.1.1 (run xs)

mutual
  run-steps : (t : Tree) (rest : List Step) → run (steps t ++ rest) ≡ t ∷ run rest
  run-steps all rest = refl
  run-steps global rest = refl
  run-steps (has k) rest = refl
  run-steps (equal k v) rest = refl
  run-steps (unequal k v) rest = refl
  run-steps (within k vs) rest = refl
  run-steps (outside k vs) rest = refl
  run-steps (contains k v) rest = refl
  run-steps (starts k v) rest = refl
  run-steps (ends k v) rest = refl
  run-steps (negated t) rest = ap negate_top (run-steps t rest)
  run-steps (each ts) rest = run-steps_of ts rest
  run-steps (some ts) rest = ap or_top (run-steps_of ts rest)

  run-steps_of : (ts : Trees) (rest : List Step) → run (steps_of ts ++ rest) ≡ each ts ∷ run rest
  run-steps_of none rest = refl
  run-steps_of (more t ts) rest =
      ap (λ xs. join_top (run xs)) (append_assoc (steps t) (steps_of ts) rest)
      ∙ (ap join_top (run-steps t (steps_of ts ++ rest)) ∙ ap (λ us. join_top (t ∷ us)) (run-steps_of ts rest))

abbrev top : List Tree → Tree
top [] = all
top (t ∷ ts) = t

abbrev pub made : List Step → Tree
made xs = top (run xs)

pub made-steps : (t : Tree) → made (steps t) ≡ t
made-steps t = ap made (sym (append-nil (steps t))) ∙ ap top (run-steps t [])

abbrev pub tree_code : Coded Tree
tree_code = code_by (List Step) (coded_list (coded× coded_ℕ (coded× (coded_list coded_ℕ) (coded_list (coded_list coded_ℕ))))) steps made made-steps
