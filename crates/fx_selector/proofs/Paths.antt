-- Which way a reader goes.
use Rattle.std.proofs.Common.{◌≡◌, ◌≢◌, ℕ, zero, suc, ◌-◌, true, false, cond, eqb, List, [], ◌∷◌, length, refl, sym, ap, ◌∙◌, arith}
use Rattle.fx_selector.specs.Reading.{unexpected, Res, Got, Stop, bind, choose, mapped, mark, skip, word, led, begins_with}
use Rattle.fx_selector.specs.Tree.{Tree, within}
use Rattle.fx_selector.specs.Reader.{in_set, equal_test, unequal_test, outside_test, contains_test, starts_test, ends_test, call, test, word_test, atom, or_of, not_of, at_end, from_start, parsed}

pub choose_yes : {A : Type 0} (b : ℕ) (r s : List ℕ → Res A) (text : List ℕ) → begins_with b text ≡ true → choose (λ c. eqb c b) r s text ≡ r text
choose_yes b r s [] e = cc
choose_yes b r s (c ∷ cs) e = ap (λ x. cond x (r (c ∷ cs)) (s (c ∷ cs))) e

pub choose_no : {A : Type 0} (b : ℕ) (r s : List ℕ → Res A) (text : List ℕ) → begins_with b text ≡ false → choose (λ c. eqb c b) r s text ≡ s text
choose_no b r s [] e = refl
choose_no b r s (c ∷ cs) e = ap (λ x. cond x (r (c ∷ cs)) (s (c ∷ cs))) e

-- the test that the first byte tells
module _ (n : ℕ) (k rest : List ℕ) where
  abbrev past_equal : List ℕ → Res Tree
  past_equal = choose (λ c. eqb c 33) (unequal_test k) (word_test n k)

  abbrev past_contains : List ℕ → Res Tree
  past_contains = choose (λ c. eqb c 115) (starts_test k) (ends_test k)

  abbrev past_not : List ℕ → Res Tree
  past_not = choose (λ c. eqb c 99) (contains_test k) past_contains

  abbrev past_in : List ℕ → Res Tree
  past_in = choose (λ c. eqb c 110) (outside_test n k) past_not

  pub test_equal : begins_with 61 rest ≡ true → test n k rest ≡ equal_test k rest
  test_equal e = choose_yes 61 (equal_test k) past_equal rest e

  pub test_unequal : begins_with 61 rest ≡ false → begins_with 33 rest ≡ true → test n k rest ≡ unequal_test k rest
  test_unequal e f = choose_no 61 (equal_test k) past_equal rest e ∙ choose_yes 33 (unequal_test k) (word_test n k) rest f

  pub test_word : begins_with 61 rest ≡ false → begins_with 33 rest ≡ false → test n k rest ≡ word_test n k rest
  test_word e f = choose_no 61 (equal_test k) past_equal rest e ∙ choose_no 33 (unequal_test k) (word_test n k) rest f

  pub word_within : begins_with 105 rest ≡ true → word_test n k rest ≡ in_set (within k) n rest
  word_within e = choose_yes 105 (in_set (within k) n) past_in rest e

  no_in : begins_with 105 rest ≡ false → word_test n k rest ≡ past_in rest
  no_in e = choose_no 105 (in_set (within k) n) past_in rest e

  pub word_outside : begins_with 105 rest ≡ false → begins_with 110 rest ≡ true → word_test n k rest ≡ outside_test n k rest
  word_outside e f = no_in e ∙ choose_yes 110 (outside_test n k) past_not rest f

  no_not : begins_with 105 rest ≡ false → begins_with 110 rest ≡ false → word_test n k rest ≡ past_not rest
  no_not e f = no_in e ∙ choose_no 110 (outside_test n k) past_not rest f

  pub word_contains : begins_with 105 rest ≡ false → begins_with 110 rest ≡ false → begins_with 99 rest ≡ true → word_test n k rest ≡ contains_test k rest
  word_contains e f g = no_not e f ∙ choose_yes 99 (contains_test k) past_contains rest g

  no_contains : begins_with 105 rest ≡ false → begins_with 110 rest ≡ false → begins_with 99 rest ≡ false → word_test n k rest ≡ past_contains rest
  no_contains e f g = no_not e f ∙ choose_no 99 (contains_test k) past_contains rest g

  pub word_starts : begins_with 105 rest ≡ false → begins_with 110 rest ≡ false → begins_with 99 rest ≡ false → begins_with 115 rest ≡ true → word_test n k rest ≡ starts_test k rest
  word_starts e f g h = no_contains e f g ∙ choose_yes 115 (starts_test k) (ends_test k) rest h

  pub word_ends : begins_with 105 rest ≡ false → begins_with 110 rest ≡ false → begins_with 99 rest ≡ false → begins_with 115 rest ≡ false → word_test n k rest ≡ ends_test k rest
  word_ends e f g h = no_contains e f g ∙ choose_no 115 (starts_test k) (ends_test k) rest h

module _ (limit n : ℕ) (rest w behind after : List ℕ) (read : word limit rest ≡ Got w behind) (past : after ≡ skip behind) where
  pub atom_follow : atom limit n rest ≡ choose (λ c. eqb c 40) (call limit w) (test n w) after
  atom_follow = ap (λ x. bind x (λ w. led (choose (λ c. eqb c 40) (call limit w) (test n w)))) read ∙ ap (choose (λ c. eqb c 40) (call limit w) (test n w)) (sym past)

  pub atom_call : begins_with 40 after ≡ true → atom limit n rest ≡ call limit w after
  atom_call e = atom_follow ∙ choose_yes 40 (call limit w) (test n w) after e

  pub atom_test : begins_with 40 after ≡ false → atom limit n rest ≡ test n w after
  atom_test e = atom_follow ∙ choose_no 40 (call limit w) (test n w) after e

-- at a `!` or a `(`
module _ (limit n : ℕ) where
  pub group_here : (d : ℕ) (rest : List ℕ) → begins_with 33 rest ≡ false → begins_with 40 rest ≡ true → not_of limit n (suc d) rest ≡ bind (mark (40 ∷ []) rest) (λ _. λ y. bind (or_of (not_of limit n d) n y) (λ t. mapped (λ _. t) (mark (41 ∷ []))))
  group_here d [] e f = cc
  group_here d (c ∷ cs) e f = rw (e, f) refl

  pub not_group : (depth : ℕ) (rest : List ℕ) → depth ≢ 0 → begins_with 33 rest ≡ false → begins_with 40 rest ≡ true → not_of limit n depth rest ≡ bind (mark (40 ∷ []) rest) (λ _. λ y. bind (or_of (not_of limit n (depth - 1)) n y) (λ t. mapped (λ _. t) (mark (41 ∷ []))))
  not_group depth rest h e f = let k : depth ≡ suc (depth - 1) = omega arith in ap (λ x. not_of limit n x rest) k ∙ group_here (depth - 1) rest e f

  pub not_atom : (depth : ℕ) (rest : List ℕ) → begins_with 33 rest ≡ false → begins_with 40 rest ≡ false → not_of limit n depth rest ≡ atom limit n rest
  not_atom zero [] e f = refl
  not_atom (suc d) [] e f = refl
  not_atom zero (c ∷ cs) e f = rw (e, f) refl
  not_atom (suc d) (c ∷ cs) e f = rw (e, f) refl

-- behind the whole text's blanks
module _ (limit n depth : ℕ) (text start : List ℕ) (past : start ≡ skip text) where
  pub parsed_filled : length start ≢ 0 → parsed limit n depth text ≡ at_end (or_of (not_of limit n depth) n start)
  parsed_filled h = ap (from_start (or_of (not_of limit n depth) n)) (sym past) ∙ filled start h
    where
      filled : (x : List ℕ) → length x ≢ 0 → from_start (or_of (not_of limit n depth) n) x ≡ at_end (or_of (not_of limit n depth) n x)
      filled [] h = absurd (h refl)
      filled (c ∷ cs) h = refl

pub end_here : (t : Tree) (rest : List ℕ) → length rest ≡ 0 → at_end (Got t rest) ≡ Got t []
end_here t [] h = refl
end_here t (c ∷ cs) h = absurd (omega arith)

pub more_here : (t : Tree) (rest : List ℕ) → length rest ≢ 0 → at_end (Got t rest) ≡ Stop unexpected rest
more_here t [] h = absurd (h refl)
more_here t (c ∷ cs) h = refl
