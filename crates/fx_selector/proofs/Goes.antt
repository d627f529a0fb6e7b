-- The steps of a loop over a series.
use Rattle.std.proofs.Common.{◌≡◌, ℕ, zero, suc, ◌<◌, ◌≤◌, true, false, cond, List, [], ◌∷◌, ◌++◌, length, refl, sym, ap, ◌∙◌, append_assoc, arith}
use Rattle.fx_selector.specs.Reading.{Cause, spent, Res, Got, Stop, bind, mapped, mark, series, begins_with}
use Rattle.fx_selector.specs.Going.{with_list, going, Going}

pub series_goes : {A : Type 0} (r : List ℕ → Res A) (b : ℕ) (bs : List ℕ) (k : ℕ) (text : List ℕ) → series r b bs k text ≡ bind (r text) (going r b bs k)
series_goes r b bs zero text = refl
series_goes r b bs (suc n) text = refl

pub nothing_before : {A : Type 0} (x : Res (List A)) → with_list [] x ≡ x
nothing_before (Got v rest) = refl
nothing_before (Stop why rest) = refl

pub one_before : {A : Type 0} (pre : List A) (a : A) (x : Res (List A)) → with_list pre (bind x (λ more rest. Got (a ∷ more) rest)) ≡ with_list (pre ++ a ∷ []) x
one_before pre a (Got v rest) = ap (λ z. Got z rest) (sym (append_assoc pre (a ∷ []) v))
one_before pre a (Stop why rest) = refl

module _ {A : Type 0} (r : ℕ → List ℕ → Res A) (b : ℕ) (bs : List ℕ) (start : List ℕ) where
  pub goes_first : (a : A) (after : List ℕ) → ((n : ℕ) → length start < n → r n start ≡ Got a after) → length after ≤ length start → Going r b bs start (a ∷ []) after
  goes_first a after h l n m = (n, [], a, refl, omega arith, nothing_before (going (r n) b bs n a after) ∙ sym (series_goes (r n) b bs n start ∙ ap (λ x. bind x (going (r n) b bs n)) (h n m)))

  pub goes_end : (k : ℕ) (s : List ℕ → Res A) (a : A) (after : List ℕ) → begins_with b after ≡ false → going s b bs k a after ≡ Got (a ∷ []) after
  goes_end zero s a [] e = refl
  goes_end (suc k) s a [] e = refl
  goes_end zero s a (c ∷ cs) e = ap (λ x. cond x (Stop spent (c ∷ cs)) (Got (a ∷ []) (c ∷ cs))) e
  goes_end (suc k) s a (c ∷ cs) e = ap (λ x. cond x (mapped (λ more. a ∷ more) (λ x. bind (mark (b ∷ bs) x) (λ _. series s b bs k)) (c ∷ cs)) (Got (a ∷ []) (c ∷ cs))) e

  pub goes_done : (parts : List A) (after : List ℕ) → Going r b bs start parts after → begins_with b after ≡ false → (n : ℕ) → length start < n → series (r n) b bs n start ≡ Got parts after
  goes_done parts after g e n m = let w = g n m in sym w.5 ∙ (ap (with_list w.1) (goes_end w.0 (r n) w.2 after e) ∙ ap (λ z. Got z after) (sym w.3))

  -- one more mark, and what is read behind it
  pub goes_on : (k : ℕ) (s : List ℕ → Res A) (a : A) (after : List ℕ) → begins_with b after ≡ true → length after ≤ suc k → going s b bs (suc k) a after ≡ bind (bind (mark (b ∷ bs) after) (λ _. series s b bs k)) (λ more rest. Got (a ∷ more) rest)
  goes_on k s a [] e l = cc
  goes_on k s a (c ∷ cs) e l = ap (λ x. cond x (mapped (λ more. a ∷ more) (λ x. bind (mark (b ∷ bs) x) (λ _. series s b bs k)) (c ∷ cs)) (Got (a ∷ []) (c ∷ cs))) e

  pub some_left : (after : List ℕ) → begins_with b after ≡ true → 0 < length after
  some_left [] e = cc
  some_left (c ∷ cs) e = omega arith

  pub goes_more : (k : ℕ) (pre : List A) (s : List ℕ → Res A) (a : A) (after : List ℕ) → begins_with b after ≡ true → length after ≤ k → (j : ℕ) × (k ≡ suc j) × (with_list pre (going s b bs k a after) ≡ with_list (pre ++ a ∷ []) (bind (mark (b ∷ bs) after) (λ _. series s b bs j)))
  goes_more zero pre s a after e l = absurd (omega (arith, some_left after e))
  goes_more (suc j) pre s a after e l = (j, refl, ap (with_list pre) (goes_on j s a after e l) ∙ one_before pre a (bind (mark (b ∷ bs) after) (λ _. series s b bs j)))

  pub goes_next : (parts : List A) (after : List ℕ) → Going r b bs start parts after → begins_with b after ≡ true → length after ≤ length start → (next : List ℕ) → mark (b ∷ bs) after ≡ Got tt next → length next < length after → (a : A) (more : List ℕ) → ((n : ℕ) → length next < n → r n next ≡ Got a more) → length more ≤ length next → Going r b bs start (parts ++ a ∷ []) more
  goes_next parts after g e lo next m l a more h s n z =
      let w = g n z in
      let v = goes_more w.0 w.1 (r n) w.2 after e w.4 in
      let same : with_list (w.1 ++ w.2 ∷ []) (bind (mark (b ∷ bs) after) (λ _. series (r n) b bs v.0)) ≡ with_list parts (going (r n) b bs v.0 a more) =
      ap (λ x. with_list (w.1 ++ w.2 ∷ []) (bind x (λ _. series (r n) b bs v.0))) m
      ∙ (ap (with_list (w.1 ++ w.2 ∷ [])) (series_goes (r n) b bs v.0 next ∙ ap (λ x. bind x (going (r n) b bs v.0)) (h n (omega arith)))
      ∙ ap (λ y. with_list y (going (r n) b bs v.0 a more)) (sym w.3)) in
      (v.0, parts, a, refl, (let k : w.0 ≡ suc v.0 = v.1 in let q : length after ≤ w.0 = w.4 in omega arith), sym same ∙ (sym v.2 ∙ w.5))

  pub goes_stop_mark : (parts : List A) (after : List ℕ) → Going r b bs start parts after → begins_with b after ≡ true → (why : Cause) (rest : List ℕ) → mark (b ∷ bs) after ≡ Stop why rest → (n : ℕ) → length start < n → series (r n) b bs n start ≡ Stop why rest
  goes_stop_mark parts after g e why rest m n z =
      let w = g n z in
      let v = goes_more w.0 w.1 (r n) w.2 after e w.4 in
      sym w.5 ∙ (v.2 ∙ ap (λ x. with_list (w.1 ++ w.2 ∷ []) (bind x (λ _. series (r n) b bs v.0))) m)

  pub goes_stop_part : (parts : List A) (after : List ℕ) → Going r b bs start parts after → begins_with b after ≡ true → (next : List ℕ) → mark (b ∷ bs) after ≡ Got tt next → (n : ℕ) → length start < n → (why : Cause) (rest : List ℕ) → r n next ≡ Stop why rest → series (r n) b bs n start ≡ Stop why rest
  goes_stop_part parts after g e next m n z why rest h =
      let w = g n z in
      let v = goes_more w.0 w.1 (r n) w.2 after e w.4 in
      sym w.5 ∙ (v.2 ∙ (ap (λ x. with_list (w.1 ++ w.2 ∷ []) (bind x (λ _. series (r n) b bs v.0))) m ∙ ap (with_list (w.1 ++ w.2 ∷ [])) (series_goes (r n) b bs v.0 next ∙ ap (λ x. bind x (going (r n) b bs v.0)) h)))
