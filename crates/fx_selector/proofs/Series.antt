-- A reader of a series is exact.
use Rattle.std.proofs.Common.{◌≡◌, ℕ, zero, suc, Bool, true, false, cond, not, ◌&&◌, eqb, inl, inr, List, [], ◌∷◌, ◌++◌, refl, sym, ap, subst, ◌∙◌, append_assoc, append-nil}
use Rattle.std.proofs.lemmas.Bool.{eqb-true, eq-eqb}
use Rattle.fx_selector.specs.Phrase.{Ends, Starts, Then, Mapped, Either, Nothing, Pick, Series, Mark, not_blank}
use Rattle.fx_selector.specs.Reading.{spent, Res, Got, Stop, bind, mapped, mark, pick, go_on, series, stop}
use Rattle.fx_selector.proofs.Exact.{Filled, Opens, Finds, Outcome, Reads, ends_after, seq}
use Rattle.fx_selector.proofs.Choice.{stops_all, map_reads}
use Rattle.fx_selector.proofs.Marks.{mark_reads}

pub picked : {A : Type 0} (b : Bool) (G H : List ℕ → A → Type 0) (ends : ℕ → Bool) (r s : List ℕ → Res A) → Reads G ends r → Reads H ends s → Reads (Pick b G H) ends (pick b r s)
picked true G H ends r s R S = record { complete = R.complete; outcome = R.outcome; filled = R.filled }
picked false G H ends r s R S = record { complete = S.complete; outcome = S.outcome; filled = S.filled }

module _ {A B : Type 0} (one : A → B) (test : ℕ → Bool) (G : List ℕ → A → Type 0) (T : A → List ℕ → B → Type 0) (stops ends : ℕ → Bool) (r : List ℕ → Res A) (t : A → List ℕ → Res B) (R : Reads G stops r) (S : (a : A) → Reads (T a) ends (t a)) (begins : (a : A) (p : List ℕ) (v : B) → T a p v → Starts test p) (test_stops : (c : ℕ) → test c ≡ true → stops c ≡ true) (ends_stops : (c : ℕ) → ends c ≡ true → (stops c ≡ true) × (test c ≡ false)) (stops_ends : (c : ℕ) → stops c ≡ true → test c ≡ false → ends c ≡ true) where
  abbrev pub Longer : List ℕ → B → Type 0
  Longer = Either (Mapped one G) (Then stops G T)

  abbrev pub longer : List ℕ → Res B
  longer text = bind (r text) (go_on one test t)

  pub ends_all : (rest : List ℕ) → Ends ends rest → Ends stops rest
  ends_all [] e = tt
  ends_all (c ∷ cs) e = (ends_stops c e).0

  pub go_end : (a : A) (rest : List ℕ) → Ends ends rest → go_on one test t a rest ≡ Got (one a) rest
  go_end a [] e = refl
  go_end a (c ∷ cs) e = ap (λ x. cond x (t a (c ∷ cs)) (Got (one a) (c ∷ cs))) (ends_stops c e).1

  pub go_more : (a : A) (p rest : List ℕ) → Starts test p → go_on one test t a (p ++ rest) ≡ t a (p ++ rest)
  go_more a [] rest h = absurd h
  go_more a (c ∷ cs) rest h = ap (λ x. cond x (t a (c ∷ cs ++ rest)) (Got (one a) (c ∷ cs ++ rest))) h

  pub longer_complete : (p rest : List ℕ) (v : B) → Longer p v → Ends ends rest → longer (p ++ rest) ≡ Got v rest
  longer_complete p rest v (inl m) e = ap (λ x. bind x (go_on one test t)) (R.complete p rest m.0 m.1 (ends_all rest e)) ∙ (go_end m.0 rest e ∙ ap (λ x. Got x rest) (sym m.2))
  longer_complete p rest v (inr h) e =
      let regrouped : p ++ rest ≡ h.prefix ++ (h.back ++ rest) = ap (λ x. x ++ rest) h.whole ∙ append_assoc h.prefix h.back rest in
      ap longer regrouped
      ∙ (ap (λ x. bind x (go_on one test t)) (R.complete h.prefix (h.back ++ rest) h.said h.first (ends_after stops h.back rest h.apart))
      ∙ (go_more h.said h.back rest (begins h.said h.back v h.second) ∙ (S h.said).complete h.back rest v h.second e))

  -- where more follows
  pub on_outcome : (text : List ℕ) (a : A) (c : ℕ) (cs : List ℕ) → Finds G stops text a (c ∷ cs) → test c ≡ true → (x : Res B) → Outcome (T a) ends (t a) (c ∷ cs) x → Outcome Longer ends longer text x
  on_outcome text a c cs f h (Got v rest) o = record {
    taken = f.taken ++ o.taken;
    whole = f.whole ∙ (ap (λ x. f.taken ++ x) o.whole ∙ sym (append_assoc f.taken o.taken rest));
    phrase = inr (record { prefix = f.taken; back = o.taken; said = a; whole = refl; first = f.phrase; apart = test_starts o.taken (begins a o.taken v o.phrase); second = o.phrase });
    ends = o.ends;
  }
    where
      test_starts : (p : List ℕ) → Starts test p → Starts stops p
      test_starts [] h = absurd h
      test_starts (c ∷ cs) h = test_stops c h
  on_outcome text a c cs f h (Stop why rest) o = record {
    taken = f.taken ++ o.taken;
    whole = f.whole ∙ (ap (λ x. f.taken ++ x) o.whole ∙ sym (append_assoc f.taken o.taken rest));
    opens = λ _. opened o.taken o.opens o.whole;
    fixed = λ d m e other.
        let w : c ∷ cs ≡ o.taken ++ d ∷ m = o.whole ∙ ap (λ x. o.taken ++ x) e in
        ap longer (append_assoc f.taken o.taken (d ∷ other))
        ∙ (ap (λ x. bind x (go_on one test t)) (R.complete f.taken (o.taken ++ d ∷ other) a f.phrase (still_ends o.taken d m other w))
        ∙ (still_more o.taken d m other w ∙ o.fixed d m e other));
  }
    where
      opened : (q : List ℕ) → (Filled q → Opens (T a) q) → c ∷ cs ≡ q ++ rest → Opens Longer (f.taken ++ q)
      opened [] g e = ([], one a, inl (a, subst (λ x. G x a) (sym (append-nil (f.taken ++ [])) ∙ refl) (subst (λ x. G x a) (sym (append-nil f.taken)) f.phrase), refl))
      opened (d ∷ ds) g e = let w = g tt in
          (w.0, w.1, inr (record { prefix = f.taken; back = d ∷ ds ++ w.0; said = a; whole = append_assoc f.taken (d ∷ ds) w.0; first = f.phrase; apart = (let same : c ≡ d = cc in subst (λ x. stops x ≡ true) same (test_stops c h)); second = w.2 }))

      still_ends : (q : List ℕ) (d : ℕ) (m other : List ℕ) → c ∷ cs ≡ q ++ d ∷ m → Ends stops (q ++ d ∷ other)
      still_ends [] d m other e = let same : c ≡ d = cc in subst (λ x. stops x ≡ true) same (test_stops c h)
      still_ends (q ∷ qs) d m other e = let same : c ≡ q = cc in subst (λ x. stops x ≡ true) same (test_stops c h)

      still_more : (q : List ℕ) (d : ℕ) (m other : List ℕ) → c ∷ cs ≡ q ++ d ∷ m → go_on one test t a (q ++ d ∷ other) ≡ t a (q ++ d ∷ other)
      still_more [] d m other e = go_more a (d ∷ []) other (let same : c ≡ d = cc in subst (λ x. test x ≡ true) same h)
      still_more (q ∷ qs) d m other e = go_more a (q ∷ qs) (d ∷ other) (let same : c ≡ q = cc in subst (λ x. test x ≡ true) same h)

  pub go_head : (text : List ℕ) (a : A) (c : ℕ) (cs : List ℕ) → Finds G stops text a (c ∷ cs) → (b : Bool) → test c ≡ b → Outcome Longer ends longer text (cond b (t a (c ∷ cs)) (Got (one a) (c ∷ cs)))
  go_head text a c cs f true h = on_outcome text a c cs f h (t a (c ∷ cs)) ((S a).outcome (c ∷ cs))
  go_head text a c cs f false h = record { taken = f.taken; whole = f.whole; phrase = inl (a, f.phrase, refl); ends = stops_ends c f.ends h }

  pub go_outcome : (text : List ℕ) (a : A) (mid : List ℕ) → Finds G stops text a mid → Outcome Longer ends longer text (go_on one test t a mid)
  go_outcome text a [] f = record { taken = f.taken; whole = f.whole; phrase = inl (a, f.phrase, refl); ends = tt }
  go_outcome text a (c ∷ cs) f = go_head text a c cs f (test c) refl

  pub longer_first : (text : List ℕ) (x : Res A) → Outcome G stops r text x → Outcome Longer ends longer text (bind x (go_on one test t))
  longer_first text (Got a mid) o = go_outcome text a mid o
  longer_first text (Stop why rest) o = record {
    taken = o.taken;
    whole = o.whole;
    opens = λ f. let w = o.opens f in (w.0, one w.1, inl (w.1, w.2, refl));
    fixed = λ c m e other. ap (λ x. bind x (go_on one test t)) (o.fixed c m e other);
  }

  pub longer_filled : (p : List ℕ) (v : B) → Longer p v → Filled p
  longer_filled p v (inl m) = R.filled p m.0 m.1
  longer_filled p v (inr h) = subst Filled (sym h.whole) (more_filled h.prefix h.back (R.filled h.prefix h.said h.first))
    where
      more_filled : (a b : List ℕ) → Filled a → Filled (a ++ b)
      more_filled [] b h = absurd h
      more_filled (c ∷ cs) b h = tt

  pub longer_reads : Reads Longer ends longer
  longer_reads = record { complete = longer_complete; outcome = λ text. longer_first text (r text) (R.outcome text); filled = longer_filled }

-- what may follow a series
abbrev pub past : (ℕ → Bool) → ℕ → ℕ → Bool
past stops b c = stops c && not (eqb c b)

pub both_parts : (x y : Bool) → (x && not y) ≡ true → (x ≡ true) × (y ≡ false)
both_parts true true e = cc
both_parts true false e = (refl, refl)
both_parts false y e = cc

module _ {A : Type 0} (G : List ℕ → A → Type 0) (stops : ℕ → Bool) (r : List ℕ → Res A) (R : Reads G stops r) (b : ℕ) (bs : List ℕ) (b_stops : stops b ≡ true) (some : (more : List ℕ) × (v : A) × Starts not_blank more × G more v) where
  pub mark_first : (n : ℕ) (a : A) (p : List ℕ) (v : List A) → Mapped (λ more. a ∷ more) (Then not_blank (Mark (b ∷ bs)) (λ _. Series stops G (b ∷ bs) n)) p v → Starts (λ c. eqb c b) p
  mark_first n a p v h = subst (Starts (λ c. eqb c b)) (sym (h.1.whole ∙ ap (λ x. x ++ h.1.back) h.1.first.2)) (eq-eqb b b refl)

  pub some_series : (n : ℕ) → (more : List ℕ) × (v : List A) × Starts not_blank more × Series stops G (b ∷ bs) n more v
  some_series zero = (some.0, some.1 ∷ [], some.2, inl (some.1, some.3, refl))
  some_series (suc n) = (some.0, some.1 ∷ [], some.2, inl (some.1, some.3, refl))

  pub test_stops : (c : ℕ) → eqb c b ≡ true → stops c ≡ true
  test_stops c e = subst (λ x. stops x ≡ true) (sym (eqb-true c b e)) b_stops

  pub join_parts : (x y : Bool) → x ≡ true → y ≡ false → (x && not y) ≡ true
  join_parts x y e f = cc

  pub series_reads : (n : ℕ) → Reads (Series stops G (b ∷ bs) n) (past stops b) (series r b bs n)
  series_reads zero = longer_reads (λ a. a ∷ []) (λ c. eqb c b) G (λ a. Nothing) stops (past stops b) r (λ a. stop spent) R
      (λ a. stops_all spent (past stops b)) (λ a p v h. absurd h) test_stops (λ c. both_parts (stops c) (eqb c b)) (λ c. join_parts (stops c) (eqb c b))
  series_reads (suc n) = longer_reads (λ a. a ∷ []) (λ c. eqb c b) G
      (λ a. Mapped (λ more. a ∷ more) (Then not_blank (Mark (b ∷ bs)) (λ _. Series stops G (b ∷ bs) n))) stops (past stops b) r
      (λ a. mapped (λ more. a ∷ more) (λ x. bind (mark (b ∷ bs) x) (λ _. series r b bs n))) R
      (λ a. map_reads (λ more. a ∷ more) (Then not_blank (Mark (b ∷ bs)) (λ _. Series stops G (b ∷ bs) n)) (past stops b) (λ x. bind (mark (b ∷ bs) x) (λ _. series r b bs n))
      (seq (Mark (b ∷ bs)) (λ _. Series stops G (b ∷ bs) n) not_blank (past stops b) (mark (b ∷ bs)) (λ _. series r b bs n) (mark_reads b bs) (λ _. series_reads n) (λ _. some_series n)))
      (mark_first n) test_stops (λ c. both_parts (stops c) (eqb c b)) (λ c. join_parts (stops c) (eqb c b))
