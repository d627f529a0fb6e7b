-- The reader of a keyword is exact.
use Rattle.std.proofs.Common.{◌≡◌, ℕ, Bool, true, false, cond, not, eqb, List, [], ◌∷◌, ◌++◌, refl, sym, ap, subst, ◌∙◌}
use Rattle.std.proofs.lemmas.Bool.{eqb-true, eq-eqb}
use Rattle.fx_selector.specs.Phrase.{Ends, is_key, not_key, Keyword}
use Rattle.fx_selector.specs.Reading.{unexpected, Res, Got, Stop, keyword}
use Rattle.fx_selector.proofs.Exact.{Filled, Opens, Outcome, Reads}
use Rattle.fx_selector.proofs.Marks.{opposite}

pub keyword_end : (rest : List ℕ) → Ends not_key rest → keyword [] rest ≡ Got tt rest
keyword_end [] e = refl
keyword_end (c ∷ cs) e = ap (λ x. cond x (Stop unexpected (c ∷ cs)) (Got tt (c ∷ cs))) (opposite (is_key c) e)

pub keyword_goes : (bytes rest : List ℕ) → Ends not_key rest → keyword bytes (bytes ++ rest) ≡ Got tt rest
keyword_goes [] rest e = keyword_end rest e
keyword_goes (b ∷ bs) rest e = ap (λ x. cond x (keyword bs (bs ++ rest)) (Stop unexpected (b ∷ bs ++ rest))) (eq-eqb b b refl) ∙ keyword_goes bs rest e

pub keyword_more : (b : ℕ) (bs : List ℕ) (cs : List ℕ) (x : Res (Unit {0})) → Outcome (Keyword bs) not_key (keyword bs) cs x → Outcome (Keyword (b ∷ bs)) not_key (keyword (b ∷ bs)) (b ∷ cs) x
keyword_more b bs cs (Got v rest) o = record { taken = b ∷ o.taken; whole = ap (λ x. b ∷ x) o.whole; phrase = ap (λ x. b ∷ x) o.phrase; ends = o.ends }
keyword_more b bs cs (Stop why rest) o = record {
  taken = b ∷ o.taken;
  whole = ap (λ x. b ∷ x) o.whole;
  opens = λ _. opened o.taken o.opens;
  fixed = λ c m e other. ap (λ x. cond x (keyword bs (o.taken ++ c ∷ other)) (Stop unexpected (b ∷ o.taken ++ c ∷ other))) (eq-eqb b b refl) ∙ o.fixed c m e other;
}
  where
    opened : (p : List ℕ) → (Filled p → Opens (Keyword bs) p) → Opens (Keyword (b ∷ bs)) (b ∷ p)
    opened [] f = (bs, tt, refl)
    opened (c ∷ cs) f = let w = f tt in (w.0, tt, ap (λ x. b ∷ x) w.2)

pub keyword_head : (b : ℕ) (bs : List ℕ) (c : ℕ) (cs : List ℕ) → Outcome (Keyword bs) not_key (keyword bs) cs (keyword bs cs) → (t : Bool) → eqb c b ≡ t → Outcome (Keyword (b ∷ bs)) not_key (keyword (b ∷ bs)) (c ∷ cs) (cond t (keyword bs cs) (Stop unexpected (c ∷ cs)))
keyword_head b bs c cs o true e = let same : b ≡ c = sym (eqb-true c b e) in subst (λ x. Outcome (Keyword (b ∷ bs)) not_key (keyword (b ∷ bs)) (x ∷ cs) (keyword bs cs)) same (keyword_more b bs cs (keyword bs cs) o)
keyword_head b bs c cs o false e = record {
  taken = [];
  whole = refl;
  opens = λ f. absurd f;
  fixed = λ d m h other. let same : c ≡ d = cc in ap (λ x. cond x (keyword bs other) (Stop unexpected (d ∷ other))) (subst (λ x. eqb x b ≡ false) same e);
}

pub keyword_last : (c : ℕ) (cs : List ℕ) (b : Bool) → is_key c ≡ b → Outcome (Keyword []) not_key (keyword []) (c ∷ cs) (cond b (Stop unexpected (c ∷ cs)) (Got tt (c ∷ cs)))
keyword_last c cs true e = record {
  taken = [];
  whole = refl;
  opens = λ f. absurd f;
  fixed = λ d m h other. let same : c ≡ d = cc in ap (λ x. cond x (Stop unexpected (d ∷ other)) (Got tt (d ∷ other))) (subst (λ x. is_key x ≡ true) same e);
}
keyword_last c cs false e = record { taken = []; whole = refl; phrase = refl; ends = ap not e }

pub keyword_outcome : (bytes text : List ℕ) → Outcome (Keyword bytes) not_key (keyword bytes) text (keyword bytes text)
keyword_outcome [] [] = record { taken = []; whole = refl; phrase = refl; ends = tt }
keyword_outcome [] (c ∷ cs) = keyword_last c cs (is_key c) refl
keyword_outcome (b ∷ bs) [] = record { taken = []; whole = refl; opens = λ f. absurd f; fixed = λ c m e other. cc }
keyword_outcome (b ∷ bs) (c ∷ cs) = keyword_head b bs c cs (keyword_outcome bs cs) (eqb c b) refl

pub keyword_reads : (b : ℕ) (bs : List ℕ) → Reads (Keyword (b ∷ bs)) not_key (keyword (b ∷ bs))
keyword_reads b bs = record {
  complete = λ p rest v h e. ap (λ x. keyword (b ∷ bs) (x ++ rest)) h ∙ keyword_goes (b ∷ bs) rest e;
  outcome = keyword_outcome (b ∷ bs);
  filled = λ p v h. subst Filled (sym h) tt;
}
