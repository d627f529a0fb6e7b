-- The readers of strings and words are exact.
use Rattle.std.proofs.Common.{◌≡◌, ℕ, zero, suc, ◌<◌, ◌≤◌, Bool, true, false, cond, not, ◌&&◌, leb, eqb, List, [], ◌∷◌, ◌++◌, length, refl, sym, ap, subst, ◌∙◌, append_assoc, append-nil, arith}
use Rattle.std.proofs.lemmas.Bool.{eqb-true, eq-eqb}
use Rattle.fx_selector.specs.Phrase.{Ends, Starts, Each, is_blank, not_blank, is_key, not_key, is_text, Closed, Word, Led}
use Rattle.fx_selector.specs.Reading.{unexpected, long, Res, Got, Stop, bind, skip, closed, run, word, led}
use Rattle.fx_selector.proofs.Exact.{Filled, Opens, Outcome, Reads, ends_after}
use Rattle.fx_selector.proofs.Marks.{opposite, skip_blanks, Skips, skips}

abbrev pub with_prefix : ℕ → Res (List ℕ) → Res (List ℕ)
with_prefix c x = bind x (λ v rest. Got (c ∷ v) rest)

-- a byte that closes no string of its own kind
pub text_no_quote : (q c : ℕ) → is_text q c ≡ true → eqb c q ≡ false
unfolding is_text
text_no_quote q c e = second (leb 32 c && not (eqb c 127)) (eqb c q) e
  where
    second : (a b : Bool) → (a && not b) ≡ true → b ≡ false
    second true true e = cc
    second true false e = refl
    second false b e = cc

pub closed_end : (q : ℕ) (rest : List ℕ) → closed q (q ∷ rest) ≡ Got [] (skip rest)
closed_end q rest = ap (λ x. cond x (Got [] (skip rest)) (cond (is_text q q) (with_prefix q (closed q rest)) (Stop unexpected (q ∷ rest)))) (eq-eqb q q refl)

pub closed_on : (q c : ℕ) (cs : List ℕ) → is_text q c ≡ true → closed q (c ∷ cs) ≡ with_prefix c (closed q cs)
closed_on q c cs e =
    ap (λ x. cond x (Got [] (skip cs)) (cond (is_text q c) (with_prefix c (closed q cs)) (Stop unexpected (c ∷ cs)))) (text_no_quote q c e)
    ∙ ap (λ x. cond x (with_prefix c (closed q cs)) (Stop unexpected (c ∷ cs))) e

pub closed_goes : (q : ℕ) (v blank rest : List ℕ) → Each (is_text q) v → Each is_blank blank → Ends not_blank rest → closed q (v ++ (q ∷ (blank ++ rest))) ≡ Got v rest
closed_goes q [] blank rest h b e = closed_end q (blank ++ rest) ∙ ap (Got []) (skip_blanks blank rest b e)
closed_goes q (c ∷ cs) blank rest h b e = closed_on q c (cs ++ (q ∷ (blank ++ rest))) h.0 ∙ ap (with_prefix c) (closed_goes q cs blank rest h.1 b e)

pub closed_complete : (q : ℕ) (p rest : List ℕ) (v : List ℕ) → Closed q p v → Ends not_blank rest → closed q (p ++ rest) ≡ Got v rest
closed_complete q p rest v h e = ap (λ x. closed q (x ++ rest)) h.3 ∙ (ap (closed q) (append_assoc v (q ∷ h.0) rest) ∙ closed_goes q v h.0 rest h.1 h.2 e)

pub closed_more : (q c : ℕ) (cs : List ℕ) → is_text q c ≡ true → (x : Res (List ℕ)) → Outcome (Closed q) not_blank (closed q) cs x → Outcome (Closed q) not_blank (closed q) (c ∷ cs) (with_prefix c x)
closed_more q c cs t (Got v rest) o = record { taken = c ∷ o.taken; whole = ap (λ x. c ∷ x) o.whole; phrase = (o.phrase.0, (t, o.phrase.1), o.phrase.2, ap (λ x. c ∷ x) o.phrase.3); ends = o.ends }
closed_more q c cs t (Stop why rest) o = record {
  taken = c ∷ o.taken;
  whole = ap (λ x. c ∷ x) o.whole;
  opens = λ _. opened o.taken o.opens;
  fixed = λ d m e other. closed_on q c (o.taken ++ d ∷ other) t ∙ ap (with_prefix c) (o.fixed d m e other);
}
  where
    opened : (p : List ℕ) → (Filled p → Opens (Closed q) p) → Opens (Closed q) (c ∷ p)
    opened [] f = (q ∷ [], c ∷ [], ([], (t, tt), tt, refl))
    opened (d ∷ ds) f = let w = f tt in (w.0, c ∷ w.1, (w.2.0, (t, w.2.1), w.2.2, ap (λ x. c ∷ x) w.2.3))

pub closed_head : (q c : ℕ) (cs : List ℕ) → Outcome (Closed q) not_blank (closed q) cs (closed q cs) → (a b : Bool) → eqb c q ≡ a → is_text q c ≡ b → Outcome (Closed q) not_blank (closed q) (c ∷ cs) (cond a (Got [] (skip cs)) (cond b (with_prefix c (closed q cs)) (Stop unexpected (c ∷ cs))))
closed_head q c cs o true b e f = let s = skips cs in record { taken = q ∷ s.blank; whole = ap (λ x. x ∷ cs) (eqb-true c q e) ∙ ap (λ x. q ∷ x) s.whole; phrase = (s.blank, tt, s.each, refl); ends = s.ends }
closed_head q c cs o false true e f = closed_more q c cs f (closed q cs) o
closed_head q c cs o false false e f = record {
  taken = [];
  whole = refl;
  opens = λ h. absurd h;
  fixed = λ d m h other. let same : c ≡ d = cc in
      ap (λ x. cond x (Got [] (skip other)) (cond (is_text q d) (with_prefix d (closed q other)) (Stop unexpected (d ∷ other)))) (subst (λ x. eqb x q ≡ false) same e)
      ∙ ap (λ x. cond x (with_prefix d (closed q other)) (Stop unexpected (d ∷ other))) (subst (λ x. is_text q x ≡ false) same f);
}

pub closed_outcome : (q : ℕ) (text : List ℕ) → Outcome (Closed q) not_blank (closed q) text (closed q text)
closed_outcome q [] = record { taken = []; whole = refl; opens = λ f. absurd f; fixed = λ c m e other. cc }
closed_outcome q (c ∷ cs) = closed_head q c cs (closed_outcome q cs) (eqb c q) (is_text q c) refl refl

pub closed_filled : (q : ℕ) (v blank : List ℕ) → Filled (v ++ q ∷ blank)
closed_filled q [] blank = tt
closed_filled q (c ∷ cs) blank = tt

pub closed_reads : (q : ℕ) → Reads (Closed q) not_blank (closed q)
closed_reads q = record {
  complete = closed_complete q;
  outcome = closed_outcome q;
  filled = λ p v h. subst Filled (sym h.3) (closed_filled q v h.0);
}

-- a run of key bytes, maybe none
pub run_goes : (k : ℕ) (p rest : List ℕ) → Each is_key p → length p ≤ k → Ends not_key rest → run k (p ++ rest) ≡ Got p rest
run_goes k [] [] h l e = empty k
  where
    empty : (k : ℕ) → run k [] ≡ Got [] []
    empty zero = refl
    empty (suc k) = refl
run_goes zero [] (c ∷ cs) h l e = ap (λ x. cond x (Stop long (c ∷ cs)) (Got [] (c ∷ cs))) (opposite (is_key c) e)
run_goes (suc k) [] (c ∷ cs) h l e = ap (λ x. cond x (with_prefix c (run k cs)) (Got [] (c ∷ cs))) (opposite (is_key c) e)
run_goes zero (c ∷ cs) rest h l e = absurd (omega arith)
run_goes (suc k) (c ∷ cs) rest h l e =
    ap (λ x. cond x (with_prefix c (run k (cs ++ rest))) (Got [] (c ∷ cs ++ rest))) h.0
    ∙ ap (with_prefix c) (run_goes k cs rest h.1 (omega arith) e)

-- the run, what stops it, and whether the limit did
abbrev pub Ran : ℕ → List ℕ → Res (List ℕ) → Type 0
Ran k text (Got v rest) = (text ≡ v ++ rest) × Each is_key v × (length v ≤ k) × Ends not_key rest
Ran k text (Stop why rest) = (taken : List ℕ) × (text ≡ taken ++ rest) × Each is_key taken × (length taken ≤ k) × ((c : ℕ) (m : List ℕ) → rest ≡ c ∷ m → (other : List ℕ) → run k (taken ++ c ∷ other) ≡ Stop why (c ∷ other)) × Filled rest

pub ran_more : (k c : ℕ) (cs : List ℕ) → is_key c ≡ true → (x : Res (List ℕ)) → Ran k cs x → Ran (suc k) (c ∷ cs) (with_prefix c x)
ran_more k c cs t (Got v rest) o = (ap (λ x. c ∷ x) o.0, (t, o.1), omega arith, o.3)
ran_more k c cs t (Stop why rest) o = (
  c ∷ o.0,
  ap (λ x. c ∷ x) o.1,
  (t, o.2),
  omega arith,
  λ d m e other. ap (λ x. cond x (with_prefix c (run k (o.0 ++ d ∷ other))) (Got [] (c ∷ o.0 ++ d ∷ other))) t ∙ ap (with_prefix c) (o.4 d m e other),
  o.5,
)

pub ran_full : (c : ℕ) (cs : List ℕ) (b : Bool) → is_key c ≡ b → Ran zero (c ∷ cs) (cond b (Stop long (c ∷ cs)) (Got [] (c ∷ cs)))
ran_full c cs true e = ([], refl, tt, omega arith, (λ d m h other. let same : c ≡ d = cc in ap (λ x. cond x (Stop long (d ∷ other)) (Got [] (d ∷ other))) (subst (λ x. is_key x ≡ true) same e)), tt)
ran_full c cs false e = (refl, tt, omega arith, ap not e)

pub ran_head : (k c : ℕ) (cs : List ℕ) → Ran k cs (run k cs) → (b : Bool) → is_key c ≡ b → Ran (suc k) (c ∷ cs) (cond b (with_prefix c (run k cs)) (Got [] (c ∷ cs)))
ran_head k c cs o true e = ran_more k c cs e (run k cs) o
ran_head k c cs o false e = (refl, tt, omega arith, ap not e)

pub ran : (k : ℕ) (text : List ℕ) → Ran k text (run k text)
ran zero [] = (refl, tt, omega arith, tt)
ran (suc k) [] = (refl, tt, omega arith, tt)
ran zero (c ∷ cs) = ran_full c cs (is_key c) refl
ran (suc k) (c ∷ cs) = ran_head k c cs (ran k cs) (is_key c) refl

-- a word
pub word_complete : (k : ℕ) (p rest v : List ℕ) → Word k p v → Ends not_key rest → word k (p ++ rest) ≡ Got v rest
word_complete k [] rest v h e = absurd (omega arith)
word_complete k (c ∷ cs) rest v h e =
    ap (λ x. cond x (run k (c ∷ cs ++ rest)) (Stop unexpected (c ∷ cs ++ rest))) h.0.0
    ∙ (run_goes k (c ∷ cs) rest h.0 h.2 e ∙ ap (λ x. Got x rest) (sym h.3))

pub word_of_run : (k : ℕ) → 0 < k → (c : ℕ) (cs : List ℕ) → is_key c ≡ true → (x : Res (List ℕ)) → x ≡ run k (c ∷ cs) → Ran k (c ∷ cs) x → Outcome (Word k) not_key (word k) (c ∷ cs) x
word_of_run k pos c cs t (Got v rest) from o = record { taken = v; whole = o.0; phrase = (o.1, some v o.0, o.2, refl); ends = o.3 }
  where
    some : (v : List ℕ) → c ∷ cs ≡ v ++ rest → 0 < length v
    some [] e = absurd (clash k pos (subst (λ z. Ends not_key z) (sym e) (subst (λ z. Ends not_key z) refl (ends_here v e))))
      where
        ends_here : (v : List ℕ) → c ∷ cs ≡ [] ++ rest → Ends not_key rest
        ends_here v e = o.3

        clash : (k : ℕ) → 0 < k → not_key c ≡ true → ⊥
        clash k pos h = let z : not true ≡ true = subst (λ x. not x ≡ true) t h in cc
    some (d ∷ ds) e = omega arith
word_of_run k pos c cs t (Stop why rest) from o = record {
  taken = o.0;
  whole = o.1;
  opens = λ f. ([], o.0, (subst (Each is_key) (sym (append-nil o.0)) o.2, subst (λ x. 0 < length x) (sym (append-nil o.0)) (size o.0 f), subst (λ x. length x ≤ k) (sym (append-nil o.0)) o.3, sym (append-nil o.0)));
  fixed = λ d m e other. same_head o.0 d other o.1 m e ∙ o.4 d m e other;
}
  where
    size : (p : List ℕ) → Filled p → 0 < length p
    size [] f = absurd f
    size (d ∷ ds) f = omega arith

    same_head : (p : List ℕ) (d : ℕ) (other : List ℕ) → c ∷ cs ≡ p ++ rest → (m : List ℕ) → rest ≡ d ∷ m → word k (p ++ d ∷ other) ≡ run k (p ++ d ∷ other)
    same_head [] d other e m f = let same : c ≡ d = cc in ap (λ x. cond x (run k (d ∷ other)) (Stop unexpected (d ∷ other))) (subst (λ x. is_key x ≡ true) same t)
    same_head (q ∷ qs) d other e m f = let same : c ≡ q = cc in ap (λ x. cond x (run k (q ∷ qs ++ d ∷ other)) (Stop unexpected (q ∷ qs ++ d ∷ other))) (subst (λ x. is_key x ≡ true) same t)

pub word_head : (k : ℕ) → 0 < k → (c : ℕ) (cs : List ℕ) (b : Bool) → is_key c ≡ b → Outcome (Word k) not_key (word k) (c ∷ cs) (cond b (run k (c ∷ cs)) (Stop unexpected (c ∷ cs)))
word_head k pos c cs true e = word_of_run k pos c cs e (run k (c ∷ cs)) refl (ran k (c ∷ cs))
word_head k pos c cs false e = record {
  taken = [];
  whole = refl;
  opens = λ h. absurd h;
  fixed = λ d m h other. let same : c ≡ d = cc in ap (λ x. cond x (run k (d ∷ other)) (Stop unexpected (d ∷ other))) (subst (λ x. is_key x ≡ false) same e);
}

pub word_outcome : (k : ℕ) → 0 < k → (text : List ℕ) → Outcome (Word k) not_key (word k) text (word k text)
word_outcome k pos [] = record { taken = []; whole = refl; opens = λ f. absurd f; fixed = λ c m e other. cc }
word_outcome k pos (c ∷ cs) = word_head k pos c cs (is_key c) refl

pub word_filled : (p : List ℕ) → 0 < length p → Filled p
word_filled [] h = absurd (omega arith)
word_filled (c ∷ cs) h = tt

pub word_reads : (k : ℕ) → 0 < k → Reads (Word k) not_key (word k)
word_reads k pos = record { complete = word_complete k; outcome = word_outcome k pos; filled = λ p v h. word_filled p h.1 }

-- blanks before a phrase
module _ {A : Type 0} (G : List ℕ → A → Type 0) (ends : ℕ → Bool) (r : List ℕ → Res A) (R : Reads G ends r) where
  pub led_complete : (p rest : List ℕ) (v : A) → Led G p v → Ends ends rest → led r (p ++ rest) ≡ Got v rest
  led_complete p rest v h e =
      ap (λ x. led r (x ++ rest)) h.3
      ∙ (ap (led r) (append_assoc h.0 h.1 rest)
      ∙ (ap r (skip_blanks h.0 (h.1 ++ rest) h.2 (ends_after not_blank h.1 rest h.4)) ∙ R.complete h.1 rest v h.5 e))

  pub led_starts : (p rest : List ℕ) → Filled p → Ends not_blank (p ++ rest) → Starts not_blank p
  led_starts [] rest f e = absurd f
  led_starts (c ∷ cs) rest f e = e

  pub led_from : (text mid : List ℕ) → Skips text mid → (x : Res A) → Outcome G ends r mid x → ((a : A) → A) → ((more : List ℕ) × (v : A) × Starts not_blank more × G more v) → Outcome (Led G) ends (led r) text x
  led_from text mid s (Got v rest) o id some = record {
    taken = s.blank ++ o.taken;
    whole = s.whole ∙ (ap (λ x. s.blank ++ x) o.whole ∙ sym (append_assoc s.blank o.taken rest));
    phrase = (s.blank, o.taken, s.each, refl, led_starts o.taken rest (R.filled o.taken v o.phrase) (subst (Ends not_blank) o.whole s.ends), o.phrase);
    ends = o.ends;
  }
  led_from text mid s (Stop why rest) o id some = record {
    taken = s.blank ++ o.taken;
    whole = s.whole ∙ (ap (λ x. s.blank ++ x) o.whole ∙ sym (append_assoc s.blank o.taken rest));
    opens = λ _. opened o.taken o.opens (subst (Ends not_blank) o.whole s.ends);
    fixed = λ c m e other.
        ap (led r) (append_assoc s.blank o.taken (c ∷ other))
        ∙ (ap r (skip_blanks s.blank (o.taken ++ c ∷ other) s.each (still o.taken c m other (subst (Ends not_blank) (o.whole ∙ ap (λ x. o.taken ++ x) e) s.ends))) ∙ o.fixed c m e other);
  }
    where
      still : (q : List ℕ) (c : ℕ) (m other : List ℕ) → Ends not_blank (q ++ c ∷ m) → Ends not_blank (q ++ c ∷ other)
      still [] c m other h = h
      still (d ∷ ds) c m other h = h

      opened : (q : List ℕ) → (Filled q → Opens G q) → Ends not_blank (q ++ rest) → Opens (Led G) (s.blank ++ q)
      opened [] f e = (some.0, some.1, (s.blank, some.0, s.each, ap (λ x. x ++ some.0) (append-nil s.blank), some.2, some.3))
      opened (c ∷ cs) f e = let w = f tt in (w.0, w.1, (s.blank, c ∷ cs ++ w.0, s.each, append_assoc s.blank (c ∷ cs) w.0, e, w.2))

  pub led_reads : ((more : List ℕ) × (v : A) × Starts not_blank more × G more v) → Reads (Led G) ends (led r)
  led_reads some = record {
    complete = led_complete;
    outcome = λ text. led_from text (skip text) (skips text) (r (skip text)) (R.outcome (skip text)) (λ a. a) some;
    filled = λ p v h. subst Filled (sym h.3) (more_filled h.0 h.1 (R.filled h.1 v h.5));
  }
    where
      more_filled : (a b : List ℕ) → Filled b → Filled (a ++ b)
      more_filled [] b h = h
      more_filled (c ∷ cs) b h = tt
