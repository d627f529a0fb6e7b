-- What larger limits change: nothing but the stops at a limit.
use Rattle.std.proofs.Common.{◌≡◌, ℕ, zero, suc, ◌<◌, ◌≤◌, Bool, true, false, cond, eqb, List, [], ◌∷◌, length, length-append, refl, sym, ap, subst, arith}
use Rattle.fx_selector.specs.Phrase.{is_key, is_text, not_blank}
use Rattle.fx_selector.specs.Reading.{Cause, unexpected, deep, long, spent, Res, Got, Stop, bind, choose, stop, skip, mark, byte, closed, run, word, pick, series, keyword}
use Rattle.fx_selector.specs.Reader.{test}
use Rattle.fx_selector.proofs.Exact.{Outcome, Reads}
use Rattle.fx_selector.proofs.Marks.{mark_reads, skips}
use Rattle.fx_selector.proofs.Words.{Ran, ran, with_prefix}
use Rattle.fx_selector.specs.Going.{going}

-- reading went on past here
abbrev pub Later : {A : Type 0} → Res A → List ℕ → Type 0
Later (Got v r) rest = length r < length rest
Later (Stop why r) rest = length r < length rest

abbrev pub NoLonger : {A : Type 0} → Res A → List ℕ → Type 0
NoLonger (Got v r) text = length r ≤ length text
NoLonger (Stop why r) text = length r ≤ length text

abbrev pub Moves : {A : Type 0} → Bool → Cause → List ℕ → Res A → Type 0
Moves true why rest y = Later y rest
Moves false why rest y = y ≡ Stop why rest

-- K and D: whether the limit of keys and that of depth are larger
abbrev pub Agrees : {A : Type 0} → Bool → Bool → Res A → Res A → Type 0
Agrees K D (Got v rest) y = y ≡ Got v rest
Agrees K D (Stop unexpected rest) y = y ≡ Stop unexpected rest
Agrees K D (Stop deep rest) y = Moves D deep rest y
Agrees K D (Stop long rest) y = Moves K long rest y
Agrees K D (Stop spent rest) y = Later y rest

abbrev pub Grown : Bool → ℕ → ℕ → Type 0
Grown true a b = a < b
Grown false a b = a ≡ b

pub no_longer : {A : Type 0} (G : List ℕ → A → Type 0) (past : ℕ → Bool) (r : List ℕ → Res A) → Reads G past r → (text : List ℕ) → NoLonger (r text) text
no_longer {A} G past r R text = by (r text) (R.outcome text)
  where
    by : (x : Res A) → Outcome G past r text x → NoLonger x text
    by (Got v rest) o = omega (arith, ap length o.whole, length-append o.taken rest)
    by (Stop why rest) o = omega (arith, ap length o.whole, length-append o.taken rest)

pub bind_no_longer : {A B : Type 0} (x : Res A) (s : A → List ℕ → Res B) (text : List ℕ) → NoLonger x text → ((a : A) (mid : List ℕ) → NoLonger (s a mid) mid) → NoLonger (bind x s) text
bind_no_longer {A} {B} (Got a mid) s text h k = further (s a mid) (k a mid)
  where
    further : (y : Res B) → NoLonger y mid → NoLonger y text
    further (Got v r) l = omega arith
    further (Stop why r) l = omega arith
bind_no_longer (Stop why rest) s text h k = h

pub bind_later : {A B : Type 0} (x : Res A) (s : A → List ℕ → Res B) (rest : List ℕ) → Later x rest → ((a : A) (mid : List ℕ) → NoLonger (s a mid) mid) → Later (bind x s) rest
bind_later {A} {B} (Got a mid) s rest h k = further (s a mid) (k a mid)
  where
    further : (y : Res B) → NoLonger y mid → Later y rest
    further (Got v r) l = omega arith
    further (Stop why r) l = omega arith
bind_later (Stop why r) s rest h k = h

pub bind_moves : {A B : Type 0} (b : Bool) (why : Cause) (rest : List ℕ) (y : Res A) (s : A → List ℕ → Res B) → Moves b why rest y → ((a : A) (mid : List ℕ) → NoLonger (s a mid) mid) → Moves b why rest (bind y s)
bind_moves true why rest y s h k = bind_later y s rest h k
bind_moves false why rest y s h k = ap (λ z. bind z s) h

module _ (K D : Bool) where
  pub bind_agrees : {A B : Type 0} (x y : Res A) (s t : A → List ℕ → Res B) → Agrees K D x y → ((a : A) (mid : List ℕ) → Agrees K D (s a mid) (t a mid)) → ((a : A) (mid : List ℕ) → NoLonger (t a mid) mid) → Agrees K D (bind x s) (bind y t)
  bind_agrees (Got a mid) y s t h k l = subst (λ z. Agrees K D (s a mid) (bind z t)) (sym h) (k a mid)
  bind_agrees (Stop unexpected rest) y s t h k l = ap (λ z. bind z t) h
  bind_agrees (Stop deep rest) y s t h k l = bind_moves D deep rest y t h l
  bind_agrees (Stop long rest) y s t h k l = bind_moves K long rest y t h l
  bind_agrees (Stop spent rest) y s t h k l = bind_later y t rest h l

  pub cond_agrees : {A : Type 0} (b : Bool) (x y z w : Res A) → Agrees K D x y → Agrees K D z w → Agrees K D (cond b x z) (cond b y w)
  cond_agrees true x y z w h k = h
  cond_agrees false x y z w h k = k

  pub choose_agrees : {A : Type 0} (test : ℕ → Bool) (r s r' s' : List ℕ → Res A) → ((text : List ℕ) → Agrees K D (r text) (r' text)) → ((text : List ℕ) → Agrees K D (s text) (s' text)) → (text : List ℕ) → Agrees K D (choose test r s text) (choose test r' s' text)
  choose_agrees test r s r' s' h k [] = k []
  choose_agrees test r s r' s' h k (c ∷ cs) = cond_agrees (test c) (r (c ∷ cs)) (r' (c ∷ cs)) (s (c ∷ cs)) (s' (c ∷ cs)) (h (c ∷ cs)) (k (c ∷ cs))

  pub pick_agrees : {A : Type 0} (b : Bool) (r s r' s' : List ℕ → Res A) → ((text : List ℕ) → Agrees K D (r text) (r' text)) → ((text : List ℕ) → Agrees K D (s text) (s' text)) → (text : List ℕ) → Agrees K D (pick b r s text) (pick b r' s' text)
  pick_agrees true r s r' s' h k text = h text
  pick_agrees false r s r' s' h k text = k text

  pub mapped_agrees : {A B : Type 0} (f : A → B) (x y : Res A) → Agrees K D x y → Agrees K D (bind x (λ a rest. Got (f a) rest)) (bind y (λ a rest. Got (f a) rest))
  mapped_agrees f x y h = bind_agrees x y (λ a rest. Got (f a) rest) (λ a rest. Got (f a) rest) h (λ a mid. refl) (λ a mid. omega arith)

  -- what meets no limit
  pub mark_same : (bytes text : List ℕ) → Agrees K D (mark bytes text) (mark bytes text)
  mark_same [] text = refl
  mark_same (b ∷ bs) [] = refl
  mark_same (b ∷ bs) (c ∷ cs) = cond_agrees (eqb c b) (mark bs cs) (mark bs cs) (Stop unexpected (c ∷ cs)) (Stop unexpected (c ∷ cs)) (mark_same bs cs) refl

  pub keyword_same : (bytes text : List ℕ) → Agrees K D (keyword bytes text) (keyword bytes text)
  keyword_same [] [] = refl
  keyword_same [] (c ∷ cs) = cond_agrees (is_key c) (Stop unexpected (c ∷ cs)) (Stop unexpected (c ∷ cs)) (Got tt (c ∷ cs)) (Got tt (c ∷ cs)) refl refl
  keyword_same (b ∷ bs) [] = refl
  keyword_same (b ∷ bs) (c ∷ cs) = cond_agrees (eqb c b) (keyword bs cs) (keyword bs cs) (Stop unexpected (c ∷ cs)) (Stop unexpected (c ∷ cs)) (keyword_same bs cs) refl

  pub closed_same : (q : ℕ) (text : List ℕ) → Agrees K D (closed q text) (closed q text)
  closed_same q [] = refl
  closed_same q (c ∷ cs) = cond_agrees (eqb c q) (Got [] (skip cs)) (Got [] (skip cs)) _ _ refl
      (cond_agrees (is_text q c) (with_prefix c (closed q cs)) (with_prefix c (closed q cs)) (Stop unexpected (c ∷ cs)) (Stop unexpected (c ∷ cs)) (mapped_agrees (λ v. c ∷ v) (closed q cs) (closed q cs) (closed_same q cs)) refl)

  pub byte_same : (test : ℕ → Bool) (text : List ℕ) → Agrees K D (byte test text) (byte test text)
  byte_same test [] = refl
  byte_same test (c ∷ cs) = cond_agrees (test c) (Got c cs) (Got c cs) (Stop unexpected (c ∷ cs)) (Stop unexpected (c ∷ cs)) refl refl

  -- words
  pub run_no_longer : (k : ℕ) (text : List ℕ) → NoLonger (run k text) text
  run_no_longer k text = by (run k text) (ran k text)
    where
      by : (x : Res (List ℕ)) → Ran k text x → NoLonger x text
      by (Got v rest) o = omega (arith, ap length o.0, length-append v rest)
      by (Stop why rest) o = omega (arith, ap length o.1, length-append o.0 rest)

  pub run_past : (j c : ℕ) (cs : List ℕ) → Later (with_prefix c (run j cs)) (c ∷ cs)
  run_past j c cs = by (run j cs) (run_no_longer j cs)
    where
      by : (x : Res (List ℕ)) → NoLonger x cs → Later (with_prefix c x) (c ∷ cs)
      by (Got v rest) l = omega arith
      by (Stop why rest) l = omega arith

  pub run_agrees : (k j : ℕ) → Grown K k j → (text : List ℕ) → Agrees K D (run k text) (run j text)
  run_agrees k j g [] = rw (empty k, empty j) refl
    where
      empty : (k : ℕ) → run k [] ≡ Got [] []
      empty zero = refl
      empty (suc k) = refl
  run_agrees zero zero g (c ∷ cs) = cond_agrees (is_key c) (Stop long (c ∷ cs)) (Stop long (c ∷ cs)) (Got [] (c ∷ cs)) (Got [] (c ∷ cs)) (full K g) refl
    where
      full : (b : Bool) → Grown b zero zero → Moves b long (c ∷ cs) (stop {A = List ℕ} long (c ∷ cs))
      full true h = absurd (omega arith)
      full false h = refl
  run_agrees zero (suc j) g (c ∷ cs) = cond_agrees (is_key c) (Stop long (c ∷ cs)) (with_prefix c (run j cs)) (Got [] (c ∷ cs)) (Got [] (c ∷ cs)) (full K g) refl
    where
      full : (b : Bool) → Grown b zero (suc j) → Moves b long (c ∷ cs) (with_prefix c (run j cs))
      full true h = run_past j c cs
      full false h = absurd (omega arith)
  run_agrees (suc k) zero g (c ∷ cs) = absurd (none K g)
    where
      none : (b : Bool) → Grown b (suc k) zero → ⊥
      none true h = omega arith
      none false h = omega arith
  run_agrees (suc k) (suc j) g (c ∷ cs) = cond_agrees (is_key c) (with_prefix c (run k cs)) (with_prefix c (run j cs)) (Got [] (c ∷ cs)) (Got [] (c ∷ cs)) (mapped_agrees (λ v. c ∷ v) (run k cs) (run j cs) (run_agrees k j (less K g) cs)) refl
    where
      less : (b : Bool) → Grown b (suc k) (suc j) → Grown b k j
      less true h = omega arith
      less false h = omega arith

  pub word_agrees : (k j : ℕ) → Grown K k j → (text : List ℕ) → Agrees K D (word k text) (word j text)
  word_agrees k j g [] = refl
  word_agrees k j g (c ∷ cs) = cond_agrees (is_key c) (run k (c ∷ cs)) (run j (c ∷ cs)) (Stop unexpected (c ∷ cs)) (Stop unexpected (c ∷ cs)) (run_agrees k j g (c ∷ cs)) refl

  -- series
  pub mark_past : (b : ℕ) (bs : List ℕ) (c : ℕ) (cs : List ℕ) → eqb c b ≡ true → Later (mark (b ∷ bs) (c ∷ cs)) (c ∷ cs)
  mark_past b bs c cs e = rw e (by (mark bs cs) (marks bs cs))
    where
      by : (x : Res (Unit {0})) → NoLonger x cs → Later x (c ∷ cs)
      by (Got v rest) l = omega arith
      by (Stop why rest) l = omega arith

      skipped : (text : List ℕ) → length (skip text) ≤ length text
      skipped text = let s = skips text in omega (arith, ap length s.whole, length-append s.blank (skip text))

      marks : (bs cs : List ℕ) → NoLonger (mark bs cs) cs
      marks [] cs = skipped cs
      marks (b ∷ bs) cs = no_longer _ not_blank (mark (b ∷ bs)) (mark_reads b bs) cs

  module _ {A : Type 0} (r s : List ℕ → Res A) (same : (text : List ℕ) → Agrees K D (r text) (s text)) (b : ℕ) (bs : List ℕ) (short : (n : ℕ) (text : List ℕ) → NoLonger (series s b bs n text) text) where
    abbrev pub onward : ℕ → A → List ℕ → Res (List A)
    onward n a x = bind (bind (mark (b ∷ bs) x) (λ _. series s b bs n)) (λ more rest. Got (a ∷ more) rest)

    pub onward_later : (n : ℕ) (a : A) (c : ℕ) (cs : List ℕ) → eqb c b ≡ true → Later (onward n a (c ∷ cs)) (c ∷ cs)
    onward_later n a c cs e = bind_later (bind (mark (b ∷ bs) (c ∷ cs)) (λ _. series s b bs n)) (λ more rest. Got (a ∷ more) rest) (c ∷ cs)
        (bind_later (mark (b ∷ bs) (c ∷ cs)) (λ _. series s b bs n) (c ∷ cs) (mark_past b bs c cs e) (λ _ mid. short n mid)) (λ a mid. omega arith)

    pub spent_here : (n : ℕ) (a : A) (c : ℕ) (cs : List ℕ) (t : Bool) → eqb c b ≡ t → Agrees K D (cond t (Stop spent (c ∷ cs)) (Got (a ∷ []) (c ∷ cs))) (cond t (onward n a (c ∷ cs)) (Got (a ∷ []) (c ∷ cs)))
    spent_here n a c cs true e = onward_later n a c cs e
    spent_here n a c cs false e = refl

    pub going_short : (n : ℕ) (a : A) (text : List ℕ) → NoLonger (going s b bs n a text) text
    going_short zero a [] = omega arith
    going_short (suc n) a [] = omega arith
    going_short zero a (c ∷ cs) = either (eqb c b)
      where
        either : (t : Bool) → NoLonger (cond t (Stop spent (c ∷ cs)) (Got (a ∷ []) (c ∷ cs))) (c ∷ cs)
        either true = omega arith
        either false = omega arith
    going_short (suc n) a (c ∷ cs) = either (eqb c b)
      where
        either : (t : Bool) → NoLonger (cond t (onward n a (c ∷ cs)) (Got (a ∷ []) (c ∷ cs))) (c ∷ cs)
        either true = bind_no_longer (bind (mark (b ∷ bs) (c ∷ cs)) (λ _. series s b bs n)) (λ more rest. Got (a ∷ more) rest) (c ∷ cs)
            (bind_no_longer (mark (b ∷ bs) (c ∷ cs)) (λ _. series s b bs n) (c ∷ cs) (no_longer _ not_blank (mark (b ∷ bs)) (mark_reads b bs) (c ∷ cs)) (λ _ mid. short n mid)) (λ a mid. omega arith)
        either false = omega arith

    pub series_agrees : (n m : ℕ) → n < m → (text : List ℕ) → Agrees K D (series r b bs n text) (series s b bs m text)
    series_agrees n zero l text = absurd (omega arith)
    series_agrees zero (suc m) l text = bind_agrees (r text) (s text) _ (going s b bs (suc m)) (same text) (λ a mid. here a mid) (going_short (suc m))
      where
        here : (a : A) (mid : List ℕ) → Agrees K D (going r b bs zero a mid) (going s b bs (suc m) a mid)
        here a [] = refl
        here a (c ∷ cs) = spent_here m a c cs (eqb c b) refl
    series_agrees (suc n) (suc m) l text = bind_agrees (r text) (s text) (going r b bs (suc n)) (going s b bs (suc m)) (same text) (here (λ mid. series_agrees n m (omega arith) mid)) (going_short (suc m))
      where
        here : ((mid : List ℕ) → Agrees K D (series r b bs n mid) (series s b bs m mid)) → (a : A) (mid : List ℕ) → Agrees K D (going r b bs (suc n) a mid) (going s b bs (suc m) a mid)
        here h a [] = refl
        here h a (c ∷ cs) = cond_agrees (eqb c b) _ (onward m a (c ∷ cs)) (Got (a ∷ []) (c ∷ cs)) (Got (a ∷ []) (c ∷ cs))
            (mapped_agrees (λ more. a ∷ more) (bind (mark (b ∷ bs) (c ∷ cs)) (λ _. series r b bs n)) (bind (mark (b ∷ bs) (c ∷ cs)) (λ _. series s b bs m))
            (bind_agrees (mark (b ∷ bs) (c ∷ cs)) (mark (b ∷ bs) (c ∷ cs)) (λ _. series r b bs n) (λ _. series s b bs m) (mark_same (b ∷ bs) (c ∷ cs)) (λ _ mid. h mid) (λ _ mid. short m mid)))
            refl
