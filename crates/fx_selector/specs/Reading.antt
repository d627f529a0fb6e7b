-- Reading from left to right.
use Rattle.std.specs.Prelude.{ℕ, zero, suc, Bool, true, false, cond, eqb, List, [], ◌∷◌}
use Rattle.fx_selector.specs.Phrase.{is_blank, is_key, is_text}

pub data Cause : Type 0 where
  unexpected : Cause
  deep : Cause
  long : Cause
  spent : Cause

-- what was read and the text after it, or why reading stops and the text from there on
pub data Res (A : Type 0) : Type 0 where
  Got : A → List ℕ → Res A
  Stop : Cause → List ℕ → Res A

abbrev pub bind : {A B : Type 0} → Res A → (A → List ℕ → Res B) → Res B
bind (Got a rest) f = f a rest
bind (Stop why rest) f = Stop why rest

abbrev pub choose : {A : Type 0} → (ℕ → Bool) → (List ℕ → Res A) → (List ℕ → Res A) → List ℕ → Res A
choose test here else_ [] = else_ []
choose test here else_ (c ∷ cs) = cond (test c) (here (c ∷ cs)) (else_ (c ∷ cs))

abbrev pub mapped : {A B : Type 0} → (A → B) → (List ℕ → Res A) → List ℕ → Res B
mapped f r text = bind (r text) (λ a rest. Got (f a) rest)

abbrev pub stop : {A : Type 0} → Cause → List ℕ → Res A
stop why text = Stop why text

-- past the spaces and tabs
abbrev pub skip : List ℕ → List ℕ
skip [] = []
skip (c ∷ cs) = cond (is_blank c) (skip cs) (c ∷ cs)

abbrev pub mark : List ℕ → List ℕ → Res (Unit {0})
mark [] text = Got tt (skip text)
mark (b ∷ bs) [] = Stop unexpected []
mark (b ∷ bs) (c ∷ cs) = cond (eqb c b) (mark bs cs) (Stop unexpected (c ∷ cs))

abbrev pub byte : (ℕ → Bool) → List ℕ → Res ℕ
byte test [] = Stop unexpected []
byte test (c ∷ cs) = cond (test c) (Got c cs) (Stop unexpected (c ∷ cs))

abbrev pub closed : ℕ → List ℕ → Res (List ℕ)
closed q [] = Stop unexpected []
closed q (c ∷ cs) = cond (eqb c q) (Got [] (skip cs)) (cond (is_text q c) (bind (closed q cs) (λ v rest. Got (c ∷ v) rest)) (Stop unexpected (c ∷ cs)))

-- the rest of a word that may have so many bytes more
abbrev pub run : ℕ → List ℕ → Res (List ℕ)
run k [] = Got [] []
run zero (c ∷ cs) = cond (is_key c) (Stop long (c ∷ cs)) (Got [] (c ∷ cs))
run (suc k) (c ∷ cs) = cond (is_key c) (bind (run k cs) (λ v rest. Got (c ∷ v) rest)) (Got [] (c ∷ cs))

abbrev pub word : ℕ → List ℕ → Res (List ℕ)
word limit [] = Stop unexpected []
word limit (c ∷ cs) = cond (is_key c) (run limit (c ∷ cs)) (Stop unexpected (c ∷ cs))

abbrev pub led : {A : Type 0} → (List ℕ → Res A) → List ℕ → Res A
led r text = r (skip text)

abbrev pub pick : {A : Type 0} → Bool → (List ℕ → Res A) → (List ℕ → Res A) → List ℕ → Res A
pick true r s text = r text
pick false r s text = s text

-- one, and what goes on where the next byte passes the test
abbrev pub go_on : {A B : Type 0} → (A → B) → (ℕ → Bool) → (A → List ℕ → Res B) → A → List ℕ → Res B
go_on one test more a [] = Got (one a) []
go_on one test more a (c ∷ cs) = cond (test c) (more a (c ∷ cs)) (Got (one a) (c ∷ cs))

abbrev pub series : {A : Type 0} → (List ℕ → Res A) → ℕ → List ℕ → ℕ → List ℕ → Res (List A)
series r b bs zero text = bind (r text) (go_on (λ a. a ∷ []) (λ c. eqb c b) (λ a. stop spent))
series r b bs (suc n) text = bind (r text) (go_on (λ a. a ∷ []) (λ c. eqb c b) (λ a. mapped (λ more. a ∷ more) (λ x. bind (mark (b ∷ bs) x) (λ _. series r b bs n))))

abbrev pub keyword : List ℕ → List ℕ → Res (Unit {0})
keyword [] [] = Got tt []
keyword [] (c ∷ cs) = cond (is_key c) (Stop unexpected (c ∷ cs)) (Got tt (c ∷ cs))
keyword (b ∷ bs) [] = Stop unexpected []
keyword (b ∷ bs) (c ∷ cs) = cond (eqb c b) (keyword bs cs) (Stop unexpected (c ∷ cs))

abbrev pub begins_with : ℕ → List ℕ → Bool
begins_with b [] = false
begins_with b (c ∷ cs) = eqb c b
