-- What larger limits change in the whole language.
use Rattle.std.proofs.Common.{◌≡◌, ℕ, zero, suc, ◌<◌, ◌≤◌, Bool, true, false, cond, eqb, List, [], ◌∷◌, length, length-append, refl, ap, arith}
use Rattle.fx_selector.specs.Phrase.{is_quote, not_blank, Mark}
use Rattle.fx_selector.specs.Reading.{Cause, unexpected, deep, long, spent, Res, Got, Stop, bind, choose, mapped, stop, skip, mark, byte, closed, word, led, pick, series, keyword}
use Rattle.fx_selector.specs.Language.{same_bytes, all_word, global_word, has_word, in_word, not_word, contains_word, starts_word, with_word, ends_word, String, Set, And, Not, and_ends, or_ends}
use Rattle.fx_selector.specs.Tree.{Tree, all, global, has, equal, unequal, within, outside, contains, starts, ends, negated, each, some, set_of, together}
use Rattle.fx_selector.specs.Reader.{string, set, with_string, in_set, test, call, atom, and_of, or_of, not_of, at_end, from_start, parsed}
use Rattle.fx_selector.proofs.Marks.{mark_reads, skips}
use Rattle.fx_selector.proofs.Words.{closed_reads}
use Rattle.fx_selector.proofs.Series.{past, series_reads}
use Rattle.fx_selector.proofs.Language.{string_reads, set_reads, a_string, a_not, not_reads, follows_reads, with_reads, in_reads, keyed_reads, inner_reads, and_reads_of, an_and, q2, q3, q4, q5, q6}
use Rattle.fx_selector.proofs.Grow.{Later, NoLonger, Moves, Agrees, Grown, no_longer, bind_no_longer, bind_later, bind_agrees, choose_agrees, pick_agrees, mapped_agrees, mark_same, mark_past, keyword_same, closed_same, byte_same, word_agrees, series_agrees}

pub skipped : (text : List ℕ) → length (skip text) ≤ length text
skipped text = let s = skips text in omega (arith, ap length s.whole, length-append s.blank (skip text))

pub led_no_longer : {A : Type 0} (r : List ℕ → Res A) → ((text : List ℕ) → NoLonger (r text) text) → (text : List ℕ) → NoLonger (led r text) text
led_no_longer {A} r h text = by (r (skip text)) (h (skip text)) (skipped text)
  where
    by : (x : Res A) → NoLonger x (skip text) → length (skip text) ≤ length text → NoLonger x text
    by (Got v rest) l k = omega arith
    by (Stop why rest) l k = omega arith

pub mapped_no_longer : {A B : Type 0} (f : A → B) (r : List ℕ → Res A) → ((text : List ℕ) → NoLonger (r text) text) → (text : List ℕ) → NoLonger (mapped f r text) text
mapped_no_longer f r h text = bind_no_longer (r text) (λ a rest. Got (f a) rest) text (h text) (λ a mid. omega arith)

pub mark_short : (b : ℕ) (bs : List ℕ) (text : List ℕ) → NoLonger (mark (b ∷ bs) text) text
mark_short b bs = no_longer (Mark (b ∷ bs)) not_blank (mark (b ∷ bs)) (mark_reads b bs)

pub string_short : (text : List ℕ) → NoLonger (string text) text
string_short = no_longer String not_blank string string_reads

module _ (K D : Bool) where
  pub string_same : (text : List ℕ) → Agrees K D (string text) (string text)
  string_same text = bind_agrees K D (byte is_quote text) (byte is_quote text) closed closed (byte_same K D is_quote text) (closed_same K D) (λ q mid. no_longer _ not_blank (closed q) (closed_reads q) mid)

  pub mark_then : {A : Type 0} (b : ℕ) (bs : List ℕ) (r s : List ℕ → Res A) → ((text : List ℕ) → Agrees K D (r text) (s text)) → ((text : List ℕ) → NoLonger (s text) text) → (text : List ℕ) → Agrees K D (bind (mark (b ∷ bs) text) (λ _. r)) (bind (mark (b ∷ bs) text) (λ _. s))
  mark_then b bs r s h l text = bind_agrees K D (mark (b ∷ bs) text) (mark (b ∷ bs) text) (λ _. r) (λ _. s) (mark_same K D (b ∷ bs) text) (λ _. h) (λ _. l)

  pub word_then : {A : Type 0} (bs : List ℕ) (r s : List ℕ → Res A) → ((text : List ℕ) → Agrees K D (r text) (s text)) → ((text : List ℕ) → NoLonger (s text) text) → (text : List ℕ) → Agrees K D (bind (keyword bs text) (λ _. led r)) (bind (keyword bs text) (λ _. led s))
  word_then bs r s h l text = bind_agrees K D (keyword bs text) (keyword bs text) (λ _. led r) (λ _. led s) (keyword_same K D bs text) (λ _ mid. h (skip mid)) (λ _. led_no_longer s l)

  pub of_string : (f : List ℕ → Tree) (text : List ℕ) → Agrees K D (mapped f string text) (mapped f string text)
  of_string f text = mapped_agrees K D f (string text) (string text) (string_same text)

  pub of_string_short : (f : List ℕ → Tree) (text : List ℕ) → NoLonger (mapped f string text) text
  of_string_short f = mapped_no_longer f string string_short

  pub with_same : (f : List ℕ → Tree) (text : List ℕ) → Agrees K D (with_string f text) (with_string f text)
  with_same f = word_then with_word (mapped f string) (mapped f string) (of_string f) (of_string_short f)

  module _ (n m : ℕ) (less : n < m) where
    pub strings_agree : (text : List ℕ) → Agrees K D (series string 44 [] n text) (series string 44 [] m text)
    strings_agree = series_agrees K D string string string_same 44 [] (λ k. no_longer _ (past not_blank 44) (series string 44 [] k) (series_reads String not_blank string string_reads 44 [] refl a_string k)) n m less

    pub set_short : (text : List ℕ) → NoLonger (set m text) text
    set_short = no_longer (Set m) not_blank (set m) (set_reads m)

    pub close_short : (text : List ℕ) → NoLonger (mark (125 ∷ []) text) text
    close_short = mark_short 125 []

    abbrev pub full_set : ℕ → List ℕ → Res (List (List ℕ))
    full_set k x = bind (series string 44 [] k x) (λ vs. mapped (λ _. set_of vs) (mark (125 ∷ [])))

    abbrev pub empty_set : List ℕ → Res (List (List ℕ))
    empty_set = mapped (λ _. []) (mark (125 ∷ []))

    pub full_short : (text : List ℕ) → NoLonger (full_set m text) text
    full_short text = bind_no_longer (series string 44 [] m text) (λ vs. mapped (λ _. set_of vs) (mark (125 ∷ []))) text
        (no_longer _ (past not_blank 44) (series string 44 [] m) (series_reads String not_blank string string_reads 44 [] refl a_string m) text)
        (λ vs. mapped_no_longer (λ _. set_of vs) (mark (125 ∷ [])) close_short)

    pub choose_short : {A : Type 0} (t : ℕ → Bool) (r s : List ℕ → Res A) → ((text : List ℕ) → NoLonger (r text) text) → ((text : List ℕ) → NoLonger (s text) text) → (text : List ℕ) → NoLonger (choose t r s text) text
    choose_short t r s h k [] = k []
    choose_short t r s h k (c ∷ cs) = by (t c)
      where
        by : (b : Bool) → NoLonger (cond b (r (c ∷ cs)) (s (c ∷ cs))) (c ∷ cs)
        by true = h (c ∷ cs)
        by false = k (c ∷ cs)

    pub set_agrees : (text : List ℕ) → Agrees K D (set n text) (set m text)
    set_agrees = mark_then 123 [] (choose (λ c. eqb c 125) empty_set (full_set n)) (choose (λ c. eqb c 125) empty_set (full_set m))
        (choose_agrees K D (λ c. eqb c 125) empty_set (full_set n) empty_set (full_set m)
        (λ x. mapped_agrees K D (λ _. []) (mark (125 ∷ []) x) (mark (125 ∷ []) x) (mark_same K D (125 ∷ []) x))
        (λ x. bind_agrees K D (series string 44 [] n x) (series string 44 [] m x) (λ vs. mapped (λ _. set_of vs) (mark (125 ∷ []))) (λ vs. mapped (λ _. set_of vs) (mark (125 ∷ []))) (strings_agree x)
        (λ vs y. mapped_agrees K D (λ _. set_of vs) (mark (125 ∷ []) y) (mark (125 ∷ []) y) (mark_same K D (125 ∷ []) y))
        (λ vs. mapped_no_longer (λ _. set_of vs) (mark (125 ∷ [])) close_short)))
        (choose_short (λ c. eqb c 125) empty_set (full_set m) (mapped_no_longer (λ _. []) (mark (125 ∷ [])) close_short) full_short)

    pub in_agrees : (f : List (List ℕ) → Tree) (text : List ℕ) → Agrees K D (in_set f n text) (in_set f m text)
    in_agrees f = word_then in_word (mapped f (set n)) (mapped f (set m)) (λ x. mapped_agrees K D f (set n x) (set m x) (set_agrees x)) (mapped_no_longer f (set m) set_short)

    module _ (k : List ℕ) where
      abbrev pub eq_test : List ℕ → Res Tree
      eq_test x = bind (mark (61 ∷ 61 ∷ []) x) (λ _. mapped (equal k) string)

      abbrev pub ne_test : List ℕ → Res Tree
      ne_test x = bind (mark (33 ∷ 61 ∷ []) x) (λ _. mapped (unequal k) string)

      abbrev pub out_test : ℕ → List ℕ → Res Tree
      out_test j x = bind (keyword not_word x) (λ _. led (in_set (outside k) j))

      abbrev pub part_test : List ℕ → Res Tree
      part_test x = bind (keyword contains_word x) (λ _. led (mapped (contains k) string))

      abbrev pub starts_test : List ℕ → Res Tree
      starts_test x = bind (keyword starts_word x) (λ _. led (with_string (starts k)))

      abbrev pub ends_test : List ℕ → Res Tree
      ends_test x = bind (keyword ends_word x) (λ _. led (with_string (ends k)))

      pub g6 : (text : List ℕ) → Agrees K D (q6 n k text) (q6 m k text)
      g6 = choose_agrees K D (λ c. eqb c 115) starts_test ends_test starts_test ends_test
          (word_then starts_word (with_string (starts k)) (with_string (starts k)) (with_same (starts k)) (no_longer _ not_blank (with_string (starts k)) (with_reads m k (starts k))))
          (word_then ends_word (with_string (ends k)) (with_string (ends k)) (with_same (ends k)) (no_longer _ not_blank (with_string (ends k)) (with_reads m k (ends k))))

      pub g5 : (text : List ℕ) → Agrees K D (q5 n k text) (q5 m k text)
      g5 = choose_agrees K D (λ c. eqb c 99) part_test (q6 n k) part_test (q6 m k) (word_then contains_word (mapped (contains k) string) (mapped (contains k) string) (of_string (contains k)) (of_string_short (contains k))) g6

      pub g4 : (text : List ℕ) → Agrees K D (q4 n k text) (q4 m k text)
      g4 = choose_agrees K D (λ c. eqb c 110) (out_test n) (q5 n k) (out_test m) (q5 m k) (word_then not_word (in_set (outside k) n) (in_set (outside k) m) (in_agrees (outside k)) (no_longer _ not_blank (in_set (outside k) m) (in_reads m k (outside k)))) g5

      pub g3 : (text : List ℕ) → Agrees K D (q3 n k text) (q3 m k text)
      g3 = choose_agrees K D (λ c. eqb c 105) (in_set (within k) n) (q4 n k) (in_set (within k) m) (q4 m k) (in_agrees (within k)) g4

      pub g2 : (text : List ℕ) → Agrees K D (q2 n k text) (q2 m k text)
      g2 = choose_agrees K D (λ c. eqb c 33) ne_test (q3 n k) ne_test (q3 m k) (mark_then 33 (61 ∷ []) (mapped (unequal k) string) (mapped (unequal k) string) (of_string (unequal k)) (of_string_short (unequal k))) g3

      pub test_agrees : (text : List ℕ) → Agrees K D (test n k text) (test m k text)
      test_agrees = choose_agrees K D (λ c. eqb c 61) eq_test (q2 n k) eq_test (q2 m k) (mark_then 61 (61 ∷ []) (mapped (equal k) string) (mapped (equal k) string) (of_string (equal k)) (of_string_short (equal k))) g2

  module _ (limit wide : ℕ) (grown : Grown K limit wide) (pos : 0 < wide) where
    abbrev pub bare_call : Tree → List ℕ → Res Tree
    bare_call t x = bind (mark (40 ∷ []) x) (λ _. mapped (λ _. t) (mark (41 ∷ [])))

    pub close_same : (t : Tree) (text : List ℕ) → Agrees K D (mapped (λ _. t) (mark (41 ∷ [])) text) (mapped (λ _. t) (mark (41 ∷ [])) text)
    close_same t x = mapped_agrees K D (λ _. t) (mark (41 ∷ []) x) (mark (41 ∷ []) x) (mark_same K D (41 ∷ []) x)

    pub close_no_longer : (t : Tree) (text : List ℕ) → NoLonger (mapped (λ _. t) (mark (41 ∷ [])) text) text
    close_no_longer t = mapped_no_longer (λ _. t) (mark (41 ∷ [])) (mark_short 41 [])

    pub bare_same : (t : Tree) (text : List ℕ) → Agrees K D (bare_call t text) (bare_call t text)
    bare_same t = mark_then 40 [] (mapped (λ _. t) (mark (41 ∷ []))) (mapped (λ _. t) (mark (41 ∷ []))) (close_same t) (close_no_longer t)

    abbrev pub key_then : ℕ → List ℕ → Res Tree
    key_then l y = bind (word l y) (λ k. led (mapped (λ _. has k) (mark (41 ∷ []))))

    abbrev pub has_call : ℕ → List ℕ → Res Tree
    has_call l x = bind (mark (40 ∷ []) x) (λ _. key_then l)

    pub has_agrees : (text : List ℕ) → Agrees K D (has_call limit text) (has_call wide text)
    has_agrees = mark_then 40 [] (key_then limit) (key_then wide)
        (λ y. bind_agrees K D (word limit y) (word wide y) (λ k. led (mapped (λ _. has k) (mark (41 ∷ [])))) (λ k. led (mapped (λ _. has k) (mark (41 ∷ [])))) (word_agrees K D limit wide grown y) (λ k mid. close_same (has k) (skip mid)) (λ k. led_no_longer (mapped (λ _. has k) (mark (41 ∷ []))) (close_no_longer (has k))))
        (no_longer _ not_blank (key_then wide) (keyed_reads wide pos zero))

    pub call_agrees : (w text : List ℕ) → Agrees K D (call limit w text) (call wide w text)
    call_agrees w = pick_agrees K D (same_bytes w all_word) (bare_call all) (pick (same_bytes w global_word) (bare_call global) (pick (same_bytes w has_word) (has_call limit) (stop unexpected))) (bare_call all) (pick (same_bytes w global_word) (bare_call global) (pick (same_bytes w has_word) (has_call wide) (stop unexpected))) (bare_same all)
        (pick_agrees K D (same_bytes w global_word) (bare_call global) (pick (same_bytes w has_word) (has_call limit) (stop unexpected)) (bare_call global) (pick (same_bytes w has_word) (has_call wide) (stop unexpected)) (bare_same global)
        (pick_agrees K D (same_bytes w has_word) (has_call limit) (stop unexpected) (has_call wide) (stop unexpected) has_agrees (λ x. refl)))

    module _ (n m : ℕ) (less : n < m) where
      abbrev pub follow : ℕ → ℕ → List ℕ → List ℕ → Res Tree
      follow l j w = choose (λ c. eqb c 40) (call l w) (test j w)

      pub atom_agrees : (text : List ℕ) → Agrees K D (atom limit n text) (atom wide m text)
      atom_agrees text = bind_agrees K D (word limit text) (word wide text) (λ w. led (follow limit n w)) (λ w. led (follow wide m w)) (word_agrees K D limit wide grown text)
          (λ w mid. choose_agrees K D (λ c. eqb c 40) (call limit w) (test n w) (call wide w) (test m w) (call_agrees w) (test_agrees n m less w) (skip mid))
          (λ w. led_no_longer (follow wide m w) (no_longer _ not_blank (follow wide m w) (follows_reads wide pos m w)))

      -- the and and the or of operands that agree
      pub and_agrees : (d e : ℕ) → ((text : List ℕ) → Agrees K D (not_of limit n d text) (not_of wide m e text)) → (text : List ℕ) → Agrees K D (and_of (not_of limit n d) n text) (and_of (not_of wide m e) m text)
      and_agrees d e h text = mapped_agrees K D (together each) (series (not_of limit n d) 38 (38 ∷ []) n text) (series (not_of wide m e) 38 (38 ∷ []) m text)
          (series_agrees K D (not_of limit n d) (not_of wide m e) h 38 (38 ∷ []) (λ k. no_longer _ (past not_blank 38) (series (not_of wide m e) 38 (38 ∷ []) k) (series_reads (Not wide m e) not_blank (not_of wide m e) (not_reads wide pos m e) 38 (38 ∷ []) refl (a_not wide pos m e) k)) n m less text)

      pub or_agrees : (d e : ℕ) → ((text : List ℕ) → Agrees K D (not_of limit n d text) (not_of wide m e text)) → (text : List ℕ) → Agrees K D (or_of (not_of limit n d) n text) (or_of (not_of wide m e) m text)
      or_agrees d e h text = mapped_agrees K D (together some) (series (and_of (not_of limit n d) n) 124 (124 ∷ []) n text) (series (and_of (not_of wide m e) m) 124 (124 ∷ []) m text)
          (series_agrees K D (and_of (not_of limit n d) n) (and_of (not_of wide m e) m) (and_agrees d e h) 124 (124 ∷ []) short n m less text)
        where
          short : (k : ℕ) (text : List ℕ) → NoLonger (series (and_of (not_of wide m e) m) 124 (124 ∷ []) k text) text
          short k = no_longer _ or_ends (series (and_of (not_of wide m e) m) 124 (124 ∷ []) k) (series_reads (And (Not wide m e) m) and_ends (and_of (not_of wide m e) m) (and_reads_of wide pos m e (not_reads wide pos m e)) 124 (124 ∷ []) refl (an_and wide pos m e m) k)

      -- a choice whose first way is taken at its own bytes alone
      pub choose_at : (t : ℕ → Bool) (r s r' s' : List ℕ → Res Tree) → ((c : ℕ) (cs : List ℕ) → t c ≡ true → Agrees K D (r (c ∷ cs)) (r' (c ∷ cs))) → ((text : List ℕ) → Agrees K D (s text) (s' text)) → (text : List ℕ) → Agrees K D (choose t r s text) (choose t r' s' text)
      choose_at t r s r' s' h k [] = k []
      choose_at t r s r' s' h k (c ∷ cs) = by (t c) refl
        where
          by : (b : Bool) → t c ≡ b → Agrees K D (cond b (r (c ∷ cs)) (s (c ∷ cs))) (cond b (r' (c ∷ cs)) (s' (c ∷ cs)))
          by true e = h c cs e
          by false e = k (c ∷ cs)

      abbrev pub negation : ℕ → List ℕ → Res Tree
      negation e = mapped negated (not_of wide m e)

      abbrev pub group : ℕ → ℕ → ℕ → List ℕ → Res Tree
      group l j e y = bind (or_of (not_of l j e) j y) (λ t. mapped (λ _. t) (mark (41 ∷ [])))

      pub negation_short : (e : ℕ) (text : List ℕ) → NoLonger (negation e text) text
      negation_short e = mapped_no_longer negated (not_of wide m e) (no_longer _ not_blank (not_of wide m e) (not_reads wide pos m e))

      pub group_short : (e : ℕ) (text : List ℕ) → NoLonger (group wide m e text) text
      group_short e = no_longer _ not_blank (group wide m e) (inner_reads wide pos m e (not_reads wide pos m e))

      pub not_agrees : (d e : ℕ) → Grown D d e → (text : List ℕ) → Agrees K D (not_of limit n d text) (not_of wide m e text)
      not_agrees zero zero g = choose_at (λ c. eqb c 33) (stop deep) (choose (λ c. eqb c 40) (stop deep) (atom limit n)) (stop deep) (choose (λ c. eqb c 40) (stop deep) (atom wide m)) (λ c cs t. same D g c cs)
          (choose_at (λ c. eqb c 40) (stop deep) (atom limit n) (stop deep) (atom wide m) (λ c cs t. same D g c cs) atom_agrees)
        where
          same : (b : Bool) → Grown b zero zero → (c : ℕ) (cs : List ℕ) → Moves b deep (c ∷ cs) (stop {A = Tree} deep (c ∷ cs))
          same true h c cs = absurd (omega arith)
          same false h c cs = refl
      not_agrees zero (suc e) g = choose_at (λ c. eqb c 33) (stop deep) (choose (λ c. eqb c 40) (stop deep) (atom limit n)) (λ x. bind (mark (33 ∷ []) x) (λ _. negation e)) (choose (λ c. eqb c 40) (λ x. bind (mark (40 ∷ []) x) (λ _. group wide m e)) (atom wide m)) (λ c cs t. bang D g c cs t)
          (choose_at (λ c. eqb c 40) (stop deep) (atom limit n) (λ x. bind (mark (40 ∷ []) x) (λ _. group wide m e)) (atom wide m) (λ c cs t. open_ D g c cs t) atom_agrees)
        where
          bang : (b : Bool) → Grown b zero (suc e) → (c : ℕ) (cs : List ℕ) → eqb c 33 ≡ true → Moves b deep (c ∷ cs) (bind (mark (33 ∷ []) (c ∷ cs)) (λ _. negation e))
          bang true h c cs t = bind_later (mark (33 ∷ []) (c ∷ cs)) (λ _. negation e) (c ∷ cs) (mark_past K D 33 [] c cs t) (λ _. negation_short e)
          bang false h c cs t = absurd (omega arith)

          open_ : (b : Bool) → Grown b zero (suc e) → (c : ℕ) (cs : List ℕ) → eqb c 40 ≡ true → Moves b deep (c ∷ cs) (bind (mark (40 ∷ []) (c ∷ cs)) (λ _. group wide m e))
          open_ true h c cs t = bind_later (mark (40 ∷ []) (c ∷ cs)) (λ _. group wide m e) (c ∷ cs) (mark_past K D 40 [] c cs t) (λ _. group_short e)
          open_ false h c cs t = absurd (omega arith)
      not_agrees (suc d) zero g = absurd (none D g)
        where
          none : (b : Bool) → Grown b (suc d) zero → ⊥
          none true h = omega arith
          none false h = omega arith
      not_agrees (suc d) (suc e) g = further (not_agrees d e (less_by D g))
        where
          less_by : (b : Bool) → Grown b (suc d) (suc e) → Grown b d e
          less_by true h = omega arith
          less_by false h = omega arith

          further : ((text : List ℕ) → Agrees K D (not_of limit n d text) (not_of wide m e text)) → (text : List ℕ) → Agrees K D (not_of limit n (suc d) text) (not_of wide m (suc e) text)
          further h = choose_agrees K D (λ c. eqb c 33) (λ x. bind (mark (33 ∷ []) x) (λ _. mapped negated (not_of limit n d))) (choose (λ c. eqb c 40) (λ x. bind (mark (40 ∷ []) x) (λ _. group limit n d)) (atom limit n)) (λ x. bind (mark (33 ∷ []) x) (λ _. negation e)) (choose (λ c. eqb c 40) (λ x. bind (mark (40 ∷ []) x) (λ _. group wide m e)) (atom wide m))
              (mark_then 33 [] (mapped negated (not_of limit n d)) (negation e) (λ x. mapped_agrees K D negated (not_of limit n d x) (not_of wide m e x) (h x)) (negation_short e))
              (choose_agrees K D (λ c. eqb c 40) (λ x. bind (mark (40 ∷ []) x) (λ _. group limit n d)) (atom limit n) (λ x. bind (mark (40 ∷ []) x) (λ _. group wide m e)) (atom wide m)
              (mark_then 40 [] (group limit n d) (group wide m e) (λ y. bind_agrees K D (or_of (not_of limit n d) n y) (or_of (not_of wide m e) m y) (λ t. mapped (λ _. t) (mark (41 ∷ []))) (λ t. mapped (λ _. t) (mark (41 ∷ []))) (or_agrees d e h y) (λ t. close_same t) (λ t. close_no_longer t)) (group_short e))
              atom_agrees)

      pub end_agrees : (x y : Res Tree) → Agrees K D x y → Agrees K D (at_end x) (at_end y)
      end_agrees (Got t []) y h = ap at_end h
      end_agrees (Got t (c ∷ cs)) y h = ap at_end h
      end_agrees (Stop unexpected rest) y h = ap at_end h
      end_agrees (Stop deep rest) y h = moved D deep rest y h
        where
          later_end : (rest : List ℕ) (y : Res Tree) → Later y rest → Later (at_end y) rest
          later_end rest (Got t []) h = h
          later_end rest (Got t (c ∷ cs)) h = h
          later_end rest (Stop why r) h = h

          moved : (b : Bool) (why : Cause) (rest : List ℕ) (y : Res Tree) → Moves b why rest y → Moves b why rest (at_end y)
          moved true why rest y h = later_end rest y h
          moved false why rest y h = ap at_end h
      end_agrees (Stop long rest) y h = moved K long rest y h
        where
          later_end : (rest : List ℕ) (y : Res Tree) → Later y rest → Later (at_end y) rest
          later_end rest (Got t []) h = h
          later_end rest (Got t (c ∷ cs)) h = h
          later_end rest (Stop why r) h = h

          moved : (b : Bool) (why : Cause) (rest : List ℕ) (y : Res Tree) → Moves b why rest y → Moves b why rest (at_end y)
          moved true why rest y h = later_end rest y h
          moved false why rest y h = ap at_end h
      end_agrees (Stop spent rest) (Got t []) h = h
      end_agrees (Stop spent rest) (Got t (c ∷ cs)) h = h
      end_agrees (Stop spent rest) (Stop why r) h = h

      pub whole_agrees : (d e : ℕ) → Grown D d e → (text : List ℕ) → Agrees K D (parsed limit n d text) (parsed wide m e text)
      whole_agrees d e g text = by (skip text)
        where
          by : (x : List ℕ) → Agrees K D (from_start (or_of (not_of limit n d) n) x) (from_start (or_of (not_of wide m e) m) x)
          by [] = refl
          by (c ∷ cs) = end_agrees (or_of (not_of limit n d) n (c ∷ cs)) (or_of (not_of wide m e) m (c ∷ cs)) (or_agrees d e (not_agrees d e g) (c ∷ cs))
