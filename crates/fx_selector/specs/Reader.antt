-- The selector language read from left to right.
use Rattle.std.specs.Prelude.{ℕ, zero, suc, eqb, List, [], ◌∷◌}
use Rattle.fx_selector.specs.Phrase.{is_quote}
use Rattle.fx_selector.specs.Reading.{unexpected, deep, Res, Got, Stop, bind, choose, mapped, stop, skip, mark, byte, closed, word, led, pick, series, keyword}
use Rattle.fx_selector.specs.Language.{same_bytes, all_word, global_word, has_word, in_word, not_word, contains_word, starts_word, with_word, ends_word}
use Rattle.fx_selector.specs.Tree.{Tree, all, global, has, equal, unequal, within, outside, contains, starts, ends, negated, each, some, set_of, together}

abbrev pub string : List ℕ → Res (List ℕ)
string text = bind (byte is_quote text) closed

abbrev pub set : ℕ → List ℕ → Res (List (List ℕ))
set n text = bind (mark (123 ∷ []) text) (λ _. choose (λ c. eqb c 125)
    (mapped (λ _. []) (mark (125 ∷ [])))
    (λ x. bind (series string 44 [] n x) (λ vs. mapped (λ _. set_of vs) (mark (125 ∷ [])))))

abbrev pub with_string : (List ℕ → Tree) → List ℕ → Res Tree
with_string f text = bind (keyword with_word text) (λ _. led (mapped f string))

abbrev pub in_set : (List (List ℕ) → Tree) → ℕ → List ℕ → Res Tree
in_set f n text = bind (keyword in_word text) (λ _. led (mapped f (set n)))

-- the tests, from their first mark or word on
abbrev pub equal_test : List ℕ → List ℕ → Res Tree
equal_test k text = bind (mark (61 ∷ 61 ∷ []) text) (λ _. mapped (equal k) string)

abbrev pub unequal_test : List ℕ → List ℕ → Res Tree
unequal_test k text = bind (mark (33 ∷ 61 ∷ []) text) (λ _. mapped (unequal k) string)

abbrev pub outside_test : ℕ → List ℕ → List ℕ → Res Tree
outside_test n k text = bind (keyword not_word text) (λ _. led (in_set (outside k) n))

abbrev pub contains_test : List ℕ → List ℕ → Res Tree
contains_test k text = bind (keyword contains_word text) (λ _. led (mapped (contains k) string))

abbrev pub starts_test : List ℕ → List ℕ → Res Tree
starts_test k text = bind (keyword starts_word text) (λ _. led (with_string (starts k)))

abbrev pub ends_test : List ℕ → List ℕ → Res Tree
ends_test k text = bind (keyword ends_word text) (λ _. led (with_string (ends k)))

abbrev pub word_test : ℕ → List ℕ → List ℕ → Res Tree
word_test n k =
    choose (λ c. eqb c 105) (in_set (within k) n)
    (choose (λ c. eqb c 110) (outside_test n k)
    (choose (λ c. eqb c 99) (contains_test k)
    (choose (λ c. eqb c 115) (starts_test k) (ends_test k))))

abbrev pub test : ℕ → List ℕ → List ℕ → Res Tree
test n k = choose (λ c. eqb c 61) (equal_test k) (choose (λ c. eqb c 33) (unequal_test k) (word_test n k))

-- `()`, and `(key)`
abbrev pub bare_call : Tree → List ℕ → Res Tree
bare_call t text = bind (mark (40 ∷ []) text) (λ _. mapped (λ _. t) (mark (41 ∷ [])))

abbrev pub key_call : ℕ → List ℕ → Res Tree
key_call limit text = bind (mark (40 ∷ []) text) (λ _. λ y. bind (word limit y) (λ k. led (mapped (λ _. has k) (mark (41 ∷ [])))))

abbrev pub call : ℕ → List ℕ → List ℕ → Res Tree
call limit w =
    pick (same_bytes w all_word) (bare_call all)
    (pick (same_bytes w global_word) (bare_call global)
    (pick (same_bytes w has_word) (key_call limit) (stop unexpected)))

abbrev pub atom : ℕ → ℕ → List ℕ → Res Tree
atom limit n text = bind (word limit text) (λ w. led (choose (λ c. eqb c 40) (call limit w) (test n w)))

abbrev pub and_of : (List ℕ → Res Tree) → ℕ → List ℕ → Res Tree
and_of r n = mapped (together each) (series r 38 (38 ∷ []) n)

abbrev pub or_of : (List ℕ → Res Tree) → ℕ → List ℕ → Res Tree
or_of r n = mapped (together some) (series (and_of r n) 124 (124 ∷ []) n)

abbrev pub not_of : ℕ → ℕ → ℕ → List ℕ → Res Tree
not_of limit n zero = choose (λ c. eqb c 33) (stop deep) (choose (λ c. eqb c 40) (stop deep) (atom limit n))
not_of limit n (suc depth) =
    choose (λ c. eqb c 33) (λ x. bind (mark (33 ∷ []) x) (λ _. mapped negated (not_of limit n depth)))
    (choose (λ c. eqb c 40) (λ x. bind (mark (40 ∷ []) x) (λ _. λ y. bind (or_of (not_of limit n depth) n y) (λ t. mapped (λ _. t) (mark (41 ∷ [])))))
    (atom limit n))

abbrev pub at_end : Res Tree → Res Tree
at_end (Got t []) = Got t []
at_end (Got t (c ∷ cs)) = Stop unexpected (c ∷ cs)
at_end (Stop why rest) = Stop why rest

abbrev pub from_start : (List ℕ → Res Tree) → List ℕ → Res Tree
from_start r [] = Got all []
from_start r (c ∷ cs) = at_end (r (c ∷ cs))

-- the whole text
abbrev pub parsed : ℕ → ℕ → ℕ → List ℕ → Res Tree
parsed limit n depth text = from_start (or_of (not_of limit n depth) n) (skip text)
