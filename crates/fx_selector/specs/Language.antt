-- The selector language of the Calico resource reference, "Selectors". A phrase has the spaces and tabs after its marks
-- and strings; what follows a word is led by its own. `limit` is the most bytes of a key, n + 1 the most members of a
-- series, and `depth` how many `!` and grouping `(` may open inside.
use Rattle.std.specs.Prelude.{◌≡◌, ℕ, zero, suc, Bool, not, ◌&&◌, eqb, ◌⊎◌, List, [], nat_eq, codes}
use Rattle.std.specs.Cmp.Lexicographic.{pointwise}
use Rattle.fx_selector.specs.Tree.{Tree, all, global, has, equal, unequal, within, outside, contains, starts, ends, negated, each, some, set_of, together}
use Rattle.fx_selector.specs.Phrase.{Then, Each, Mapped, Either, Nothing, is_blank, not_blank, not_key, is_quote, any_byte, Mark, Byte, Closed, Word, Led, Pick, Series, Keyword}

abbrev pub same_bytes : List ℕ → List ℕ → Bool
same_bytes = pointwise nat_eq

-- the words of the language
abbrev pub all_word : List ℕ
all_word = codes "all"

abbrev pub global_word : List ℕ
global_word = codes "global"

abbrev pub has_word : List ℕ
has_word = codes "has"

abbrev pub in_word : List ℕ
in_word = codes "in"

abbrev pub not_word : List ℕ
not_word = codes "not"

abbrev pub contains_word : List ℕ
contains_word = codes "contains"

abbrev pub starts_word : List ℕ
starts_word = codes "starts"

abbrev pub with_word : List ℕ
with_word = codes "with"

abbrev pub ends_word : List ℕ
ends_word = codes "ends"

-- a string in its quotes
abbrev pub String : List ℕ → List ℕ → Type 0
String = Then any_byte (Byte is_quote) Closed

-- set = "{" [ str { "," str } ] "}", of at most n + 1 strings
abbrev pub Set : ℕ → List ℕ → List (List ℕ) → Type 0
Set n = Then not_blank (Mark (codes "{")) (λ _. Either
    (Mapped (λ _. []) (Mark (codes "}")))
    (Then (λ c. not_blank c && not (eqb c 44)) (Series not_blank String (codes ",") n) (λ vs. Mapped (λ _. set_of vs) (Mark (codes "}")))))

-- test = "==" str | "!=" str | "in" set | "not" "in" set | "contains" str | "starts" "with" str | "ends" "with" str
abbrev pub Test : ℕ → List ℕ → List ℕ → Tree → Type 0
Test n k =
    Either (Then not_blank (Mark (codes "==")) (λ _. Mapped (equal k) String))
    (Either (Then not_blank (Mark (codes "!=")) (λ _. Mapped (unequal k) String))
    (Either (Then not_key (Keyword in_word) (λ _. Led (Mapped (within k) (Set n))))
    (Either (Then not_key (Keyword not_word) (λ _. Led (Then not_key (Keyword in_word) (λ _. Led (Mapped (outside k) (Set n))))))
    (Either (Then not_key (Keyword contains_word) (λ _. Led (Mapped (contains k) String)))
    (Either (Then not_key (Keyword starts_word) (λ _. Led (Then not_key (Keyword with_word) (λ _. Led (Mapped (starts k) String)))))
    (Then not_key (Keyword ends_word) (λ _. Led (Then not_key (Keyword with_word) (λ _. Led (Mapped (ends k) String))))))))))

-- "all" "(" ")" | "global" "(" ")" | "has" "(" key ")", behind the word
abbrev pub Call : ℕ → List ℕ → List ℕ → Tree → Type 0
Call limit w =
    Pick (same_bytes w all_word) (Then not_blank (Mark (codes "(")) (λ _. Mapped (λ _. all) (Mark (codes ")"))))
    (Pick (same_bytes w global_word) (Then not_blank (Mark (codes "(")) (λ _. Mapped (λ _. global) (Mark (codes ")"))))
    (Pick (same_bytes w has_word) (Then not_blank (Mark (codes "(")) (λ _. Then not_key (Word limit) (λ k. Led (Mapped (λ _. has k) (Mark (codes ")"))))))
    Nothing))

-- a word, and what follows it
abbrev pub Atom : ℕ → ℕ → List ℕ → Tree → Type 0
Atom limit n = Then not_key (Word limit) (λ w. Led (Either (Call limit w) (Test n w)))

-- and = not { "&&" not }
abbrev pub And : (List ℕ → Tree → Type 0) → ℕ → List ℕ → Tree → Type 0
And G n = Mapped (together each) (Series not_blank G (codes "&&") n)

abbrev pub and_ends : ℕ → Bool
and_ends c = not_blank c && not (eqb c 38)

-- or = and { "||" and }
abbrev pub Or : (List ℕ → Tree → Type 0) → ℕ → List ℕ → Tree → Type 0
Or G n = Mapped (together some) (Series and_ends (And G n) (codes "||") n)

abbrev pub or_ends : ℕ → Bool
or_ends c = and_ends c && not (eqb c 124)

-- not = "!" not | "(" or ")" | a word and what follows it; within at most depth open `!` and `(`
abbrev pub Not : ℕ → ℕ → ℕ → List ℕ → Tree → Type 0
Not limit n zero = Either Nothing (Either Nothing (Atom limit n))
Not limit n (suc depth) =
    Either (Then not_blank (Mark (codes "!")) (λ _. Mapped negated (Not limit n depth)))
    (Either (Then not_blank (Mark (codes "(")) (λ _. Then or_ends (Or (Not limit n depth) n) (λ t. Mapped (λ _. t) (Mark (codes ")")))))
    (Atom limit n))

-- text = blank | or
abbrev pub SelectorText : ℕ → ℕ → ℕ → List ℕ → Tree → Type 0
SelectorText limit n depth text t = (Each is_blank text × (t ≡ all)) ⊎ Led (Or (Not limit n depth) n) text t
