-- The reader of the language is exact.
use Rattle.std.proofs.Common.{◌≡◌, ℕ, zero, suc, ◌<◌, Bool, true, false, not, ◌&&◌, ◌||◌, leb, eqb, inl, inr, List, [], ◌∷◌, ◌++◌, refl, sym, ap, subst, arith}
use Rattle.std.proofs.lemmas.Bool.{eqb-true}
use Rattle.fx_selector.specs.Phrase.{Starts, Then, Mapped, Either, Nothing, not_blank, is_key, not_key, is_quote, any_byte, Mark, Byte, Closed, Word, Led, Pick, Series, Keyword}
use Rattle.fx_selector.specs.Reading.{unexpected, deep, Res, bind, choose, mapped, stop, mark, byte, closed, word, led, series, keyword}
use Rattle.fx_selector.specs.Language.{same_bytes, all_word, global_word, has_word, in_word, not_word, contains_word, starts_word, with_word, ends_word, String, Set, Test, Call, Atom, And, Or, Not, and_ends, or_ends}
use Rattle.fx_selector.specs.Tree.{Tree, all, global, has, equal, unequal, within, outside, contains, starts, ends, negated, each, some, set_of, together}
use Rattle.fx_selector.specs.Reader.{string, set, with_string, in_set, test, call, atom, and_of, or_of, not_of}
use Rattle.fx_selector.proofs.Exact.{Reads, seq}
use Rattle.fx_selector.proofs.Choice.{stops_all, map_reads, choice}
use Rattle.fx_selector.proofs.Marks.{mark_reads, byte_reads}
use Rattle.fx_selector.proofs.Words.{closed_reads, word_reads, led_reads}
use Rattle.fx_selector.proofs.Series.{picked, series_reads}
use Rattle.fx_selector.proofs.Keywords.{keyword_reads}

-- a phrase that begins as its first part begins
pub starts_prefix : (test : ℕ → Bool) (a b : List ℕ) → Starts test a → Starts test (a ++ b)
starts_prefix test [] b h = absurd h
starts_prefix test (c ∷ cs) b h = h

pub then_starts : {A B : Type 0} (stops : ℕ → Bool) (G : List ℕ → A → Type 0) (H : A → List ℕ → B → Type 0) (test : ℕ → Bool) → ((p : List ℕ) (v : A) → G p v → Starts test p) → (p : List ℕ) (v : B) → Then stops G H p v → Starts test p
then_starts stops G H test first p v h = subst (Starts test) (sym h.whole) (starts_prefix test h.prefix h.back (first h.prefix h.said h.first))

pub mark_starts : (test : ℕ → Bool) (b : ℕ) (bs : List ℕ) → test b ≡ true → (p : List ℕ) (v : Unit {0}) → Mark (b ∷ bs) p v → Starts test p
mark_starts test b bs t p v h = subst (Starts test) (sym h.2) t

pub keyword_starts : (test : ℕ → Bool) (b : ℕ) (bs : List ℕ) → test b ≡ true → (p : List ℕ) (v : Unit {0}) → Keyword (b ∷ bs) p v → Starts test p
keyword_starts test b bs t p v h = subst (Starts test) (sym h) t

pub either_starts : {A : Type 0} (G H : List ℕ → A → Type 0) (test : ℕ → Bool) → ((p : List ℕ) (v : A) → G p v → Starts test p) → ((p : List ℕ) (v : A) → H p v → Starts test p) → (p : List ℕ) (v : A) → Either G H p v → Starts test p
either_starts G H test g h p v (inl x) = g p v x
either_starts G H test g h p v (inr x) = h p v x

pub pick_starts : {A : Type 0} (b : Bool) (G H : List ℕ → A → Type 0) (test : ℕ → Bool) → ((p : List ℕ) (v : A) → G p v → Starts test p) → ((p : List ℕ) (v : A) → H p v → Starts test p) → (p : List ℕ) (v : A) → Pick b G H p v → Starts test p
pick_starts true G H test g h p v x = g p v x
pick_starts false G H test g h p v x = h p v x

pub key_starts : (limit : ℕ) (test : ℕ → Bool) → ((c : ℕ) → is_key c ≡ true → test c ≡ true) → (p v : List ℕ) → Word limit p v → Starts test p
key_starts limit test t [] v h = absurd (omega arith)
key_starts limit test t (c ∷ cs) v h = t c h.0.0

-- a byte of a kind is none that is not of the kind
pub other_byte : (kind : ℕ → Bool) (b : ℕ) → kind b ≡ false → (c : ℕ) → kind c ≡ true → not (eqb c b) ≡ true
other_byte kind b f c t = by (eqb c b) refl
  where
    by : (e : Bool) → eqb c b ≡ e → not e ≡ true
    by true e = let same : c ≡ b = eqb-true c b e in let z : kind b ≡ true = subst (λ x. kind x ≡ true) same t in absurd (cc)
    by false e = refl

pub quote_is : (b : ℕ) → (eqb b 34 || eqb b 39) ≡ false → is_quote b ≡ false
unfolding is_quote
quote_is b e = e

pub key_is : (b : ℕ) → ((leb 97 b && leb b 122) || (leb 65 b && leb b 90) || (leb 45 b && leb b 57) || eqb b 95) ≡ false → is_key b ≡ false
unfolding is_key
key_is b e = e

pub key_a : is_key 97 ≡ true
unfolding is_key
key_a = refl

pub string_reads : Reads String not_blank string
string_reads = seq (Byte is_quote) Closed any_byte not_blank (byte is_quote) closed (byte_reads is_quote) closed_reads (λ q. (q ∷ [], [], refl, ([], tt, tt, refl)))

pub quote_34 : is_quote 34 ≡ true
unfolding is_quote
quote_34 = refl

pub string_starts : (test : ℕ → Bool) → ((c : ℕ) → is_quote c ≡ true → test c ≡ true) → (p v : List ℕ) → String p v → Starts test p
string_starts test t = then_starts any_byte (Byte is_quote) Closed test (λ p v h. subst (Starts test) (sym h.0) (t v h.1))

-- ""
pub some_string : String (34 ∷ 34 ∷ []) []
some_string = record { prefix = 34 ∷ []; back = 34 ∷ []; said = 34; whole = refl; first = (refl, quote_34); apart = refl; second = ([], tt, tt, refl) }

pub a_string : (more : List ℕ) × (v : List ℕ) × Starts not_blank more × String more v
a_string = (34 ∷ 34 ∷ [], [], refl, some_string)

pub series_starts : {A : Type 0} (stops : ℕ → Bool) (G : List ℕ → A → Type 0) (between : List ℕ) (test : ℕ → Bool) → ((p : List ℕ) (v : A) → G p v → Starts test p) → (n : ℕ) (p : List ℕ) (v : List A) → Series stops G between n p v → Starts test p
series_starts stops G between test g zero p v (inl h) = g p h.0 h.1
series_starts stops G between test g zero p v (inr h) = absurd h.second
series_starts stops G between test g (suc n) p v (inl h) = g p h.0 h.1
series_starts stops G between test g (suc n) p v (inr h) = subst (Starts test) (sym h.whole) (starts_prefix test h.prefix h.back (g h.prefix h.said h.first))

abbrev pub comma_ends : ℕ → Bool
comma_ends c = not_blank c && not (eqb c 44)

abbrev pub Empty : List ℕ → List (List ℕ) → Type 0
Empty = Mapped (λ _. []) (Mark (125 ∷ []))

abbrev pub Full : ℕ → List ℕ → List (List ℕ) → Type 0
Full n = Then comma_ends (Series not_blank String (44 ∷ []) n) (λ vs. Mapped (λ _. set_of vs) (Mark (125 ∷ [])))

pub full_reads : (n : ℕ) → Reads (Full n) not_blank (λ x. bind (series string 44 [] n x) (λ vs. mapped (λ _. set_of vs) (mark (125 ∷ []))))
full_reads n = seq (Series not_blank String (44 ∷ []) n) (λ vs. Mapped (λ _. set_of vs) (Mark (125 ∷ []))) comma_ends not_blank (series string 44 [] n) (λ vs. mapped (λ _. set_of vs) (mark (125 ∷ [])))
    (series_reads String not_blank string string_reads 44 [] refl a_string n)
    (λ vs. map_reads (λ _. set_of vs) (Mark (125 ∷ [])) not_blank (mark (125 ∷ [])) (mark_reads 125 []))
    (λ vs. (125 ∷ [], set_of vs, refl, (tt, ([], tt, refl), refl)))

pub set_reads : (n : ℕ) → Reads (Set n) not_blank (set n)
set_reads n = seq (Mark (123 ∷ [])) (λ _. Either Empty (Full n)) not_blank not_blank (mark (123 ∷ [])) _ (mark_reads 123 [])
    (λ _. choice (λ c. eqb c 125) Empty (Full n) not_blank (mapped (λ _. []) (mark (125 ∷ []))) _
    (map_reads (λ _. []) (Mark (125 ∷ [])) not_blank (mark (125 ∷ [])) (mark_reads 125 []))
    (full_reads n)
    (λ p v h. mark_starts (λ c. eqb c 125) 125 [] refl p h.0 h.1)
    (then_starts comma_ends (Series not_blank String (44 ∷ []) n) _ (λ c. not (eqb c 125)) (series_starts not_blank String (44 ∷ []) (λ c. not (eqb c 125)) (string_starts (λ c. not (eqb c 125)) (other_byte is_quote 125 (quote_is 125 refl))) n)))
    (λ _. (125 ∷ [], [], refl, inl (tt, ([], tt, refl), refl)))

pub space_ends : not_key 32 ≡ true
space_ends = ap not (key_is 32 refl)

-- after a word a phrase led by a space
pub led_by_space : {A : Type 0} (H : List ℕ → A → Type 0) → ((more : List ℕ) × (v : A) × Starts not_blank more × H more v) → (more : List ℕ) × (v : A) × Starts not_key more × Led H more v
led_by_space H s = (32 ∷ s.0, s.1, space_ends, (32 ∷ [], s.0, (refl, tt), refl, s.2, s.3))

pub spaced_word : {A : Type 0} (b : ℕ) (bs : List ℕ) (H : List ℕ → A → Type 0) (ends_h : ℕ → Bool) (r : List ℕ → Res A) → Reads H ends_h r → ((more : List ℕ) × (v : A) × Starts not_blank more × H more v) → Reads (Then not_key (Keyword (b ∷ bs)) (λ _. Led H)) ends_h (λ x. bind (keyword (b ∷ bs) x) (λ _. led r))
spaced_word b bs H ends_h r R s = seq (Keyword (b ∷ bs)) (λ _. Led H) not_key ends_h (keyword (b ∷ bs)) (λ _. led r) (keyword_reads b bs) (λ _. led_reads H ends_h r R s) (λ _. led_by_space H s)

pub spaced_some : {A : Type 0} (b : ℕ) (bs : List ℕ) (H : List ℕ → A → Type 0) → not_blank b ≡ true → ((more : List ℕ) × (v : A) × Starts not_blank more × H more v) → (more : List ℕ) × (v : A) × Starts not_blank more × Then not_key (Keyword (b ∷ bs)) (λ _. Led H) more v
spaced_some b bs H n s = let w = led_by_space H s in (b ∷ bs ++ w.0, w.1, n, record { prefix = b ∷ bs; back = w.0; said = tt; whole = refl; first = refl; apart = w.2; second = w.3 })

pub word_test : {A : Type 0} (test : ℕ → Bool) (b : ℕ) (bs : List ℕ) (H : List ℕ → A → Type 0) → test b ≡ true → (p : List ℕ) (v : A) → Then not_key (Keyword (b ∷ bs)) (λ _. Led H) p v → Starts test p
word_test test b bs H t = then_starts not_key (Keyword (b ∷ bs)) (λ _. Led H) test (keyword_starts test b bs t)

pub mark_test : {A : Type 0} (test : ℕ → Bool) (b : ℕ) (bs : List ℕ) (H : Unit {0} → List ℕ → A → Type 0) → test b ≡ true → (p : List ℕ) (v : A) → Then not_blank (Mark (b ∷ bs)) H p v → Starts test p
mark_test test b bs H t = then_starts not_blank (Mark (b ∷ bs)) H test (mark_starts test b bs t)

module _ (n : ℕ) (k : List ℕ) where
  pub mapped_string : (f : List ℕ → Tree) → Reads (Mapped f String) not_blank (mapped f string)
  mapped_string f = map_reads f String not_blank string string_reads

  pub a_mapped : (f : List ℕ → Tree) → (more : List ℕ) × (v : Tree) × Starts not_blank more × Mapped f String more v
  a_mapped f = (34 ∷ 34 ∷ [], f [], refl, ([], some_string, refl))

  pub a_set : (f : List (List ℕ) → Tree) → (more : List ℕ) × (v : Tree) × Starts not_blank more × Mapped f (Set n) more v
  a_set f = (123 ∷ 125 ∷ [], f [], refl, ([], record { prefix = 123 ∷ []; back = 125 ∷ []; said = tt; whole = refl; first = ([], tt, refl); apart = refl; second = inl (tt, ([], tt, refl), refl) }, refl))

  abbrev pub OfString : (List ℕ → Tree) → List ℕ → Tree → Type 0
  OfString f = Mapped f String

  abbrev pub WithString : (List ℕ → Tree) → List ℕ → Tree → Type 0
  WithString f = Then not_key (Keyword with_word) (λ _. Led (Mapped f String))

  abbrev pub InSet : (List (List ℕ) → Tree) → List ℕ → Tree → Type 0
  InSet f = Then not_key (Keyword in_word) (λ _. Led (Mapped f (Set n)))

  pub with_reads : (f : List ℕ → Tree) → Reads (WithString f) not_blank (with_string f)
  with_reads f = spaced_word 119 (105 ∷ 116 ∷ 104 ∷ []) (Mapped f String) not_blank (mapped f string) (mapped_string f) (a_mapped f)

  pub in_reads : (f : List (List ℕ) → Tree) → Reads (InSet f) not_blank (in_set f n)
  in_reads f = spaced_word 105 (110 ∷ []) (Mapped f (Set n)) not_blank (mapped f (set n)) (map_reads f (Set n) not_blank (set n) (set_reads n)) (a_set f)

  pub a_with : (f : List ℕ → Tree) → (more : List ℕ) × (v : Tree) × Starts not_blank more × WithString f more v
  a_with f = spaced_some 119 (105 ∷ 116 ∷ 104 ∷ []) (Mapped f String) refl (a_mapped f)

  pub an_in : (f : List (List ℕ) → Tree) → (more : List ℕ) × (v : Tree) × Starts not_blank more × InSet f more v
  an_in f = spaced_some 105 (110 ∷ []) (Mapped f (Set n)) refl (a_set f)

  -- the seven tests, from the last on
  abbrev pub EndsTest : List ℕ → Tree → Type 0
  EndsTest = Then not_key (Keyword ends_word) (λ _. Led (WithString (ends k)))

  abbrev pub StartsTest : List ℕ → Tree → Type 0
  StartsTest = Then not_key (Keyword starts_word) (λ _. Led (WithString (starts k)))

  abbrev pub ContainsTest : List ℕ → Tree → Type 0
  ContainsTest = Then not_key (Keyword contains_word) (λ _. Led (OfString (contains k)))

  abbrev pub OutsideTest : List ℕ → Tree → Type 0
  OutsideTest = Then not_key (Keyword not_word) (λ _. Led (InSet (outside k)))

  abbrev pub WithinTest : List ℕ → Tree → Type 0
  WithinTest = InSet (within k)

  abbrev pub UnequalTest : List ℕ → Tree → Type 0
  UnequalTest = Then not_blank (Mark (33 ∷ 61 ∷ [])) (λ _. OfString (unequal k))

  abbrev pub EqualTest : List ℕ → Tree → Type 0
  EqualTest = Then not_blank (Mark (61 ∷ 61 ∷ [])) (λ _. OfString (equal k))

  pub r7 : Reads EndsTest not_blank (λ x. bind (keyword ends_word x) (λ _. led (with_string (ends k))))
  r7 = spaced_word 101 (110 ∷ 100 ∷ 115 ∷ []) (WithString (ends k)) not_blank (with_string (ends k)) (with_reads (ends k)) (a_with (ends k))

  pub r6 : Reads StartsTest not_blank (λ x. bind (keyword starts_word x) (λ _. led (with_string (starts k))))
  r6 = spaced_word 115 (116 ∷ 97 ∷ 114 ∷ 116 ∷ 115 ∷ []) (WithString (starts k)) not_blank (with_string (starts k)) (with_reads (starts k)) (a_with (starts k))

  pub r5 : Reads ContainsTest not_blank (λ x. bind (keyword contains_word x) (λ _. led (mapped (contains k) string)))
  r5 = spaced_word 99 (111 ∷ 110 ∷ 116 ∷ 97 ∷ 105 ∷ 110 ∷ 115 ∷ []) (OfString (contains k)) not_blank (mapped (contains k) string) (mapped_string (contains k)) (a_mapped (contains k))

  pub r4 : Reads OutsideTest not_blank (λ x. bind (keyword not_word x) (λ _. led (in_set (outside k) n)))
  r4 = spaced_word 110 (111 ∷ 116 ∷ []) (InSet (outside k)) not_blank (in_set (outside k) n) (in_reads (outside k)) (an_in (outside k))

  pub r2 : Reads UnequalTest not_blank (λ x. bind (mark (33 ∷ 61 ∷ []) x) (λ _. mapped (unequal k) string))
  r2 = seq (Mark (33 ∷ 61 ∷ [])) (λ _. OfString (unequal k)) not_blank not_blank (mark (33 ∷ 61 ∷ [])) (λ _. mapped (unequal k) string) (mark_reads 33 (61 ∷ [])) (λ _. mapped_string (unequal k)) (λ _. a_mapped (unequal k))

  pub r1 : Reads EqualTest not_blank (λ x. bind (mark (61 ∷ 61 ∷ []) x) (λ _. mapped (equal k) string))
  r1 = seq (Mark (61 ∷ 61 ∷ [])) (λ _. OfString (equal k)) not_blank not_blank (mark (61 ∷ 61 ∷ [])) (λ _. mapped (equal k) string) (mark_reads 61 (61 ∷ [])) (λ _. mapped_string (equal k)) (λ _. a_mapped (equal k))

  -- a test that begins with one of these seven bytes, and not with the others
  pub s7 : (test : ℕ → Bool) → test 101 ≡ true → (p : List ℕ) (v : Tree) → EndsTest p v → Starts test p
  s7 test t = word_test test 101 (110 ∷ 100 ∷ 115 ∷ []) (WithString (ends k)) t

  pub s6 : (test : ℕ → Bool) → test 115 ≡ true → (p : List ℕ) (v : Tree) → StartsTest p v → Starts test p
  s6 test t = word_test test 115 (116 ∷ 97 ∷ 114 ∷ 116 ∷ 115 ∷ []) (WithString (starts k)) t

  pub s5 : (test : ℕ → Bool) → test 99 ≡ true → (p : List ℕ) (v : Tree) → ContainsTest p v → Starts test p
  s5 test t = word_test test 99 (111 ∷ 110 ∷ 116 ∷ 97 ∷ 105 ∷ 110 ∷ 115 ∷ []) (OfString (contains k)) t

  pub s4 : (test : ℕ → Bool) → test 110 ≡ true → (p : List ℕ) (v : Tree) → OutsideTest p v → Starts test p
  s4 test t = word_test test 110 (111 ∷ 116 ∷ []) (InSet (outside k)) t

  pub s3 : (test : ℕ → Bool) → test 105 ≡ true → (p : List ℕ) (v : Tree) → WithinTest p v → Starts test p
  s3 test t = word_test test 105 (110 ∷ []) (Mapped (within k) (Set n)) t

  pub s2 : (test : ℕ → Bool) → test 33 ≡ true → (p : List ℕ) (v : Tree) → UnequalTest p v → Starts test p
  s2 test t = mark_test test 33 (61 ∷ []) (λ _. OfString (unequal k)) t

  pub s1 : (test : ℕ → Bool) → test 61 ≡ true → (p : List ℕ) (v : Tree) → EqualTest p v → Starts test p
  s1 test t = mark_test test 61 (61 ∷ []) (λ _. OfString (equal k)) t

  abbrev pub U6 : List ℕ → Tree → Type 0
  U6 = Either StartsTest EndsTest

  abbrev pub U5 : List ℕ → Tree → Type 0
  U5 = Either ContainsTest U6

  abbrev pub U4 : List ℕ → Tree → Type 0
  U4 = Either OutsideTest U5

  abbrev pub U3 : List ℕ → Tree → Type 0
  U3 = Either WithinTest U4

  abbrev pub U2 : List ℕ → Tree → Type 0
  U2 = Either UnequalTest U3

  pub t6 : (test : ℕ → Bool) → test 115 ≡ true → test 101 ≡ true → (p : List ℕ) (v : Tree) → U6 p v → Starts test p
  t6 test a b = either_starts StartsTest EndsTest test (s6 test a) (s7 test b)

  pub t5 : (test : ℕ → Bool) → test 99 ≡ true → test 115 ≡ true → test 101 ≡ true → (p : List ℕ) (v : Tree) → U5 p v → Starts test p
  t5 test a b c = either_starts ContainsTest U6 test (s5 test a) (t6 test b c)

  pub t4 : (test : ℕ → Bool) → test 110 ≡ true → test 99 ≡ true → test 115 ≡ true → test 101 ≡ true → (p : List ℕ) (v : Tree) → U4 p v → Starts test p
  t4 test a b c d = either_starts OutsideTest U5 test (s4 test a) (t5 test b c d)

  pub t3 : (test : ℕ → Bool) → test 105 ≡ true → test 110 ≡ true → test 99 ≡ true → test 115 ≡ true → test 101 ≡ true → (p : List ℕ) (v : Tree) → U3 p v → Starts test p
  t3 test a b c d e = either_starts WithinTest U4 test (s3 test a) (t4 test b c d e)

  pub t2 : (test : ℕ → Bool) → test 33 ≡ true → test 105 ≡ true → test 110 ≡ true → test 99 ≡ true → test 115 ≡ true → test 101 ≡ true → (p : List ℕ) (v : Tree) → U2 p v → Starts test p
  t2 test z a b c d e = either_starts UnequalTest U3 test (s2 test z) (t3 test a b c d e)

  pub t1 : (test : ℕ → Bool) → test 61 ≡ true → test 33 ≡ true → test 105 ≡ true → test 110 ≡ true → test 99 ≡ true → test 115 ≡ true → test 101 ≡ true → (p : List ℕ) (v : Tree) → Test n k p v → Starts test p
  t1 test y z a b c d e = either_starts EqualTest U2 test (s1 test y) (t2 test z a b c d e)

  abbrev pub q6 : List ℕ → Res Tree
  q6 = choose (λ c. eqb c 115) (λ x. bind (keyword starts_word x) (λ _. led (with_string (starts k)))) (λ x. bind (keyword ends_word x) (λ _. led (with_string (ends k))))

  abbrev pub q5 : List ℕ → Res Tree
  q5 = choose (λ c. eqb c 99) (λ x. bind (keyword contains_word x) (λ _. led (mapped (contains k) string))) q6

  abbrev pub q4 : List ℕ → Res Tree
  q4 = choose (λ c. eqb c 110) (λ x. bind (keyword not_word x) (λ _. led (in_set (outside k) n))) q5

  abbrev pub q3 : List ℕ → Res Tree
  q3 = choose (λ c. eqb c 105) (in_set (within k) n) q4

  abbrev pub q2 : List ℕ → Res Tree
  q2 = choose (λ c. eqb c 33) (λ x. bind (mark (33 ∷ 61 ∷ []) x) (λ _. mapped (unequal k) string)) q3

  pub c6 : Reads U6 not_blank q6
  c6 = choice (λ c. eqb c 115) StartsTest EndsTest not_blank _ _ r6 r7 (s6 (λ c. eqb c 115) refl) (s7 (λ c. not (eqb c 115)) refl)

  pub c5 : Reads U5 not_blank q5
  c5 = choice (λ c. eqb c 99) ContainsTest U6 not_blank _ _ r5 c6 (s5 (λ c. eqb c 99) refl) (t6 (λ c. not (eqb c 99)) refl refl)

  pub c4 : Reads U4 not_blank q4
  c4 = choice (λ c. eqb c 110) OutsideTest U5 not_blank _ _ r4 c5 (s4 (λ c. eqb c 110) refl) (t5 (λ c. not (eqb c 110)) refl refl refl)

  pub c3 : Reads U3 not_blank q3
  c3 = choice (λ c. eqb c 105) WithinTest U4 not_blank _ _ (in_reads (within k)) c4 (s3 (λ c. eqb c 105) refl) (t4 (λ c. not (eqb c 105)) refl refl refl refl)

  pub c2 : Reads U2 not_blank q2
  c2 = choice (λ c. eqb c 33) UnequalTest U3 not_blank _ _ r2 c3 (s2 (λ c. eqb c 33) refl) (t3 (λ c. not (eqb c 33)) refl refl refl refl refl)

  pub test_reads : Reads (Test n k) not_blank (test n k)
  test_reads = choice (λ c. eqb c 61) EqualTest U2 not_blank _ _ r1 c2 (s1 (λ c. eqb c 61) refl) (t2 (λ c. not (eqb c 61)) refl refl refl refl refl refl)

abbrev pub Calls : (List ℕ → Tree → Type 0) → List ℕ → Tree → Type 0
Calls H = Then not_blank (Mark (40 ∷ [])) (λ _. H)

module _ (limit : ℕ) (pos : 0 < limit) (n : ℕ) where
  abbrev pub Bare : Tree → List ℕ → Tree → Type 0
  Bare t = Then not_blank (Mark (40 ∷ [])) (λ _. Mapped (λ _. t) (Mark (41 ∷ [])))

  abbrev pub bare : Tree → List ℕ → Res Tree
  bare t x = bind (mark (40 ∷ []) x) (λ _. mapped (λ _. t) (mark (41 ∷ [])))

  pub closing : (t : Tree) → Reads (Mapped (λ _. t) (Mark (41 ∷ []))) not_blank (mapped (λ _. t) (mark (41 ∷ [])))
  closing t = map_reads (λ _. t) (Mark (41 ∷ [])) not_blank (mark (41 ∷ [])) (mark_reads 41 [])

  pub a_close : (t : Tree) → (more : List ℕ) × (v : Tree) × Starts not_blank more × Mapped (λ _. t) (Mark (41 ∷ [])) more v
  a_close t = (41 ∷ [], t, refl, (tt, ([], tt, refl), refl))

  pub bare_reads : (t : Tree) → Reads (Bare t) not_blank (bare t)
  bare_reads t = seq (Mark (40 ∷ [])) (λ _. Mapped (λ _. t) (Mark (41 ∷ []))) not_blank not_blank (mark (40 ∷ [])) (λ _. mapped (λ _. t) (mark (41 ∷ []))) (mark_reads 40 []) (λ _. closing t) (λ _. a_close t)

  abbrev pub Keyed : List ℕ → Tree → Type 0
  Keyed = Then not_key (Word limit) (λ k. Led (Mapped (λ _. has k) (Mark (41 ∷ []))))

  abbrev pub keyed : List ℕ → Res Tree
  keyed y = bind (word limit y) (λ k. led (mapped (λ _. has k) (mark (41 ∷ []))))

  pub keyed_reads : Reads Keyed not_blank keyed
  keyed_reads = seq (Word limit) (λ k. Led (Mapped (λ _. has k) (Mark (41 ∷ [])))) not_key not_blank (word limit) (λ k. led (mapped (λ _. has k) (mark (41 ∷ [])))) (word_reads limit pos)
      (λ k. led_reads (Mapped (λ _. has k) (Mark (41 ∷ []))) not_blank (mapped (λ _. has k) (mark (41 ∷ []))) (closing (has k)) (a_close (has k)))
      (λ k. led_by_space (Mapped (λ _. has k) (Mark (41 ∷ []))) (a_close (has k)))

  pub a_keyed : (more : List ℕ) × (v : Tree) × Starts not_blank more × Keyed more v
  a_keyed = let w = led_by_space (Mapped (λ _. has (97 ∷ [])) (Mark (41 ∷ []))) (a_close (has (97 ∷ []))) in
      (97 ∷ w.0, w.1, refl, record { prefix = 97 ∷ []; back = w.0; said = 97 ∷ []; whole = refl; first = ((key_a, tt), omega arith, omega arith, refl); apart = w.2; second = w.3 })

  abbrev pub HasCall : List ℕ → Tree → Type 0
  HasCall = Then not_blank (Mark (40 ∷ [])) (λ _. Keyed)

  pub has_reads : Reads HasCall not_blank (λ x. bind (mark (40 ∷ []) x) (λ _. keyed))
  has_reads = seq (Mark (40 ∷ [])) (λ _. Keyed) not_blank not_blank (mark (40 ∷ [])) (λ _. keyed) (mark_reads 40 []) (λ _. keyed_reads) (λ _. a_keyed)

  module _ (w : List ℕ) where
    pub call_reads : Reads (Call limit w) not_blank (call limit w)
    call_reads = picked (same_bytes w all_word) (Bare all) _ not_blank (bare all) _ (bare_reads all)
        (picked (same_bytes w global_word) (Bare global) _ not_blank (bare global) _ (bare_reads global)
        (picked (same_bytes w has_word) HasCall Nothing not_blank (λ x. bind (mark (40 ∷ []) x) (λ _. keyed)) (stop unexpected) has_reads (stops_all unexpected not_blank)))

    pub call_starts : (p : List ℕ) (v : Tree) → Call limit w p v → Starts (λ c. eqb c 40) p
    call_starts = pick_starts (same_bytes w all_word) (Bare all) _ (λ c. eqb c 40) (mark_test (λ c. eqb c 40) 40 [] _ refl)
        (pick_starts (same_bytes w global_word) (Bare global) _ (λ c. eqb c 40) (mark_test (λ c. eqb c 40) 40 [] _ refl)
        (pick_starts (same_bytes w has_word) HasCall Nothing (λ c. eqb c 40) (mark_test (λ c. eqb c 40) 40 [] _ refl) (λ p v h. absurd h)))

    abbrev pub Follows : List ℕ → Tree → Type 0
    Follows = Either (Call limit w) (Test n w)

    pub follows_reads : Reads Follows not_blank (choose (λ c. eqb c 40) (call limit w) (test n w))
    follows_reads = choice (λ c. eqb c 40) (Call limit w) (Test n w) not_blank (call limit w) (test n w) call_reads (test_reads n w) call_starts (t1 n w (λ c. not (eqb c 40)) refl refl refl refl refl refl refl)

    -- ==""
    pub a_follow : (more : List ℕ) × (v : Tree) × Starts not_blank more × Follows more v
    a_follow = (61 ∷ 61 ∷ 34 ∷ 34 ∷ [], equal w [], refl, inr (inl (record { prefix = 61 ∷ 61 ∷ []; back = 34 ∷ 34 ∷ []; said = tt; whole = refl; first = ([], tt, refl); apart = refl; second = ([], some_string, refl) })))

  pub atom_reads : Reads (Atom limit n) not_blank (atom limit n)
  atom_reads = seq (Word limit) (λ w. Led (Follows w)) not_key not_blank (word limit) (λ w. led (choose (λ c. eqb c 40) (call limit w) (test n w))) (word_reads limit pos)
      (λ w. led_reads (Follows w) not_blank _ (follows_reads w) (a_follow w))
      (λ w. led_by_space (Follows w) (a_follow w))

  pub atom_starts : (test : ℕ → Bool) → ((c : ℕ) → is_key c ≡ true → test c ≡ true) → (p : List ℕ) (v : Tree) → Atom limit n p v → Starts test p
  atom_starts test t = then_starts not_key (Word limit) (λ w. Led (Follows w)) test (key_starts limit test t)

  pub an_atom : (more : List ℕ) × (v : Tree) × Starts not_blank more × Atom limit n more v
  an_atom = let w = led_by_space (Follows (97 ∷ [])) (a_follow (97 ∷ [])) in
      (97 ∷ w.0, w.1, refl, record { prefix = 97 ∷ []; back = w.0; said = 97 ∷ []; whole = refl; first = ((key_a, tt), omega arith, omega arith, refl); apart = w.2; second = w.3 })

  abbrev pub N : ℕ → List ℕ → Tree → Type 0
  N d = Not limit n d

  pub a_not : (d : ℕ) → (more : List ℕ) × (v : Tree) × Starts not_blank more × N d more v
  a_not zero = (an_atom.0, an_atom.1, an_atom.2, inr (inr an_atom.3))
  a_not (suc d) = (an_atom.0, an_atom.1, an_atom.2, inr (inr an_atom.3))

  pub blank_key : (c : ℕ) → is_key c ≡ true → not_blank c ≡ true
  blank_key c t = both (eqb c 32) (eqb c 9) (other_byte is_key 32 (key_is 32 refl) c t) (other_byte is_key 9 (key_is 9 refl) c t)
    where
      both : (a b : Bool) → not a ≡ true → not b ≡ true → not (a || b) ≡ true
      both true b e f = e
      both false b e f = f

  abbrev pub Bang : ℕ → List ℕ → Tree → Type 0
  Bang d = Then not_blank (Mark (33 ∷ [])) (λ _. Mapped negated (N d))

  abbrev pub Ored : ℕ → List ℕ → Tree → Type 0
  Ored d = Or (N d) n

  abbrev pub Inner : ℕ → List ℕ → Tree → Type 0
  Inner d = Then or_ends (Ored d) (λ t. Mapped (λ _. t) (Mark (41 ∷ [])))

  abbrev pub Group : ℕ → List ℕ → Tree → Type 0
  Group d = Then not_blank (Mark (40 ∷ [])) (λ _. Inner d)

  abbrev pub inner : ℕ → List ℕ → Res Tree
  inner d y = bind (or_of (not_of limit n d) n y) (λ t. mapped (λ _. t) (mark (41 ∷ [])))

  pub and_reads_of : (d : ℕ) → Reads (N d) not_blank (not_of limit n d) → Reads (And (N d) n) and_ends (and_of (not_of limit n d) n)
  and_reads_of d R = map_reads (together each) (Series not_blank (N d) (38 ∷ 38 ∷ []) n) and_ends (series (not_of limit n d) 38 (38 ∷ []) n) (series_reads (N d) not_blank (not_of limit n d) R 38 (38 ∷ []) refl (a_not d) n)

  pub an_and : (d k : ℕ) → (more : List ℕ) × (v : Tree) × Starts not_blank more × And (N d) k more v
  an_and d zero = let w = a_not d in (w.0, w.1, w.2, (w.1 ∷ [], inl (w.1, w.3, refl), refl))
  an_and d (suc k) = let w = a_not d in (w.0, w.1, w.2, (w.1 ∷ [], inl (w.1, w.3, refl), refl))

  pub or_reads_of : (d : ℕ) → Reads (N d) not_blank (not_of limit n d) → Reads (Ored d) or_ends (or_of (not_of limit n d) n)
  or_reads_of d R = map_reads (together some) (Series and_ends (And (N d) n) (124 ∷ 124 ∷ []) n) or_ends (series (and_of (not_of limit n d) n) 124 (124 ∷ []) n)
      (series_reads (And (N d) n) and_ends (and_of (not_of limit n d) n) (and_reads_of d R) 124 (124 ∷ []) refl (an_and d n) n)

  pub an_or : (d k : ℕ) → (more : List ℕ) × (v : Tree) × Starts not_blank more × Or (N d) k more v
  an_or d zero = let w = a_not d in (w.0, w.1, w.2, (w.1 ∷ [], inl (w.1, (w.1 ∷ [], inl (w.1, w.3, refl), refl), refl), refl))
  an_or d (suc k) = let w = a_not d in (w.0, w.1, w.2, (w.1 ∷ [], inl (w.1, (w.1 ∷ [], inl (w.1, w.3, refl), refl), refl), refl))

  pub inner_reads : (d : ℕ) → Reads (N d) not_blank (not_of limit n d) → Reads (Inner d) not_blank (inner d)
  inner_reads d R = seq (Ored d) (λ t. Mapped (λ _. t) (Mark (41 ∷ []))) or_ends not_blank (or_of (not_of limit n d) n) (λ t. mapped (λ _. t) (mark (41 ∷ []))) (or_reads_of d R) closing (λ t. (41 ∷ [], t, refl, (tt, ([], tt, refl), refl)))

  pub an_inner : (d : ℕ) → (more : List ℕ) × (v : Tree) × Starts not_blank more × Inner d more v
  an_inner d = let w = an_or d n in (w.0 ++ 41 ∷ [], w.1, starts_prefix not_blank w.0 (41 ∷ []) w.2, record { prefix = w.0; back = 41 ∷ []; said = w.1; whole = refl; first = w.3; apart = refl; second = (tt, ([], tt, refl), refl) })

  pub not_reads : (d : ℕ) → Reads (N d) not_blank (not_of limit n d)
  not_reads zero = choice (λ c. eqb c 33) Nothing (Either Nothing (Atom limit n)) not_blank (stop deep) (choose (λ c. eqb c 40) (stop deep) (atom limit n)) (stops_all deep not_blank)
      (choice (λ c. eqb c 40) Nothing (Atom limit n) not_blank (stop deep) (atom limit n) (stops_all deep not_blank) atom_reads (λ p v h. absurd h) (atom_starts (λ c. not (eqb c 40)) (other_byte is_key 40 (key_is 40 refl))))
      (λ p v h. absurd h)
      (either_starts Nothing (Atom limit n) (λ c. not (eqb c 33)) (λ p v h. absurd h) (atom_starts (λ c. not (eqb c 33)) (other_byte is_key 33 (key_is 33 refl))))
  not_reads (suc d) = choice (λ c. eqb c 33) (Bang d) (Either (Group d) (Atom limit n)) not_blank (λ x. bind (mark (33 ∷ []) x) (λ _. mapped negated (not_of limit n d))) (choose (λ c. eqb c 40) (λ x. bind (mark (40 ∷ []) x) (λ _. inner d)) (atom limit n))
      (seq (Mark (33 ∷ [])) (λ _. Mapped negated (N d)) not_blank not_blank (mark (33 ∷ [])) (λ _. mapped negated (not_of limit n d)) (mark_reads 33 []) (λ _. map_reads negated (N d) not_blank (not_of limit n d) (not_reads d)) (λ _. let w = a_not d in (w.0, negated w.1, w.2, (w.1, w.3, refl))))
      (choice (λ c. eqb c 40) (Group d) (Atom limit n) not_blank (λ x. bind (mark (40 ∷ []) x) (λ _. inner d)) (atom limit n)
      (seq (Mark (40 ∷ [])) (λ _. Inner d) not_blank not_blank (mark (40 ∷ [])) (λ _. inner d) (mark_reads 40 []) (λ _. inner_reads d (not_reads d)) (λ _. an_inner d))
      atom_reads (mark_test (λ c. eqb c 40) 40 [] (λ _. Inner d) refl) (atom_starts (λ c. not (eqb c 40)) (other_byte is_key 40 (key_is 40 refl))))
      (mark_test (λ c. eqb c 33) 33 [] (λ _. Mapped negated (N d)) refl)
      (either_starts (Group d) (Atom limit n) (λ c. not (eqb c 33)) (mark_test (λ c. not (eqb c 33)) 40 [] (λ _. Inner d) refl) (atom_starts (λ c. not (eqb c 33)) (other_byte is_key 33 (key_is 33 refl))))
