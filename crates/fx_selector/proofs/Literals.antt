-- Keys and strings whose bytes are known.
use Rattle.std.proofs.Common.{◌≡◌, ℕ, ◌<◌, Bool, true, IsTrue, not, ◌&&◌, ◌||◌, leb, eqb, cond, List, [], ◌∷◌, length, refl, sym, ap, subst, ◌∙◌, arith}
use Rattle.std.proofs.lemmas.Bool.Decides.{nat_tests}
use Rattle.std.specs.List.{list_all}
use Rattle.fx_base.specs.Same.{both_pass}
use Rattle.fx_selector.specs.Phrase.{Each, is_key, is_text}
use Rattle.fx_selector.specs.Formed.{is_key_text}
use Rattle.fx_selector.specs.Tree.{IsKey, IsString}
use Rattle.fx_selector.proofs.Language.{other_byte, key_is}
use Rattle.fx_selector.proofs.Spelled.{no_double}

-- `is_key` and `is_text 34` as tests that compute
abbrev pub key_test : ℕ → Bool
key_test c = (leb 97 c && leb c 122) || (leb 65 c && leb c 90) || (leb 45 c && leb c 57) || eqb c 95

abbrev pub string_test : ℕ → Bool
string_test c = leb 32 c && not (eqb c 127) && not (eqb c 34)

each_key : (k : List ℕ) → list_all key_test k ≡ true → Each is_key k
unfolding is_key
each_key [] e = tt
each_key (c ∷ cs) e = let p = both_pass (key_test c) (list_all key_test cs) e in (p.0, each_key cs p.1)

each_text : (v : List ℕ) → list_all string_test v ≡ true → Each (is_text 34) v
unfolding is_text
each_text [] e = tt
each_text (c ∷ cs) e = let p = both_pass (string_test c) (list_all string_test cs) e in (p.0, each_text cs p.1)

-- a string without `"`
pub plain_string : (v : List ℕ) → Each (is_text 34) v → IsString v
plain_string v h = subst (λ b. Each (is_text (cond b 39 34)) v) (sym (no_double v h)) h

pub literal_key : (k : List ℕ) → list_all key_test k ≡ true → 0 < length k → IsKey k
literal_key k e h = (each_key k e, h)

pub literal_string : (v : List ℕ) → list_all string_test v ≡ true → IsString v
literal_string v e = plain_string v (each_text v e)

-- a test of each byte
pub Each-list_all : (p : ℕ → Bool) (xs : List ℕ) → (list_all p xs ≡ true → Each p xs) × (Each p xs → list_all p xs ≡ true)
Each-list_all p [] = (λ e. tt, λ h. refl)
Each-list_all p (x ∷ xs) = (
  λ e. let b = both_pass (p x) (list_all p xs) e in (b.0, (Each-list_all p xs).0 b.1),
  λ h. ap (λ b. b && list_all p xs) h.0 ∙ (Each-list_all p xs).1 h.1,
)

-- what a test of all bytes says of a key, and of a string
pub key_by : (k : List ℕ) (r : Bool) → 0 < length k → r ≡ list_all (λ c. is_key c) k → (IsTrue r → IsKey k) × (IsKey k → IsTrue r)
key_by k r h e = (λ t. ((Each-list_all (λ c. is_key c) k).0 (sym e ∙ t), h), λ g. e ∙ (Each-list_all (λ c. is_key c) k).1 g.0)

-- the test of a key that has bytes
pub key_text_by : (k : List ℕ) → 0 < length k → list_all (λ c. is_key c) k ≡ is_key_text k
key_text_by [] h = absurd (omega (arith, h))
key_text_by (c ∷ cs) h = refl

low_byte : (c : ℕ) → is_key c ≡ true → leb 32 c ≡ true
unfolding is_key
low_byte c t = grind (arith, nat_tests)

three : (x y z : Bool) → x ≡ true → y ≡ true → z ≡ true → ((x && y) && z) ≡ true
three x y z e f g = cc

key_byte : (c : ℕ) → is_key c ≡ true → is_text 34 c ≡ true
unfolding is_text
key_byte c t = three (leb 32 c) (not (eqb c 127)) (not (eqb c 34)) (low_byte c t) (other_byte is_key 127 (key_is 127 refl) c t) (other_byte is_key 34 (key_is 34 refl) c t)

key_bytes : (k : List ℕ) → Each is_key k → Each (is_text 34) k
key_bytes [] h = tt
key_bytes (c ∷ cs) h = (key_byte c h.0, key_bytes cs h.1)
