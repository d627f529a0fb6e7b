-- The canonical text spells its tree.
use Rattle.std.proofs.Common.{◌≡◌, ℕ, zero, suc, ◌+◌, ◌-◌, ◌<◌, ◌≤◌, Bool, true, false, cond, not, nat_eq, inl, inr, List, [], ◌∷◌, ◌++◌, length, map, refl, sym, ap, subst, append_assoc, append-nil, arith}
use Rattle.std.specs.List.{list_any}
use Rattle.fx_selector.specs.Phrase.{Starts, Each, Then, Mapped, is_blank, not_blank, is_key, not_key, is_quote, is_text, any_byte, Led, Series, Keyword}
use Rattle.fx_selector.specs.Language.{all_word, global_word, has_word, in_word, not_word, contains_word, starts_word, ends_word, with_word, String, Set, Test, Atom, And, Or, Not, SelectorText, and_ends}
use Rattle.fx_selector.specs.Tree.{Tree, Trees, all, global, has, equal, unequal, within, outside, contains, starts, ends, negated, each, some, none, more, many, together, quote_of, IsString, AreStrings, IsSet, count, IsTree, AreTrees}
use Rattle.fx_selector.specs.Canonical.{quoted, between, braced, canonical_text, texts}
use Rattle.fx_selector.specs.Places.{Spells}
use Rattle.fx_selector.proofs.Language.{key_is, space_ends, blank_key}
use Rattle.fx_selector.proofs.Sets.{sorted_set}

-- the texts of trees with a mark between each two
abbrev pub joined : List ℕ → Trees → List ℕ
joined mark ts = between mark (texts ts)

abbrev pub listed : List (List ℕ) → List ℕ
listed vs = between (44 ∷ 32 ∷ []) (map quoted vs)

abbrev pub ShortKey : ℕ → List ℕ → Type 0
ShortKey limit k = Each is_key k × (0 < length k) × (length k ≤ limit)

abbrev pub ShortSet : ℕ → List (List ℕ) → Type 0
ShortSet n vs = IsSet vs × (length vs ≤ n + 1)

-- a tree that is spelled within these limits, with so many open
abbrev mutual
  pub Good : ℕ → ℕ → Tree → ℕ → Type 0
  Good limit n all d = Unit {0}
  Good limit n global d = Unit {0}
  Good limit n (has k) d = ShortKey limit k
  Good limit n (equal k v) d = ShortKey limit k × IsString v
  Good limit n (unequal k v) d = ShortKey limit k × IsString v
  Good limit n (within k vs) d = ShortKey limit k × ShortSet n vs
  Good limit n (outside k vs) d = ShortKey limit k × ShortSet n vs
  Good limit n (contains k v) d = ShortKey limit k × IsString v
  Good limit n (starts k v) d = ShortKey limit k × IsString v
  Good limit n (ends k v) d = ShortKey limit k × IsString v
  Good limit n (negated t) d = (e : ℕ) × (d ≡ suc e) × Good limit n t e
  Good limit n (each ts) d = (e : ℕ) × (d ≡ suc e) × Goods limit n ts e × (count ts ≤ n + 1) × (2 ≤ count ts)
  Good limit n (some ts) d = (e : ℕ) × (d ≡ suc e) × Goods limit n ts e × (count ts ≤ n + 1) × (2 ≤ count ts)

  pub Goods : ℕ → ℕ → Trees → ℕ → Type 0
  Goods limit n none d = Unit {0}
  Goods limit n (more t ts) d = Good limit n t d × Goods limit n ts d

-- no fewer than its longest key, its most operands or values and its nesting
abbrev mutual
  pub size : Tree → ℕ
  size all = 0
  size global = 0
  size (has k) = length k
  size (equal k v) = length k
  size (unequal k v) = length k
  size (within k vs) = length k + length vs
  size (outside k vs) = length k + length vs
  size (contains k v) = length k
  size (starts k v) = length k
  size (ends k v) = length k
  size (negated t) = size t + 1
  size (each ts) = sizes ts + 1
  size (some ts) = sizes ts + 1

  pub sizes : Trees → ℕ
  sizes none = 0
  sizes (more t ts) = size t + sizes ts + 1

pub all_is_word : Each is_key all_word
unfolding is_key
all_is_word = (refl, (refl, (refl, tt)))

pub global_is_word : Each is_key global_word
unfolding is_key
global_is_word = (refl, (refl, (refl, (refl, (refl, (refl, tt))))))

pub has_is_word : Each is_key has_word
unfolding is_key
has_is_word = (refl, (refl, (refl, tt)))

pub quote_is_quote : (b : Bool) → is_quote (cond b 39 34) ≡ true
unfolding is_quote
quote_is_quote true = refl
quote_is_quote false = refl

pub string_of_quoted : (v blank : List ℕ) → Each (is_text (quote_of v)) v → Each is_blank blank → String (quoted v ++ blank) v
string_of_quoted v blank h b = record {
  prefix = quote_of v ∷ [];
  back = (v ++ quote_of v ∷ []) ++ blank;
  said = quote_of v;
  whole = refl;
  first = (refl, quote_is_quote (list_any (λ c. nat_eq c 34) v));
  apart = any_starts v;
  second = (blank, h, b, append_assoc v (quote_of v ∷ []) blank);
}
  where
    any_starts : (w : List ℕ) → Starts any_byte ((w ++ quote_of v ∷ []) ++ blank)
    any_starts [] = refl
    any_starts (c ∷ cs) = refl

pub quote_prefix : (v : List ℕ) → not_blank (quote_of v) ≡ true
quote_prefix v = by (list_any (λ c. nat_eq c 34) v)
  where
    by : (q : Bool) → not_blank (cond q 39 34) ≡ true
    by true = refl
    by false = refl

pub single : {A : Type 0} (stops : ℕ → Bool) (G : List ℕ → A → Type 0) (sep : List ℕ) (k : ℕ) (p : List ℕ) (v : A) → G p v → Series stops G sep k p (v ∷ [])
single stops G sep zero p v g = inl (v, g, refl)
single stops G sep (suc k) p v g = inl (v, g, refl)

-- a word of the language, a space and what follows
pub spaced : {A : Type 0} (word rest : List ℕ) (H : List ℕ → A → Type 0) (v : A) → Starts not_blank rest → H rest v → Then not_key (Keyword word) (λ _. Led H) (word ++ (32 ∷ rest)) v
spaced word rest H v s h = record { prefix = word; back = 32 ∷ rest; said = tt; whole = refl; first = refl; apart = space_ends; second = (32 ∷ [], rest, (refl, tt), refl, s, h) }

pub listed_starts : (v : List ℕ) (vs : List (List ℕ)) (tail : List ℕ) → Starts not_blank (listed (v ∷ vs) ++ tail)
listed_starts v [] tail = quote_prefix v
listed_starts v (w ∷ ws) tail = quote_prefix v

-- the strings of a set, with commas
pub listed_series : (v : List ℕ) (vs : List (List ℕ)) (k : ℕ) → AreStrings (v ∷ vs) → length vs ≤ k → Series not_blank String (44 ∷ []) k (listed (v ∷ vs)) (v ∷ vs)
listed_series v [] k s l = single not_blank String (44 ∷ []) k (quoted v) v (subst (λ x. String x v) (append-nil (quoted v)) (string_of_quoted v [] s.0 tt))
listed_series v (w ∷ ws) zero s l = absurd (omega arith)
listed_series v (w ∷ ws) (suc k) s l = inr (record {
  prefix = quoted v;
  back = 44 ∷ 32 ∷ listed (w ∷ ws);
  said = v;
  whole = refl;
  first = subst (λ x. String x v) (append-nil (quoted v)) (string_of_quoted v [] s.0 tt);
  apart = refl;
  second = (
    w ∷ ws,
    record {
      prefix = 44 ∷ 32 ∷ [];
      back = listed (w ∷ ws);
      said = tt;
      whole = refl;
      first = (32 ∷ [], (refl, tt), refl);
      apart = subst (Starts not_blank) (append-nil (listed (w ∷ ws))) (listed_starts w ws []);
      second = listed_series w ws k s.1 (omega arith);
    },
    refl,
  );
})

pub set_of_braced : (n : ℕ) (vs : List (List ℕ)) (blank : List ℕ) → ShortSet n vs → Each is_blank blank → Set n (braced vs ++ blank) vs
set_of_braced n [] blank s b = record { prefix = 123 ∷ []; back = 125 ∷ blank; said = tt; whole = refl; first = ([], tt, refl); apart = refl; second = inl (tt, (blank, b, refl), refl) }
set_of_braced n (v ∷ vs) blank s b = record {
  prefix = 123 ∷ [];
  back = (listed (v ∷ vs) ++ 125 ∷ []) ++ blank;
  said = tt;
  whole = refl;
  first = ([], tt, refl);
  apart = subst (Starts not_blank) (sym (append_assoc (listed (v ∷ vs)) (125 ∷ []) blank)) (listed_starts v vs (125 ∷ blank));
  second = inr (record {
    prefix = listed (v ∷ vs);
    back = 125 ∷ blank;
    said = v ∷ vs;
    whole = append_assoc (listed (v ∷ vs)) (125 ∷ []) blank;
    first = listed_series v vs n s.0.0 (let l : length (v ∷ vs) ≤ n + 1 = s.1 in omega arith);
    apart = refl;
    second = (tt, (blank, b, refl), sym (sorted_set (v ∷ vs) s.0.1));
  });
}

module _ (limit n : ℕ) (wide : 6 < limit) where
  pub atom_is_not : (d : ℕ) (text : List ℕ) (t : Tree) → Atom limit n text t → Not limit n d text t
  atom_is_not zero text t a = inr (inr a)
  atom_is_not (suc d) text t a = inr (inr a)

  pub bracket_ends : not_key 40 ≡ true
  bracket_ends = ap not (key_is 40 refl)

  pub close_ends : not_key 41 ≡ true
  close_ends = ap not (key_is 41 refl)

  pub key_prefix : (k rest blank : List ℕ) → ShortKey limit k → Starts not_blank ((k ++ rest) ++ blank)
  key_prefix [] rest blank h = absurd (omega arith)
  key_prefix (c ∷ cs) rest blank h = blank_key limit (omega arith) n c h.0.0

  pub all_atom : (blank : List ℕ) → Each is_blank blank → Atom limit n (canonical_text all ++ blank) all
  all_atom blank b = record {
    prefix = all_word;
    back = 40 ∷ 41 ∷ blank;
    said = all_word;
    whole = refl;
    first = (all_is_word, omega arith, omega arith, refl);
    apart = bracket_ends;
    second = ([], 40 ∷ 41 ∷ blank, tt, refl, refl, inl (record { prefix = 40 ∷ []; back = 41 ∷ blank; said = tt; whole = refl; first = ([], tt, refl); apart = refl; second = (tt, (blank, b, refl), refl) }));
  }

  pub global_atom : (blank : List ℕ) → Each is_blank blank → Atom limit n (canonical_text global ++ blank) global
  global_atom blank b = record {
    prefix = global_word;
    back = 40 ∷ 41 ∷ blank;
    said = global_word;
    whole = refl;
    first = (global_is_word, omega arith, omega arith, refl);
    apart = bracket_ends;
    second = ([], 40 ∷ 41 ∷ blank, tt, refl, refl, inl (record { prefix = 40 ∷ []; back = 41 ∷ blank; said = tt; whole = refl; first = ([], tt, refl); apart = refl; second = (tt, (blank, b, refl), refl) }));
  }

  pub has_atom : (k blank : List ℕ) → ShortKey limit k → Each is_blank blank → Atom limit n (canonical_text (has k) ++ blank) (has k)
  has_atom k blank h b = record {
    prefix = has_word;
    back = 40 ∷ ((k ++ 41 ∷ []) ++ blank);
    said = has_word;
    whole = refl;
    first = (has_is_word, omega arith, omega arith, refl);
    apart = bracket_ends;
    second = (
      [],
      40 ∷ ((k ++ 41 ∷ []) ++ blank),
      tt,
      refl,
      refl,
      inl (record {
        prefix = 40 ∷ [];
        back = (k ++ 41 ∷ []) ++ blank;
        said = tt;
        whole = refl;
        first = ([], tt, refl);
        apart = key_prefix k (41 ∷ []) blank h;
        second = record {
          prefix = k;
          back = 41 ∷ blank;
          said = k;
          whole = append_assoc k (41 ∷ []) blank;
          first = (h.0, h.1, h.2, refl);
          apart = close_ends;
          second = ([], 41 ∷ blank, tt, refl, refl, (tt, (blank, b, refl), refl));
        };
      }),
    );
  }

  -- a key, a space and a test
  pub key_atom : (k test blank : List ℕ) (t : Tree) → ShortKey limit k → Starts not_blank (test ++ blank) → Test n k (test ++ blank) t → Atom limit n ((k ++ (32 ∷ test)) ++ blank) t
  key_atom k test blank t h s w = record {
    prefix = k;
    back = 32 ∷ (test ++ blank);
    said = k;
    whole = append_assoc k (32 ∷ test) blank;
    first = (h.0, h.1, h.2, refl);
    apart = space_ends;
    second = (32 ∷ [], test ++ blank, (refl, tt), refl, s, inr w);
  }

  pub equal_atom : (k v blank : List ℕ) → ShortKey limit k → IsString v → Each is_blank blank → Atom limit n (canonical_text (equal k v) ++ blank) (equal k v)
  equal_atom k v blank h s b = key_atom k (61 ∷ 61 ∷ 32 ∷ quoted v) blank (equal k v) h refl (inl (record {
    prefix = 61 ∷ 61 ∷ 32 ∷ [];
    back = quoted v ++ blank;
    said = tt;
    whole = refl;
    first = (32 ∷ [], (refl, tt), refl);
    apart = quote_prefix v;
    second = (v, string_of_quoted v blank s b, refl);
  }))

  pub unequal_atom : (k v blank : List ℕ) → ShortKey limit k → IsString v → Each is_blank blank → Atom limit n (canonical_text (unequal k v) ++ blank) (unequal k v)
  unequal_atom k v blank h s b = key_atom k (33 ∷ 61 ∷ 32 ∷ quoted v) blank (unequal k v) h refl (inr (inl (record {
    prefix = 33 ∷ 61 ∷ 32 ∷ [];
    back = quoted v ++ blank;
    said = tt;
    whole = refl;
    first = (32 ∷ [], (refl, tt), refl);
    apart = quote_prefix v;
    second = (v, string_of_quoted v blank s b, refl);
  })))

  pub within_atom : (k : List ℕ) (vs : List (List ℕ)) (blank : List ℕ) → ShortKey limit k → ShortSet n vs → Each is_blank blank → Atom limit n (canonical_text (within k vs) ++ blank) (within k vs)
  within_atom k vs blank h s b = key_atom k (in_word ++ (32 ∷ braced vs)) blank (within k vs) h refl
      (inr (inr (inl (spaced in_word (braced vs ++ blank) (Mapped (within k) (Set n)) (within k vs) refl (vs, set_of_braced n vs blank s b, refl)))))

  pub outside_atom : (k : List ℕ) (vs : List (List ℕ)) (blank : List ℕ) → ShortKey limit k → ShortSet n vs → Each is_blank blank → Atom limit n (canonical_text (outside k vs) ++ blank) (outside k vs)
  outside_atom k vs blank h s b = key_atom k (not_word ++ (32 ∷ (in_word ++ (32 ∷ braced vs)))) blank (outside k vs) h refl
      (inr (inr (inr (inl (spaced not_word (in_word ++ (32 ∷ (braced vs ++ blank))) (Then not_key (Keyword in_word) (λ _. Led (Mapped (outside k) (Set n)))) (outside k vs) refl
      (spaced in_word (braced vs ++ blank) (Mapped (outside k) (Set n)) (outside k vs) refl (vs, set_of_braced n vs blank s b, refl)))))))

  pub contains_atom : (k v blank : List ℕ) → ShortKey limit k → IsString v → Each is_blank blank → Atom limit n (canonical_text (contains k v) ++ blank) (contains k v)
  contains_atom k v blank h s b = key_atom k (contains_word ++ (32 ∷ quoted v)) blank (contains k v) h refl
      (inr (inr (inr (inr (inl (spaced contains_word (quoted v ++ blank) (Mapped (contains k) String) (contains k v) (quote_prefix v) (v, string_of_quoted v blank s b, refl)))))))

  pub starts_atom : (k v blank : List ℕ) → ShortKey limit k → IsString v → Each is_blank blank → Atom limit n (canonical_text (starts k v) ++ blank) (starts k v)
  starts_atom k v blank h s b = key_atom k (starts_word ++ (32 ∷ (with_word ++ (32 ∷ quoted v)))) blank (starts k v) h refl
      (inr (inr (inr (inr (inr (inl (spaced starts_word (with_word ++ (32 ∷ (quoted v ++ blank))) (Then not_key (Keyword with_word) (λ _. Led (Mapped (starts k) String))) (starts k v) refl
      (spaced with_word (quoted v ++ blank) (Mapped (starts k) String) (starts k v) (quote_prefix v) (v, string_of_quoted v blank s b, refl)))))))))

  pub ends_atom : (k v blank : List ℕ) → ShortKey limit k → IsString v → Each is_blank blank → Atom limit n (canonical_text (ends k v) ++ blank) (ends k v)
  ends_atom k v blank h s b = key_atom k (ends_word ++ (32 ∷ (with_word ++ (32 ∷ quoted v)))) blank (ends k v) h refl
      (inr (inr (inr (inr (inr (inr (spaced ends_word (with_word ++ (32 ∷ (quoted v ++ blank))) (Then not_key (Keyword with_word) (λ _. Led (Mapped (ends k) String))) (ends k v) refl
      (spaced with_word (quoted v ++ blank) (Mapped (ends k) String) (ends k v) (quote_prefix v) (v, string_of_quoted v blank s b, refl)))))))))

  -- a series of one phrase for each tree
  pub starts_good : (t : Tree) (d : ℕ) → Good limit n t d → (blank : List ℕ) → Starts not_blank (canonical_text t ++ blank)
  starts_good all d g blank = refl
  starts_good global d g blank = refl
  starts_good (has k) d g blank = refl
  starts_good (equal k v) d g blank = key_prefix k _ blank g.0
  starts_good (unequal k v) d g blank = key_prefix k _ blank g.0
  starts_good (within k vs) d g blank = key_prefix k _ blank g.0
  starts_good (outside k vs) d g blank = key_prefix k _ blank g.0
  starts_good (contains k v) d g blank = key_prefix k _ blank g.0
  starts_good (starts k v) d g blank = key_prefix k _ blank g.0
  starts_good (ends k v) d g blank = key_prefix k _ blank g.0
  starts_good (negated t) d g blank = refl
  starts_good (each ts) d g blank = refl
  starts_good (some ts) d g blank = refl

  abbrev pub list_of : Trees → List Tree
  list_of none = []
  list_of (more t ts) = t ∷ list_of ts

  pub many_list : (ts : Trees) → many (list_of ts) ≡ ts
  many_list none = refl
  many_list (more t ts) = ap (more t) (many_list ts)

  pub together_two : (f : Trees → Tree) (ts : Trees) → 2 ≤ count ts → f ts ≡ together f (list_of ts)
  together_two f none h = absurd (omega arith)
  together_two f (more t none) h = absurd (omega arith)
  together_two f (more t (more u us)) h = ap (λ x. f (more t (more u x))) (sym (many_list us))

  pub starts_goods : (sep : List ℕ) (ts : Trees) (d : ℕ) → Goods limit n ts d → 0 < count ts → (tail : List ℕ) → Starts not_blank (joined sep ts ++ tail)
  starts_goods sep none d g h tail = absurd (omega arith)
  starts_goods sep (more t none) d g h tail = starts_good t d g.0 tail
  starts_goods sep (more t (more u us)) d g h tail = subst (Starts not_blank) (sym (append_assoc (canonical_text t) (sep ++ joined sep (more u us)) tail)) (starts_good t d g.0 _)

  abbrev pub Spelled : (List ℕ → Tree → Type 0) → Trees → Type 0
  Spelled G none = Unit {0}
  Spelled G (more t ts) = ((blank : List ℕ) → Each is_blank blank → G (canonical_text t ++ blank) t) × Spelled G ts

  pub spelled_series : (b : ℕ) (stops : ℕ → Bool) → not_blank b ≡ true → stops b ≡ true → (G : List ℕ → Tree → Type 0) (ts : Trees) (d : ℕ) → Spelled G ts → Goods limit n ts d → (k : ℕ) → count ts ≤ k + 1 → 0 < count ts → Series stops G (b ∷ b ∷ []) k (joined (32 ∷ b ∷ b ∷ 32 ∷ []) ts) (list_of ts)
  spelled_series b stops nb sb G none d s g k l h = absurd (omega arith)
  spelled_series b stops nb sb G (more t none) d s g k l h = single stops G (b ∷ b ∷ []) k (canonical_text t) t (subst (λ x. G x t) (append-nil (canonical_text t)) (s.0 [] tt))
  spelled_series b stops nb sb G (more t (more u us)) d s g zero l h = absurd (omega arith)
  spelled_series b stops nb sb G (more t (more u us)) d s g (suc k) l h = inr (record {
    prefix = canonical_text t ++ 32 ∷ [];
    back = b ∷ b ∷ 32 ∷ joined (32 ∷ b ∷ b ∷ 32 ∷ []) (more u us);
    said = t;
    whole = sym (append_assoc (canonical_text t) (32 ∷ []) (b ∷ b ∷ 32 ∷ joined (32 ∷ b ∷ b ∷ 32 ∷ []) (more u us)));
    first = s.0 (32 ∷ []) (refl, tt);
    apart = sb;
    second = (
      list_of (more u us),
      record {
        prefix = b ∷ b ∷ 32 ∷ [];
        back = joined (32 ∷ b ∷ b ∷ 32 ∷ []) (more u us);
        said = tt;
        whole = refl;
        first = (32 ∷ [], (refl, tt), refl);
        apart = subst (Starts not_blank) (append-nil (joined (32 ∷ b ∷ b ∷ 32 ∷ []) (more u us))) (starts_goods (32 ∷ b ∷ b ∷ 32 ∷ []) (more u us) d g.1 (omega arith) []);
        second = spelled_series b stops nb sb G (more u us) d s.1 g.1 k (omega arith) (omega arith);
      },
      refl,
    );
  })

  -- a group around what is spelled
  pub grouped : (d : ℕ) (inside blank : List ℕ) (t : Tree) → Or (Not limit n d) n inside t → Starts not_blank ((inside ++ 41 ∷ []) ++ blank) → Each is_blank blank → Not limit n (suc d) (40 ∷ (inside ++ 41 ∷ []) ++ blank) t
  grouped d inside blank t o s b = inr (inl (record {
    prefix = 40 ∷ [];
    back = (inside ++ 41 ∷ []) ++ blank;
    said = tt;
    whole = refl;
    first = ([], tt, refl);
    apart = s;
    second = record { prefix = inside; back = 41 ∷ blank; said = t; whole = append_assoc inside (41 ∷ []) blank; first = o; apart = refl; second = (tt, (blank, b, refl), refl) };
  }))

  pub one_and : (d : ℕ) (text : List ℕ) (t : Tree) → Not limit n d text t → And (Not limit n d) n text t
  one_and d text t h = (t ∷ [], single not_blank (Not limit n d) (38 ∷ 38 ∷ []) n text t h, refl)

  pub ands : (d : ℕ) (ts : Trees) → Spelled (Not limit n d) ts → Spelled (And (Not limit n d) n) ts
  ands d none s = tt
  ands d (more t ts) s = ((λ blank b. one_and d (canonical_text t ++ blank) t (s.0 blank b)), ands d ts s.1)

  pub starts_inside : (sep : List ℕ) (ts : Trees) (d : ℕ) → Goods limit n ts d → 0 < count ts → (blank : List ℕ) → Starts not_blank ((joined sep ts ++ 41 ∷ []) ++ blank)
  starts_inside sep ts d g h blank = subst (Starts not_blank) (sym (append_assoc (joined sep ts) (41 ∷ []) blank)) (starts_goods sep ts d g h (41 ∷ blank))

  pub each_not : (d : ℕ) (ts : Trees) → Spelled (Not limit n d) ts → Goods limit n ts d → count ts ≤ n + 1 → 2 ≤ count ts → (blank : List ℕ) → Each is_blank blank → Not limit n (suc d) (canonical_text (each ts) ++ blank) (each ts)
  each_not d ts s g l h blank b = grouped d (joined (32 ∷ 38 ∷ 38 ∷ 32 ∷ []) ts) blank (each ts) (
    each ts ∷ [],
    single and_ends (And (Not limit n d) n) (124 ∷ 124 ∷ []) n (joined (32 ∷ 38 ∷ 38 ∷ 32 ∷ []) ts) (each ts)
        (list_of ts, spelled_series 38 not_blank refl refl (Not limit n d) ts d s g n l (omega arith), together_two each ts h),
    refl,
  )
      (starts_inside (32 ∷ 38 ∷ 38 ∷ 32 ∷ []) ts d g (omega arith) blank) b

  pub some_not : (d : ℕ) (ts : Trees) → Spelled (Not limit n d) ts → Goods limit n ts d → count ts ≤ n + 1 → 2 ≤ count ts → (blank : List ℕ) → Each is_blank blank → Not limit n (suc d) (canonical_text (some ts) ++ blank) (some ts)
  some_not d ts s g l h blank b = grouped d (joined (32 ∷ 124 ∷ 124 ∷ 32 ∷ []) ts) blank (some ts)
      (list_of ts, spelled_series 124 and_ends refl refl (And (Not limit n d) n) ts d (ands d ts s) g n l (omega arith), together_two some ts h)
      (starts_inside (32 ∷ 124 ∷ 124 ∷ 32 ∷ []) ts d g (omega arith) blank) b

  pub bang_not : (d : ℕ) (t : Tree) → ((blank : List ℕ) → Each is_blank blank → Not limit n d (canonical_text t ++ blank) t) → Good limit n t d → (blank : List ℕ) → Each is_blank blank → Not limit n (suc d) (canonical_text (negated t) ++ blank) (negated t)
  bang_not d t s g blank b = inl (record { prefix = 33 ∷ []; back = canonical_text t ++ blank; said = tt; whole = refl; first = ([], tt, refl); apart = starts_good t d g blank; second = (t, s blank b, refl) })

  abbrev pub Says : ℕ → Tree → Type 0
  Says d t = (blank : List ℕ) → Each is_blank blank → Not limit n d (canonical_text t ++ blank) t

  mutual
    pub canonical_not : (t : Tree) (d : ℕ) → Good limit n t d → Says d t
    canonical_not all d g = λ blank b. atom_is_not d (canonical_text all ++ blank) all (all_atom blank b)
    canonical_not global d g = λ blank b. atom_is_not d (canonical_text global ++ blank) global (global_atom blank b)
    canonical_not (has k) d g = λ blank b. atom_is_not d (canonical_text (has k) ++ blank) (has k) (has_atom k blank g b)
    canonical_not (equal k v) d g = λ blank b. atom_is_not d (canonical_text (equal k v) ++ blank) (equal k v) (equal_atom k v blank g.0 g.1 b)
    canonical_not (unequal k v) d g = λ blank b. atom_is_not d (canonical_text (unequal k v) ++ blank) (unequal k v) (unequal_atom k v blank g.0 g.1 b)
    canonical_not (within k vs) d g = λ blank b. atom_is_not d (canonical_text (within k vs) ++ blank) (within k vs) (within_atom k vs blank g.0 g.1 b)
    canonical_not (outside k vs) d g = λ blank b. atom_is_not d (canonical_text (outside k vs) ++ blank) (outside k vs) (outside_atom k vs blank g.0 g.1 b)
    canonical_not (contains k v) d g = λ blank b. atom_is_not d (canonical_text (contains k v) ++ blank) (contains k v) (contains_atom k v blank g.0 g.1 b)
    canonical_not (starts k v) d g = λ blank b. atom_is_not d (canonical_text (starts k v) ++ blank) (starts k v) (starts_atom k v blank g.0 g.1 b)
    canonical_not (ends k v) d g = λ blank b. atom_is_not d (canonical_text (ends k v) ++ blank) (ends k v) (ends_atom k v blank g.0 g.1 b)
    canonical_not (negated t) d g = subst (λ x. Says x (negated t)) (sym g.1) (bang_not g.0 t (canonical_not t g.0 g.2) g.2)
    canonical_not (each ts) d g = subst (λ x. Says x (each ts)) (sym g.1) (each_not g.0 ts (canonical_nots ts g.0 g.2) g.2 g.3 g.4)
    canonical_not (some ts) d g = subst (λ x. Says x (some ts)) (sym g.1) (some_not g.0 ts (canonical_nots ts g.0 g.2) g.2 g.3 g.4)

    pub canonical_nots : (ts : Trees) (d : ℕ) → Goods limit n ts d → Spelled (Not limit n d) ts
    canonical_nots none d g = tt
    canonical_nots (more t ts) d g = (canonical_not t d g.0, canonical_nots ts d g.1)

pub text_of_not : (limit n d : ℕ) (text : List ℕ) (t : Tree) → Not limit n d text t → Starts not_blank text → SelectorText limit n d text t
text_of_not limit n d text t h s = inr ([], text, tt, refl, s, (t ∷ [], single and_ends (And (Not limit n d) n) (124 ∷ 124 ∷ []) n text t (t ∷ [], single not_blank (Not limit n d) (38 ∷ 38 ∷ []) n text t h, refl), refl))

pub count_sizes : (ts : Trees) → count ts ≤ sizes ts
count_sizes none = omega arith
count_sizes (more t ts) = omega (arith, count_sizes ts)

module _ (limit : ℕ) where
  mutual
    pub good : (t : Tree) (d : ℕ) → IsTree t → size t ≤ d → size t ≤ limit → Good limit limit t d
    good all d h l w = tt
    good global d h l w = tt
    good (has k) d h l w = (h.0, h.1, w)
    good (equal k v) d h l w = ((h.0.0, h.0.1, w), h.1)
    good (unequal k v) d h l w = ((h.0.0, h.0.1, w), h.1)
    good (within k vs) d h l w = ((h.0.0, h.0.1, omega arith), (h.1, omega arith))
    good (outside k vs) d h l w = ((h.0.0, h.0.1, omega arith), (h.1, omega arith))
    good (contains k v) d h l w = ((h.0.0, h.0.1, w), h.1)
    good (starts k v) d h l w = ((h.0.0, h.0.1, w), h.1)
    good (ends k v) d h l w = ((h.0.0, h.0.1, w), h.1)
    good (negated t) d h l w = (d - 1, omega arith, good t (d - 1) h (omega arith) (omega arith))
    good (each ts) d h l w = (d - 1, omega arith, goods ts (d - 1) h.0 (omega arith) (omega arith), omega (arith, count_sizes ts), h.1)
    good (some ts) d h l w = (d - 1, omega arith, goods ts (d - 1) h.0 (omega arith) (omega arith), omega (arith, count_sizes ts), h.1)

    pub goods : (ts : Trees) (d : ℕ) → AreTrees ts → sizes ts ≤ d → sizes ts ≤ limit → Goods limit limit ts d
    goods none d h l w = tt
    goods (more t ts) d h l w = (good t d h.0 (omega arith) (omega arith), goods ts d h.1 (omega arith) (omega arith))

pub canonical_spells : (t : Tree) → IsTree t → Spells (canonical_text t) t
canonical_spells t h =
    let k : ℕ = size t + 7 in
    let g : Good k k t k = good k t k h (omega arith) (omega arith) in
    let w : Not k k k (canonical_text t ++ []) t = canonical_not k k (omega arith) t k g [] tt in
    (k, k, k, omega arith, subst (λ x. SelectorText k k k x t) (append-nil (canonical_text t)) (text_of_not k k k (canonical_text t ++ []) t w (starts_good k k (omega arith) t k g [])))
