-- The computed readings of texts are those of the forms.
use Rattle.std.proofs.Common.{◌≡◌, ◌<◌, ◌≤◌, ◌+◌, ◌*◌, ◌^◌, ℕ, zero, suc, Bool, true, false, ◌&&◌, List, [], ◌∷◌, ◌++◌, length, take, drop, Option, Some, None, refl, sym, ap, subst, ◌∙◌, arith, inl, inr, nat_eq, take-append-drop, eq-eqb, cond, lit<}
use Rattle.std.specs.Prelude.{nat_le, ◌==◌, option_and_then, if◌then◌else◌}
use Rattle.std.specs.Fmt.{decimal}
use Rattle.std.specs.List.{prefix_len}
use Rattle.std.specs.Int.{IsInRange}
use Rattle.std.specs.Str.{str_to_ascii_lowercase}
use Rattle.std.specs.Str.Parse.{AllDigits, digits_value}
use Rattle.std.specs.Cmp.{unsigned_Decides}
use Rattle.std.specs.Cmp.Lexicographic.{pointwise}
use Rattle.std.proofs.lemmas.Bool.Decides.{leb_tells}
use Rattle.std.proofs.lemmas.Fmt.{decimal_is_IsNumeral}
use Rattle.std.proofs.lemmas.List.{take_at, drop_at}
use Rattle.std.proofs.lemmas.Slice.Eq.{slice_eq-Decides}
use Rattle.std.proofs.lemmas.Str.Parse.{digit_from_value}
use Rattle.fx_base.specs.Same.{both_pass, same_bytes, same_numbers}
use Rattle.fx_base.specs.Forms.{Means, Leaves, IsNumber, IsOptional, NumberThen}
use Rattle.fx_base.specs.Addresses.{Behind, Dotted, IsAddress, IsNet, net_address}
use Rattle.fx_base.specs.PortTexts.{UpperEnd, IsPortRange}
use Rattle.fx_base.specs.Protocols.{IsNamedIn, IsProtocol, protocols}
use Rattle.fx_base.specs.TextValues.{is_digit, number_of, optional_of, number_then_of, ports_of, behind_of, dot_of, dotted_of, address_of, net_of, named_of, protocol_of}
use Rattle.fx_base.proofs.FormLemmas.{CanFollow, IsStop}
use Rattle.fx_base.proofs.PortLemmas.{upper_can}
use Rattle.fx_base.proofs.AddressLemmas.{AfterLast, AfterDot, last_can, dot_can, address_alike, cidr_alike}
use Rattle.fx_base.proofs.ProtocolLemmas.{is_new, no_other}

pub record Computes {A : Type 0} (Form : List ℕ → A → Type 0) (f : List ℕ → Option A) : Type 0 where
  pub to : (text : List ℕ) (value : A) → Form text value → f text ≡ Some value
  pub from : (text : List ℕ) (value : A) → f text ≡ Some value → Form text value

-- ---- choices and chains
picked : {A : Type 0} (b : Bool) (x y : A) → b ≡ true → (if b then x else y) ≡ x
picked b x y e = ap (λ (t : Bool). if t then x else y) e

chosen : {A : Type 0} (b : Bool) (x : Option A) (v : A) → (if b then x else None) ≡ Some v → (b ≡ true) × (x ≡ Some v)
chosen true x v e = (refl, e)
chosen false x v e = cc

chained : {A B : Type 0} (f : A → Option B) (o : Option A) (v : B) → option_and_then f o ≡ Some v → (a : A) × (o ≡ Some a) × (f a ≡ Some v)
chained f None v e = cc
chained f (Some a) v e = (a, refl, e)

is_least : (a b : ℕ) → a ≤ b → nat_le a b ≡ true
is_least a b h = elim (leb_tells a b) [ inl known ↦ known.0 | inr less ↦ absurd (omega (arith, less.1)) ]

at_least : (a b : ℕ) → nat_le a b ≡ true → a ≤ b
at_least a b e = elim (leb_tells a b) [ inl known ↦ known.1 | inr less ↦ cc (less.0) ]

all_three : (a b c : Bool) → a ≡ true → b ≡ true → c ≡ true → (a && (b && c)) ≡ true
all_three a b c p q r = (λ i. p i && (q i && r i))

equal_texts : (a b : List ℕ) → a ≡ b → pointwise nat_eq a b ≡ true
equal_texts a b e = (slice_eq-Decides unsigned_Decides a b _ refl).1 e

pub number_computes : (low high : ℕ) → high < 2 ^ 16 → Computes (IsNumber low high) (number_of low high)
number_computes low high small = record {
  to = λ text v h.
      let fits : v < 2 ^ 64 = omega (arith, h.most) in
      let e : digits_value 10 text ≡ v = ap (digits_value 10) h.digits ∙ (decimal_is_IsNumeral v fits).1 in
      picked _ (Some (digits_value 10 text)) None (all_three _ _ _ (equal_texts text _ (h.digits ∙ ap decimal (sym e))) (is_least low _ (omega (arith, e, h.least))) (is_least _ high (omega (arith, e, h.most)))) ∙ ap Some e;
  from = λ text v e.
      let c : ((pointwise nat_eq text (decimal (digits_value 10 text)) && (nat_le low (digits_value 10 text) && nat_le (digits_value 10 text) high)) ≡ true) × (Some (digits_value 10 text) ≡ Some v) = chosen _ (Some (digits_value 10 text)) v e in
      let same : digits_value 10 text ≡ v = cc (c.1) in
      let p : (pointwise nat_eq text (decimal (digits_value 10 text)) ≡ true) × ((nat_le low (digits_value 10 text) && nat_le (digits_value 10 text) high) ≡ true) = both_pass _ _ c.0 in
      let q : (nat_le low (digits_value 10 text) ≡ true) × (nat_le (digits_value 10 text) high ≡ true) = both_pass _ _ p.1 in
      record { digits = same_bytes text _ p.0 ∙ ap decimal same; least = omega (arith, same, at_least low (digits_value 10 text) q.0); most = omega (arith, same, at_least (digits_value 10 text) high q.1) };
}

module _ (absent mark low high : ℕ) (small : high < 2 ^ 16) where
  optional_to : (text : List ℕ) (v : ℕ) → IsOptional absent mark low high text v → optional_of absent mark low high text ≡ Some v
  optional_to [] v h = elim h [ inl none ↦ ap Some (sym none.1) | inr some ↦ cc (some.1) ]
  optional_to (c ∷ rest) v h = elim h [
    | inl none ↦ cc (none.0)
    | inr some ↦
        let e : c ≡ mark = cc (some.1) in
        let r : some.0 ≡ rest = cc (some.1) in
        picked (c == mark) (number_of low high rest) None (eq-eqb c mark e) ∙ (number_computes low high small).to rest v (subst (λ (l : List ℕ). IsNumber low high l v) r some.2)
  ]

  optional_from : (text : List ℕ) (v : ℕ) → optional_of absent mark low high text ≡ Some v → IsOptional absent mark low high text v
  optional_from [] v e = inl (refl, cc (e))
  optional_from (c ∷ rest) v e =
      let p = chosen (c == mark) (number_of low high rest) v e in
      inr (rest, ap (λ (n : ℕ). n ∷ rest) (same_numbers c mark p.0), (number_computes low high small).from rest v p.1)

  pub optional_computes : Computes (IsOptional absent mark low high) (optional_of absent mark low high)
  optional_computes = record { to = optional_to; from = optional_from }

-- ---- the digits at the beginning
is_no_digit : (c : ℕ) → ¬ IsInRange 48 57 c → is_digit c ≡ false
is_no_digit c other = elim (leb_tells 48 c) [
  | inl low ↦ elim (leb_tells c 57) [ inl high ↦ absurd (other (low.1, high.1)) | inr past ↦ λ i. low.0 i && past.0 i ]
  | inr below ↦ ap (λ (b : Bool). b && nat_le c 57) below.0
]

is_a_digit : (c : ℕ) → IsInRange 48 57 c → is_digit c ≡ true
is_a_digit c h = λ i. is_least 48 c h.0 i && is_least c 57 h.1 i

digits_run : (ds rest : List ℕ) → AllDigits 10 ds → IsStop rest → prefix_len is_digit (ds ++ rest) ≡ length ds
digits_run [] [] h s = refl
digits_run [] (c ∷ rest) h s = ap (λ (b : Bool). cond b (1 + prefix_len is_digit rest) 0) (is_no_digit c s)
digits_run (c ∷ ds) rest h s = ap (λ (b : Bool). cond b (1 + prefix_len is_digit (ds ++ rest)) 0) (is_a_digit c (digit_from_value c h.0)) ∙ (let e : prefix_len is_digit (ds ++ rest) ≡ length ds = digits_run ds rest h.1 s in omega arith)

module _ {A : Type 0} (low high : ℕ) (small : high < 2 ^ 16) (After : ℕ → List ℕ → A → Type 0) (can : CanFollow low high After) (after : ℕ → List ℕ → Option A) (afters : (x : ℕ) → Computes (After x) (after x)) where
  then_to : (text : List ℕ) (v : A) → NumberThen low high After text v → number_then_of low high after text ≡ Some v
  then_to text v h =
      let fits : h.number < 2 ^ 64 = omega (arith, h.is.most) in
      let digits : AllDigits 10 h.prefix = subst (AllDigits 10) (sym h.is.digits) (decimal_is_IsNumeral h.number fits).0.1 in
      let n : prefix_len is_digit text ≡ length h.prefix = ap (prefix_len is_digit) h.whole ∙ digits_run h.prefix h.rest digits (can.stops h.number h.rest v h.after) in
      let prefix : take (prefix_len is_digit text) text ≡ h.prefix = (λ i. take (n i) (h.whole i)) ∙ take_at h.prefix h.rest (length h.prefix) refl in
      let rest : drop (prefix_len is_digit text) text ≡ h.rest = (λ i. drop (n i) (h.whole i)) ∙ drop_at h.prefix h.rest (length h.prefix) refl in
      let is : number_of low high (take (prefix_len is_digit text) text) ≡ Some h.number = ap (number_of low high) prefix ∙ (number_computes low high small).to h.prefix h.number h.is in
      ap (option_and_then (λ number. after number (drop (prefix_len is_digit text) text))) is ∙ ap (after h.number) rest ∙ (afters h.number).to h.rest v h.after

  then_from : (text : List ℕ) (v : A) → number_then_of low high after text ≡ Some v → NumberThen low high After text v
  then_from text v e =
      let n = prefix_len is_digit text in
      let c = chained (λ number. after number (drop n text)) (number_of low high (take n text)) v e in
      record {
        number = c.0;
        prefix = take n text;
        rest = drop n text;
        whole = sym (take-append-drop n text);
        is = (number_computes low high small).from (take n text) c.0 c.1;
        after = (afters c.0).from (drop n text) v c.2;
      }

  pub then_computes : Computes (NumberThen low high After) (number_then_of low high after)
  then_computes = record { to = then_to; from = then_from }

-- ---- values in pairs
module _ {B : Type 0} (a : ℕ) (F : List ℕ → B → Type 0) (f : List ℕ → Option B) (c : Computes F f) where
  paired_from : (text : List ℕ) (v : ℕ × B) → option_and_then (λ b. Some (a, b)) (f text) ≡ Some v → (v.0 ≡ a) × F text v.1
  paired_from text v e =
      let p = chained (λ b. Some (a, b)) (f text) v e in
      let q : (a, p.0) ≡ v = cc (p.2) in
      (λ i. (sym q i).0, subst (F text) (λ i. (q i).1) (c.from text p.0 p.1))

  pub paired_computes : Computes (λ text (v : ℕ × B). (v.0 ≡ a) × F text v.1) (λ text. option_and_then (λ b. Some (a, b)) (f text))
  paired_computes = record {
    to = λ text v h. ap (option_and_then (λ b. Some (a, b))) (c.to text v.1 h.1) ∙ (λ i. Some (sym h.0 i, v.1));
    from = paired_from;
  }

-- ---- what a reader's answer says of the computed reading
module _ {A : Type 0} (Form : List ℕ → A → Type 0) (f : List ℕ → Option A) (c : Computes Form f) (text : List ℕ) where
  pub means_computed : (v : A) → Means Form text v → f text ≡ Some v
  means_computed v m = c.to text v m.is

  pub leaves_computed : (n : ℕ) → Leaves Form text n → f text ≡ None
  leaves_computed n m = elim (f text) as (λ (o : Option A). f text ≡ o → f text ≡ None) [ None ↦ λ e. e | Some v ↦ λ e. absurd (m.none v (c.from text v e)) ] refl

pub ports_computes : Computes IsPortRange ports_of
ports_computes = then_computes 0 65535 (lit< tt) UpperEnd upper_can _ (λ low. paired_computes low (IsOptional low 58 low 65535) (optional_of low 58 low 65535) (optional_computes low 58 low 65535 (lit< tt)))

-- ---- addresses
behind_to : (takes : Bool) (text : List ℕ) (v : ℕ) → Behind takes text v → behind_of takes text ≡ Some v
behind_to true text v h = (optional_computes 32 47 0 32 (lit< tt)).to text v h
behind_to false [] v h = ap Some (sym h.1)
behind_to false (c ∷ text) v h = cc (h.0)

behind_from : (takes : Bool) (text : List ℕ) (v : ℕ) → behind_of takes text ≡ Some v → Behind takes text v
behind_from true text v e = (optional_computes 32 47 0 32 (lit< tt)).from text v e
behind_from false [] v e = (refl, cc (e))
behind_from false (c ∷ text) v e = cc (e)

module _ {A : Type 0} (F : List ℕ → A → Type 0) (f : List ℕ → Option A) (c : Computes F f) where
  dot_to : (text : List ℕ) (v : A) → (more : List ℕ) × (text ≡ 46 ∷ more) × F more v → dot_of f text ≡ Some v
  dot_to [] v h = cc (h.1)
  dot_to (b ∷ text) v h =
      let e : b ≡ 46 = cc (h.1) in
      let r : h.0 ≡ text = cc (h.1) in
      picked (b == 46) (f text) None (eq-eqb b 46 e) ∙ c.to text v (subst (λ (l : List ℕ). F l v) r h.2)

  dot_from : (text : List ℕ) (v : A) → dot_of f text ≡ Some v → (more : List ℕ) × (text ≡ 46 ∷ more) × F more v
  dot_from [] v e = cc (e)
  dot_from (b ∷ text) v e = let p = chosen (b == 46) (f text) v e in (text, ap (λ (n : ℕ). n ∷ text) (same_numbers b 46 p.0), c.from text v p.1)

dotted_computes : (takes : Bool) (n high : ℕ) → Computes (Dotted takes high n) (dotted_of takes high n)
dotted_computes takes zero high = then_computes 0 255 (lit< tt) (AfterLast takes high) (last_can takes high) _ (λ byte. paired_computes (high * 256 + byte) (Behind takes) (behind_of takes) (record { to = behind_to takes; from = behind_from takes }))
dotted_computes takes (suc n) high = then_computes 0 255 (lit< tt) (AfterDot takes high n) (dot_can takes high n) _ (λ byte. let c = dotted_computes takes n (high * 256 + byte) in record { to = dot_to _ _ c; from = dot_from _ _ c })

pub address_computes : Computes IsAddress address_of
address_computes = record {
  to = λ text a h. ap (option_and_then (λ v. Some v.0)) ((dotted_computes false 3 0).to text (a, 32) (address_alike.from text a h));
  from = λ text a e.
      let p = chained (λ v. Some v.0) (dotted_of false 0 3 text) a e in
      let q : p.0.0 ≡ a = cc (p.2) in
      subst (IsAddress text) q (address_alike.to text p.0 ((dotted_computes false 3 0).from text p.0 p.1));
}

pub net_computes : Computes IsNet net_of
net_computes = record {
  to = λ text net h. ap (option_and_then (λ v. Some (net_address v.0 v.1, v.1))) ((dotted_computes true 3 0).to text (h.0, net.1) (cidr_alike.from text (h.0, net.1) h.1)) ∙ (λ i. Some (sym h.2 i, net.1));
  from = λ text net e.
      let p = chained (λ v. Some (net_address v.0 v.1, v.1)) (dotted_of true 0 3 text) net e in
      let q : (net_address p.0.0 p.0.1, p.0.1) ≡ net = cc (p.2) in
      subst (IsNet text) q (p.0.0, cidr_alike.to text p.0 ((dotted_computes true 3 0).from text p.0 p.1), refl);
}

-- ---- protocols
abbrev pub all_new : List (List ℕ × ℕ) → Bool
all_new [] = true
all_new (entry ∷ table) = is_new entry.0 table && all_new table

named_to : (table : List (List ℕ × ℕ)) → all_new table ≡ true → (text : List ℕ) (v : ℕ) → IsNamedIn table text v → named_of table text ≡ Some v
named_to [] new text v h = absurd h
named_to (entry ∷ table) new text v h =
    let both = both_pass (is_new entry.0 table) (all_new table) new in
    elim h [
      | inl one ↦ picked (pointwise nat_eq (str_to_ascii_lowercase text) entry.0) (Some entry.1) (named_of table text) (equal_texts _ _ one.0) ∙ ap Some (sym one.1)
      | inr more ↦ passed (pointwise nat_eq (str_to_ascii_lowercase text) entry.0) (Some entry.1) (named_of table text) (λ e. no_other entry.0 table both.0 text v (same_bytes _ _ e) more) ∙ named_to table both.1 text v more
    ]
  where
    passed : {A : Type 0} (b : Bool) (x y : A) → (b ≡ true → ⊥) → (if b then x else y) ≡ y
    passed true x y other = absurd (other refl)
    passed false x y other = refl

named_from : (table : List (List ℕ × ℕ)) (text : List ℕ) (v : ℕ) → named_of table text ≡ Some v → IsNamedIn table text v
named_from [] text v e = cc (e)
named_from (entry ∷ table) text v e =
    elim (pointwise nat_eq (str_to_ascii_lowercase text) entry.0) as (λ (b : Bool). pointwise nat_eq (str_to_ascii_lowercase text) entry.0 ≡ b → (if b then Some entry.1 else named_of table text) ≡ Some v → IsNamedIn (entry ∷ table) text v) [
      | true ↦ λ same is. inl (same_bytes _ _ same, cc (is))
      | false ↦ λ other is. inr (named_from table text v is)
    ] refl e

pub protocol_computes : Computes IsProtocol protocol_of
protocol_computes = record { to = named_to protocols refl; from = named_from protocols }
