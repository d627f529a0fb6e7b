-- Dotted bytes, and what stands behind them.
use Rattle.std.proofs.Common.{◌≡◌, ◌<◌, ◌≤◌, ◌+◌, ◌-◌, ◌*◌, ◌^◌, ℕ, zero, suc, Bool, true, false, List, [], ◌∷◌, ◌++◌, length, take, drop, get_or, refl, sym, ap, subst, ◌∙◌, arith, inl, append_assoc, lit<}
use Rattle.std.specs.Fmt.{decimal}
use Rattle.std.proofs.lemmas.List.{append-nil, take_rest}
use Rattle.std.proofs.Math.Nat.{pow-succ', mul-le-mul_left, mul-le-mul_right, mul_assoc}
use Rattle.fx_base.specs.Forms.{Begins, IsIn, GoesTo, Means, Leaves, IsNumber}
use Rattle.fx_base.specs.Addresses.{Behind, Dotted, IsAddress, IsCidr, IsNet, net_address}
use Rattle.fx_base.proofs.FormLemmas.{CanFollow, IsStop, Alike, optional_stops, then_value, then_fault, then_none, after_mark}

pub nothing_leaves : (text : List ℕ) → 0 < length text → Leaves (Behind false) text 0
nothing_leaves [] some = absurd (omega arith)
nothing_leaves (c ∷ text) some = record {
  none = λ value h. cc (h.0);
  goes = record { within = omega arith; begins = ([], (32, (refl, refl))); furthest = further };
}
  where
    further : (i : ℕ) → i ≤ length (c ∷ text) → Begins (Behind false) (take i (c ∷ text)) → i ≤ 0
    further zero less b = omega arith
    further (suc i) less b = cc (b.1.1.0)

nothing : (takes : Bool) → Behind takes [] 32
nothing true = inl (refl, refl)
nothing false = (refl, refl)

behind_stops : (takes : Bool) (rest : List ℕ) (l : ℕ) → Behind takes rest l → IsStop rest
behind_stops true rest l h d = optional_stops 32 47 0 32 (λ d. absurd (omega arith)) rest l h d
behind_stops false rest l h d = absurd (let e : get_or rest 0 0 ≡ 0 = ap (λ (t : List ℕ). get_or t 0 0) h.0 in omega arith)

-- what follows the last byte, and another one
abbrev pub AfterLast : Bool → ℕ → ℕ → List ℕ → ℕ × ℕ → Type 0
AfterLast takes high byte rest v = (v.0 ≡ high * 256 + byte) × Behind takes rest v.1

abbrev pub AfterDot : Bool → ℕ → ℕ → ℕ → List ℕ → ℕ × ℕ → Type 0
AfterDot takes high n byte rest v = (more : List ℕ) × (rest ≡ 46 ∷ more) × Dotted takes (high * 256 + byte) n more v

some_dotted : (takes : Bool) (n high : ℕ) → (text : List ℕ) × ((v : ℕ × ℕ) × Dotted takes high n text v)
some_dotted takes zero high =
    (decimal 0, ((high * 256 + 0, 32), record { number = 0; prefix = decimal 0; rest = []; whole = sym (append-nil (decimal 0)); is = record { digits = refl; least = omega arith; most = omega arith }; after = (refl, nothing takes) }))
some_dotted takes (suc n) high =
    let s = some_dotted takes n (high * 256 + 0) in
    (decimal 0 ++ 46 ∷ s.0, (s.1.0, record { number = 0; prefix = decimal 0; rest = 46 ∷ s.0; whole = refl; is = record { digits = refl; least = omega arith; most = omega arith }; after = (s.0, refl, s.1.1) }))

pub last_can : (takes : Bool) (high : ℕ) → CanFollow 0 255 (AfterLast takes high)
last_can takes high = record {
  stops = λ byte rest v h. behind_stops takes rest v.1 h.1;
  some = λ byte a b. ([], ((high * 256 + byte, 32), (refl, nothing takes)));
}

pub dot_can : (takes : Bool) (high n : ℕ) → CanFollow 0 255 (AfterDot takes high n)
dot_can takes high n = record {
  stops = λ byte rest v h d. absurd (let e : get_or rest 0 0 ≡ 46 = ap (λ (t : List ℕ). get_or t 0 0) h.1 in omega arith);
  some = λ byte a b. let s = some_dotted takes n (high * 256 + byte) in (46 ∷ s.0, (s.1.0, (s.0, refl, s.1.1)));
}

module _ (takes : Bool) (high byte : ℕ) where
  pub last_means : (rest : List ℕ) (l : ℕ) → Means (Behind takes) rest l → Means (AfterLast takes high byte) rest (high * 256 + byte, l)
  last_means rest l m = record { is = (refl, m.is); only = λ v h. let e = m.only v.1 h.1 in λ i. (h.0 i, e i) }

  pub last_leaves : (rest : List ℕ) (n : ℕ) → Leaves (Behind takes) rest n → Leaves (AfterLast takes high byte) rest n
  last_leaves rest n m = record {
    none = λ v h. m.none v.1 h.1;
    goes = record {
      within = m.goes.within;
      begins = let b = m.goes.begins in (b.0, ((high * 256 + byte, b.1.0), (refl, b.1.1)));
      furthest = λ i fits b. m.goes.furthest i fits (b.0, (b.1.0.1, b.1.1.1));
    };
  }

  module _ (n : ℕ) where
    pub dot_means : (more : List ℕ) (v : ℕ × ℕ) → Means (Dotted takes (high * 256 + byte) n) more v → Means (AfterDot takes high n byte) (46 ∷ more) v
    dot_means more v m = record {
      is = (more, refl, m.is);
      only = λ w h. m.only w (let e : h.0 ≡ more = cc (h.1) in subst (λ (t : List ℕ). Dotted takes (high * 256 + byte) n t w) e h.2);
    }

    pub dot_leaves : (more : List ℕ) (j : ℕ) → Leaves (Dotted takes (high * 256 + byte) n) more j → Leaves (AfterDot takes high n byte) (46 ∷ more) (j + 1)
    dot_leaves more j m = record {
      none = λ w h. m.none w (let e : h.0 ≡ more = cc (h.1) in subst (λ (t : List ℕ). Dotted takes (high * 256 + byte) n t w) e h.2);
      goes = record {
        within = let w : j ≤ length more = m.goes.within in omega arith;
        begins =
            let b = m.goes.begins in
            let e : suc j ≡ j + 1 = omega arith in
            (b.0, (b.1.0, subst (λ (i : ℕ). AfterDot takes high n byte (take i (46 ∷ more) ++ b.0) b.1.0) e (take j more ++ b.0, refl, b.1.1)));
        furthest = further;
      };
    }
      where
        further : (i : ℕ) → i ≤ length (46 ∷ more) → Begins (AfterDot takes high n byte) (take i (46 ∷ more)) → i ≤ j + 1
        further zero less b = omega arith
        further (suc i) less b =
            let h = b.1.1 in
            let e : h.0 ≡ take i more ++ b.0 = cc (h.1) in
            let inside : i ≤ j = m.goes.furthest i (omega arith) (b.0, (b.1.0, subst (λ (t : List ℕ). Dotted takes (high * 256 + byte) n t b.1.0) e h.2)) in
            omega arith

    pub dot_none : (rest : List ℕ) → (get_or rest 0 0 ≡ 46 → ⊥) → Leaves (AfterDot takes high n byte) rest 0
    dot_none rest other = record {
      none = λ w h. other (ap (λ (t : List ℕ). get_or t 0 0) h.1);
      goes = record {
        within = omega arith;
        begins = let s = some_dotted takes n (high * 256 + byte) in (46 ∷ s.0, (s.1.0, (s.0, refl, s.1.1)));
        furthest = further rest other;
      };
    }
      where
        further : (rest : List ℕ) → (get_or rest 0 0 ≡ 46 → ⊥) → (i : ℕ) → i ≤ length rest → Begins (AfterDot takes high n byte) (take i rest) → i ≤ 0
        further rest other zero less b = omega arith
        further [] other (suc i) less b = absurd (omega arith)
        further (c ∷ rest) other (suc i) less b = absurd (other (ap (λ (t : List ℕ). get_or t 0 0) b.1.1.1))

-- ---- the number fits
pub fits_now : (high n : ℕ) → (high + 1) * 256 ^ (n + 1) ≤ 2 ^ 32 → (high + 1) * 256 ≤ 2 ^ 32
fits_now high n h =
    let one : 1 ≤ 256 ^ n = pos n in
    let e : n + 1 ≡ suc n = omega arith in
    let g : (high + 1) * (256 * 1) ≤ (high + 1) * (256 * 256 ^ n) = mul-le-mul_left (high + 1) (mul-le-mul_left 256 one) in
    let p : 256 ^ (n + 1) ≡ 256 * 256 ^ n = ap (λ (i : ℕ). 256 ^ i) e ∙ pow-succ' 256 n in
    let t : (high + 1) * 256 ^ (n + 1) ≡ (high + 1) * (256 * 256 ^ n) = ap (λ (i : ℕ). (high + 1) * i) p in
    omega arith
  where
    pos : (k : ℕ) → 1 ≤ 256 ^ k
    pos zero = omega arith
    pos (suc k) = rw (pow-succ' 256 k) (let h : 1 ≤ 256 ^ k = pos k in omega arith)

pub fits_next : (high byte n : ℕ) → byte < 256 → 0 < n → (high + 1) * 256 ^ (n + 1) ≤ 2 ^ 32 → (high * 256 + byte + 1) * 256 ^ (n - 1 + 1) ≤ 2 ^ 32
fits_next high byte n small some h =
    let e : n - 1 + 1 ≡ n = omega arith in
    let f : n + 1 ≡ suc n = omega arith in
    let p : 256 ^ (n + 1) ≡ 256 * 256 ^ n = ap (λ (i : ℕ). 256 ^ i) f ∙ pow-succ' 256 n in
    let t : (high + 1) * 256 ^ (n + 1) ≡ (high + 1) * 256 * 256 ^ n = ap (λ (i : ℕ). (high + 1) * i) p ∙ sym (mul_assoc (high + 1) 256 (256 ^ n)) in
    let g : (high * 256 + byte + 1) * 256 ^ n ≤ (high + 1) * 256 * 256 ^ n = mul-le-mul_right (256 ^ n) (omega arith) in
    let s : (high * 256 + byte + 1) * 256 ^ (n - 1 + 1) ≡ (high * 256 + byte + 1) * 256 ^ n = ap (λ (i : ℕ). (high * 256 + byte + 1) * 256 ^ i) e in
    omega arith

-- ---- four bytes are an address, and what stands behind it
pub record IsQuad (takes : Bool) (text : List ℕ) (v : ℕ × ℕ) : Type 0 where
  pub prefix : List ℕ
  pub rest : List ℕ
  pub written : text ≡ prefix ++ rest
  pub address : IsAddress prefix v.0
  pub behind : Behind takes rest v.1

regroup : (a b c d rest : List ℕ) → (a ++ 46 ∷ (b ++ 46 ∷ (c ++ 46 ∷ d))) ++ rest ≡ a ++ 46 ∷ (b ++ 46 ∷ (c ++ 46 ∷ (d ++ rest)))
regroup a b c d rest = simp append_assoc

module _ (takes : Bool) (text : List ℕ) (v : ℕ × ℕ) where
  pub quad_from_dotted : Dotted takes 0 3 text v → IsQuad takes text v
  quad_from_dotted p =
      let q = p.after.2 in
      let r = q.after.2 in
      let s = r.after.2 in
      let part : (n : ℕ) (f x m t : List ℕ) → t ≡ f ++ x → f ≡ decimal n → x ≡ 46 ∷ m → t ≡ decimal n ++ 46 ∷ m = λ n f x m t w d e. w ∙ (λ i. d i ++ e i) in
      let w1 = part p.number p.prefix p.rest p.after.0 text p.whole p.is.digits p.after.1 in
      let w2 = part q.number q.prefix q.rest q.after.0 p.after.0 q.whole q.is.digits q.after.1 in
      let w3 = part r.number r.prefix r.rest r.after.0 q.after.0 r.whole r.is.digits r.after.1 in
      let w4 : r.after.0 ≡ decimal s.number ++ s.rest = s.whole ∙ ap (λ (l : List ℕ). l ++ s.rest) s.is.digits in
      record {
        prefix = decimal p.number ++ 46 ∷ (decimal q.number ++ 46 ∷ (decimal r.number ++ 46 ∷ decimal s.number));
        rest = s.rest;
        written = w1 ∙ ap (λ (l : List ℕ). decimal p.number ++ 46 ∷ l) (w2 ∙ ap (λ (l : List ℕ). decimal q.number ++ 46 ∷ l) (w3 ∙ ap (λ (l : List ℕ). decimal r.number ++ 46 ∷ l) w4)) ∙ sym (regroup (decimal p.number) (decimal q.number) (decimal r.number) (decimal s.number) s.rest);
        address = record {
          first = p.number;
          second = q.number;
          third = r.number;
          fourth = s.number;
          bytes = (omega (arith, p.is.most), omega (arith, q.is.most), omega (arith, r.is.most), omega (arith, s.is.most));
          written = refl;
          spells = s.after.0 ∙ ap (λ (n : ℕ). ((n * 256 + q.number) * 256 + r.number) * 256 + s.number) (let e : 0 * 256 + p.number ≡ p.number = omega arith in e);
        };
        behind = s.after.1;
      }

  pub dotted_from_quad : IsQuad takes text v → Dotted takes 0 3 text v
  dotted_from_quad h =
      let a = h.address in
      let num : (n : ℕ) → n < 256 → IsNumber 0 255 (decimal n) n = λ n less. record { digits = refl; least = omega arith; most = omega arith } in
      record {
        number = a.first;
        prefix = decimal a.first;
        rest = 46 ∷ (decimal a.second ++ 46 ∷ (decimal a.third ++ 46 ∷ (decimal a.fourth ++ h.rest)));
        whole = h.written ∙ ap (λ (l : List ℕ). l ++ h.rest) a.written ∙ regroup (decimal a.first) (decimal a.second) (decimal a.third) (decimal a.fourth) h.rest;
        is = num a.first a.bytes.0;
        after = (
          _,
          refl,
          record {
            number = a.second;
            prefix = decimal a.second;
            rest = 46 ∷ (decimal a.third ++ 46 ∷ (decimal a.fourth ++ h.rest));
            whole = refl;
            is = num a.second a.bytes.1;
            after = (
              _,
              refl,
              record {
                number = a.third;
                prefix = decimal a.third;
                rest = 46 ∷ (decimal a.fourth ++ h.rest);
                whole = refl;
                is = num a.third a.bytes.2;
                after = (
                  _,
                  refl,
                  record {
                    number = a.fourth;
                    prefix = decimal a.fourth;
                    rest = h.rest;
                    whole = refl;
                    is = num a.fourth a.bytes.3;
                    after = (a.spells ∙ ap (λ (n : ℕ). ((n * 256 + a.second) * 256 + a.third) * 256 + a.fourth) (let e : a.first ≡ 0 * 256 + a.first = omega arith in e), h.behind);
                  },
                );
              },
            );
          },
        );
      }

-- ---- what `dotted` answers, where it read a byte at the beginning of n bytes
module _ (takes : Bool) (high more : ℕ) (text : List ℕ) (n : ℕ) where
  byte_fits : 255 < 2 ^ 16
  byte_fits = lit< tt

  pub dotted_none : GoesTo (IsNumber 0 255) text n → ¬ IsIn (IsNumber 0 255) (take n text) → Leaves (Dotted takes high more) text n
  dotted_none g out =
      elim more as (λ (m : ℕ). Leaves (Dotted takes high m) text n) [
        | zero ↦ then_none 0 255 byte_fits (AfterLast takes high) (last_can takes high) text n g out
        | suc m ↦ then_none 0 255 byte_fits (AfterDot takes high m) (dot_can takes high m) text n g out
      ]

  module _ (byte : ℕ) (is : IsNumber 0 255 (take n text) byte) (g : GoesTo (IsNumber 0 255) text n) where
    pub dotted_last : (l : ℕ) → more ≡ 0 → Means (Behind takes) (take (length text - n) (drop n text)) l → Means (Dotted takes high more) text (high * 256 + byte, l)
    dotted_last l e m =
        subst (λ (k : ℕ). Means (Dotted takes high k) text (high * 256 + byte, l)) (sym e)
        (then_value 0 255 byte_fits (AfterLast takes high) (last_can takes high) text n byte (high * 256 + byte, l) is g (last_means takes high byte (drop n text) l (rw take_rest at m)))

    pub dotted_last_leaves : (j : ℕ) → more ≡ 0 → Leaves (Behind takes) (take (length text - n) (drop n text)) j → Leaves (Dotted takes high more) text (n + j)
    dotted_last_leaves j e m =
        subst (λ (k : ℕ). Leaves (Dotted takes high k) text (n + j)) (sym e)
        (then_fault 0 255 byte_fits (AfterLast takes high) (last_can takes high) text n byte j is g (last_leaves takes high byte (drop n text) j (rw take_rest at m)))

    module _ (some : more ≡ 0 → ⊥) where
      before : suc (more - 1) ≡ more
      before = omega arith

      -- at a dot
      module _ (rest : List ℕ) (dot : 46 ∷ rest ≡ drop n text) where
        pub dotted_more : (v : ℕ × ℕ) → Means (Dotted takes (high * 256 + byte) (more - 1)) rest v → Means (Dotted takes high more) text v
        dotted_more v m =
            subst (λ (k : ℕ). Means (Dotted takes high k) text v) before
            (then_value 0 255 byte_fits (AfterDot takes high (more - 1)) (dot_can takes high (more - 1)) text n byte v is g (subst (λ (t : List ℕ). Means (AfterDot takes high (more - 1) byte) t v) dot (dot_means takes high byte (more - 1) rest v m)))

        pub dotted_more_leaves : (j : ℕ) → Leaves (Dotted takes (high * 256 + byte) (more - 1)) rest j → Leaves (Dotted takes high more) text (n + (j + 1))
        dotted_more_leaves j m =
            subst (λ (k : ℕ). Leaves (Dotted takes high k) text (n + (j + 1))) before
            (then_fault 0 255 byte_fits (AfterDot takes high (more - 1)) (dot_can takes high (more - 1)) text n byte (j + 1) is g (subst (λ (t : List ℕ). Leaves (AfterDot takes high (more - 1) byte) t (j + 1)) dot (dot_leaves takes high byte (more - 1) rest j m)))

      pub dotted_no_dot : (get_or (drop n text) 0 0 ≡ 46 → ⊥) → Leaves (Dotted takes high more) text n
      dotted_no_dot other =
          let e : n + 0 ≡ n = omega arith in
          subst (λ (k : ℕ). Leaves (Dotted takes high k) text n) before
          (subst (Leaves (Dotted takes high (suc (more - 1))) text) e (then_fault 0 255 byte_fits (AfterDot takes high (more - 1)) (dot_can takes high (more - 1)) text n byte 0 is g (dot_none takes high byte (more - 1) (drop n text) other)))

-- what stands behind a dot in the rest of a text
pub behind_dot : (text : List ℕ) (n : ℕ) → let rest = take (length text - n) (drop n text) in 1 ≤ length rest → get_or rest 0 0 ≡ 46 → 46 ∷ take (length rest - 1) (drop 1 rest) ≡ drop n text
behind_dot text n some dot = after_mark (take (length text - n) (drop n text)) 46 some dot ∙ take_rest text n

-- ---- the two forms
pub address_alike : Alike (Dotted false 0 3) IsAddress (λ v. v.0) (λ a. (a, 32))
address_alike = record {
  to = λ text v h. let q = quad_from_dotted false text v h in subst (λ (t : List ℕ). IsAddress t v.0) (sym (append-nil q.prefix) ∙ ap (λ (l : List ℕ). q.prefix ++ l) (sym q.behind.0) ∙ sym q.written) q.address;
  from = λ text a h. dotted_from_quad false text (a, 32) (record { prefix = text; rest = []; written = sym (append-nil text); address = h; behind = (refl, refl) });
  back = λ a. refl;
}

pub cidr_alike : Alike (Dotted true 0 3) IsCidr (λ v. v) (λ v. v)
cidr_alike = record {
  to = λ text v h. let q = quad_from_dotted true text v h in record { prefix = q.prefix; rest = q.rest; written = q.written; address = q.address; length = q.behind };
  from = λ text v h. dotted_from_quad true text v (record { prefix = h.prefix; rest = h.rest; written = h.written; address = h.address; behind = h.length });
  back = λ v. refl;
}

-- a net's address is the written one without its host bits
module _ (text : List ℕ) where
  pub net_means : (given l address length : ℕ) → address ≡ net_address given l → length ≡ l → Means IsCidr text (given, l) → Means IsNet text (address, length)
  net_means given l address length e f m =
      let same : (address, length) ≡ (net_address given l, l) = λ i. (e i, f i) in
      subst (Means IsNet text) (sym same) (record {
        is = (given, m.is, refl);
        only = λ net h.
            let one = m.only (h.0, net.1) h.1 in
            λ i. ((h.2 ∙ (λ k. net_address (one k).0 (one k).1)) i, (one i).1);
      })

  pub net_leaves : (at : ℕ) → Leaves IsCidr text at → Leaves IsNet text at
  net_leaves at m = record {
    none = λ net h. m.none (h.0, net.1) h.1;
    goes = record {
      within = m.goes.within;
      begins = let b = m.goes.begins in (b.0, ((net_address b.1.0.0 b.1.0.1, b.1.0.1), (b.1.0.0, b.1.1, refl)));
      furthest = λ i fits b. m.goes.furthest i fits (b.0, ((b.1.1.0, b.1.0.1), b.1.1.1));
    };
  }
