-- What the printed forms of values are read as: the values.
use Rattle.std.proofs.Common.{◌≡◌, ◌<◌, ◌≤◌, ◌+◌, ◌*◌, ◌/◌, ◌%◌, ◌^◌, ◌==◌, ℕ, suc, Bool, true, false, ◌&&◌, inl, inr, List, [], ◌∷◌, ◌++◌, map, length, min, Option, Some, None, refl, sym, ap, ◌∙◌, arith, append-nil, length-append, lit<, lit≤, nat_lt, nat_le}
use Rattle.std.specs.Prelude.{if◌then◌else◌, codes, option_map, option_and_then}
use Rattle.std.specs.Char.{digit_value}
use Rattle.std.specs.Fmt.{decimal, digits}
use Rattle.std.specs.Str.{bytes_eq}
use Rattle.std.specs.Str.Parse.{AllDigits, digits_value, digits_value_after}
use Rattle.std.specs.List.{AllByRecursion}
use Rattle.std.proofs.Math.Nat.{min-eq_left, mul-le-mul_left}
use Rattle.std.proofs.lemmas.Bool.{and_from, lt-ltb, le-leb, ne_eqb}
use Rattle.std.proofs.lemmas.Fmt.{decimal_is_IsNumeral, digits_is_IsNumeral, length-decimal-le, decimal_nonempty}
use Rattle.fx_base.specs.declared.net.Ipv4.{Ipv4}
use Rattle.fx_base.specs.declared.net.Net.{Net}
use Rattle.fx_base.specs.declared.net.PortRange.{PortRange}
use Rattle.fx_base.specs.declared.net.Proto.{Proto}
use Rattle.fx_base.specs.Addresses.{IsAddress, net_address}
use Rattle.fx_base.specs.Forms.{IsOptional}
use Rattle.fx_base.specs.PortTexts.{IsPortRange}
use Rattle.fx_base.specs.Same.{same_numbers}
use Rattle.fx_base.specs.SameNet.{same_ports}
use Rattle.fx_base.specs.TextValues.{address_of, ports_of}
use Rattle.fx_base.proofs.NetLemmas.{is_around}
use Rattle.fx_base.proofs.ValueLemmas.{address_computes, ports_computes}
use Rattle.fx_model.specs.declared.rules.Icmp.{Icmp}
use Rattle.fx_model.specs.MemberTexts.{address_text, protocol_text, net_text}
use Rattle.fx_model.specs.MatchTexts.{hex, mark_text, range_text, later_ranges, ranges_text, code_text, icmp_text}
use Rattle.fx_found.specs.Pieces.{piece, behind, pieces}
use Rattle.fx_found.specs.Values.{kept, with_digit, number_after, number_in, up_to, hex_in, mark_in, number_of_protocol, protocol_in, icmp_with, icmp_in, address_in, cidr, net_in, range, range_in, all_ranges, ranges_in}
use Rattle.fx_found.specs.RuleRows.{IsRangeHeld, IsCodeHeld}
use Rattle.fx_found.proofs.PieceLemmas.{has, piece_marked, behind_marked, piece_whole, behind_whole, pieces_marked, pieces_whole, free_append, free_digits}

passed : {A : Type 0} (b : Bool) (x y : A) → b ≡ true → (if b then x else y) ≡ x
passed b x y e = ap (λ (t : Bool). if t then x else y) e

failed : {A : Type 0} (b : Bool) (x y : A) → b ≡ false → (if b then x else y) ≡ y
failed b x y e = ap (λ (t : Bool). if t then x else y) e

-- ---- numbers

module _ (base : ℕ) (some : 1 ≤ base) where
  grows : (n : ℕ) (ds : List ℕ) → n ≤ digits_value_after base n ds
  grows n [] = omega arith
  grows n (c ∷ ds) =
      let up : n * 1 ≤ n * base = mul-le-mul_left n some in
      let later : n * base + digit_value c ≤ digits_value_after base (n * base + digit_value c) ds = grows (n * base + digit_value c) ds in
      omega (arith, up, later)

  pub number_of_digits : (n : ℕ) (ds : List ℕ) → AllDigits base ds → digits_value_after base n ds < 2 ^ 32 → number_after base n ds ≡ Some (digits_value_after base n ds)
  number_of_digits n [] all fits = refl
  number_of_digits n (c ∷ ds) all fits =
      let next = n * base + digit_value c in
      let held : next < 2 ^ 32 = omega (arith, fits, grows (n * base + digit_value c) ds) in
      let one : with_digit base n c ≡ Some (n * base + digit_value c) =
      passed (nat_lt (digit_value c) base && nat_lt (n * base + digit_value c) (2 ^ 32)) (Some (n * base + digit_value c)) None (and_from _ _ (lt-ltb (digit_value c) base all.0) (lt-ltb (n * base + digit_value c) (2 ^ 32) held)) in
      ap (option_and_then (λ m. number_after base m ds)) one ∙ number_of_digits (n * base + digit_value c) ds all.1 fits

decimal_digits : (n : ℕ) → n < 2 ^ 32 → AllDigits 10 (decimal n)
decimal_digits n fits = (decimal_is_IsNumeral n (omega (arith, fits))).0.1

pub decimal_read : (n : ℕ) → n < 2 ^ 32 → number_in 10 (decimal n) ≡ Some n
decimal_read n fits =
    let value : digits_value 10 (decimal n) ≡ n = (decimal_is_IsNumeral n (omega (arith, fits))).1 in
    number_of_digits 10 (lit≤ tt) 0 (decimal n) (decimal_digits n fits) (omega (arith, value, fits)) ∙ ap Some value

pub hex_read : (n : ℕ) → n < 2 ^ 32 → hex_in (hex n) ≡ Some n
hex_read n fits =
    let numeral = digits_is_IsNumeral 16 false (lit≤ tt) (lit≤ tt) n (omega (arith, fits)) in
    number_of_digits 16 (lit≤ tt) 0 (digits 16 false n) numeral.0.1 (omega (arith, numeral.1, fits)) ∙ ap Some numeral.1

pub bounded_read : (most n : ℕ) → n ≤ most → n < 2 ^ 32 → up_to most (decimal n) ≡ Some n
bounded_read most n within fits = ap (kept (λ m. nat_le m most)) (decimal_read n fits) ∙ passed (nat_le n most) (Some n) None (le-leb n most within)

-- ---- marks that aren't in them

pub decimal_free : (mark n : ℕ) → 10 ≤ digit_value mark → n < 2 ^ 32 → has mark (decimal n) ≡ false
decimal_free mark n none fits = free_digits 10 mark none (decimal n) (decimal_digits n fits)

-- a mark that is neither a hexadecimal digit nor `x`
pub hex_free : (mark n : ℕ) → 16 ≤ digit_value mark → has mark (codes "0x") ≡ false → n < 2 ^ 32 → has mark (hex n) ≡ false
hex_free mark n none other fits =
    free_append mark (codes "0x") (digits 16 false n) other (free_digits 16 mark none (digits 16 false n) (digits_is_IsNumeral 16 false (lit≤ tt) (lit≤ tt) n (omega (arith, fits))).0.1)

pub some_digits : (n : ℕ) → n < 2 ^ 32 → 0 < length (decimal n)
some_digits n fits = decimal_nonempty n (omega (arith, fits))

-- ---- marks of packets

pub mark_read : (value mask : ℕ) → value < 2 ^ 32 → mask < 2 ^ 32 → mark_in (mark_text value mask) ≡ Some (value, mask)
mark_read value mask first second =
    let free : has 47 (hex value) ≡ false = hex_free 47 value (lit≤ tt) refl first in
    ap (λ (l : List ℕ). option_and_then (λ v. option_map (λ m. (v, m)) (hex_in (behind 47 (mark_text value mask)))) (hex_in l)) (piece_marked 47 (hex value) (hex mask) free)
    ∙ ap (λ (l : List ℕ). option_and_then (λ v. option_map (λ m. (v, m)) (hex_in l)) (hex_in (hex value))) (behind_marked 47 (hex value) (hex mask) free)
    ∙ ap (option_and_then (λ v. option_map (λ m. (v, m)) (hex_in (hex mask)))) (hex_read value first)
    ∙ ap (option_map (λ m. (value, m))) (hex_read mask second)

pub mark_free : (mark value mask : ℕ) → 16 ≤ digit_value mark → has mark (codes "0x") ≡ false → has mark (codes "/") ≡ false → value < 2 ^ 32 → mask < 2 ^ 32 → has mark (mark_text value mask) ≡ false
mark_free mark value mask none other slash first second =
    free_append mark (hex value) (codes "/" ++ hex mask) (hex_free mark value none other first) (free_append mark (codes "/") (hex mask) slash (hex_free mark mask none other second))

-- ---- protocols

-- digits are no word that begins otherwise
no_word : (ds : List ℕ) → AllDigits 10 ds → (c : ℕ) (cs : List ℕ) → 10 ≤ digit_value c → bytes_eq ds (c ∷ cs) ≡ false
no_word [] all c cs other = refl
no_word (d ∷ ds) all c cs other =
    ap (λ (b : Bool). b && bytes_eq ds cs) (ne_eqb d c (λ e. omega (arith, all.0, other, ap digit_value e)))

number_alone : (n : ℕ) → n < 2 ^ 8 → number_of_protocol (decimal n) ≡ Some n
number_alone n small =
    let all : AllDigits 10 (decimal n) = decimal_digits n (omega (arith, small)) in
    failed (bytes_eq (decimal n) (codes "icmp")) (Some 1) _ (no_word (decimal n) all 105 (codes "cmp") (lit≤ tt))
    ∙ failed (bytes_eq (decimal n) (codes "tcp")) (Some 6) _ (no_word (decimal n) all 116 (codes "cp") (lit≤ tt))
    ∙ failed (bytes_eq (decimal n) (codes "udp")) (Some 17) _ (no_word (decimal n) all 117 (codes "dp") (lit≤ tt))
    ∙ failed (bytes_eq (decimal n) (codes "sctp")) (Some 132) (up_to 255 (decimal n)) (no_word (decimal n) all 115 (codes "ctp") (lit≤ tt))
    ∙ bounded_read 255 n (omega (arith, small)) (omega (arith, small))

-- by the four names, or a number
abbrev named : ℕ → Bool → Bool → Bool → Bool → List ℕ
named n icmp tcp udp sctp =
    if icmp then codes "icmp" else (if tcp then codes "tcp" else (if udp then codes "udp" else (if sctp then codes "sctp" else decimal n)))

named_read : (n : ℕ) → n < 2 ^ 8 → (a b c d : Bool) → (n == 1) ≡ a → (n == 6) ≡ b → (n == 17) ≡ c → (n == 132) ≡ d → number_of_protocol (named n a b c d) ≡ Some n
named_read n small true b c d p q r s = ap Some (sym (same_numbers n 1 p))
named_read n small false true c d p q r s = ap Some (sym (same_numbers n 6 q))
named_read n small false false true d p q r s = ap Some (sym (same_numbers n 17 r))
named_read n small false false false true p q r s = ap Some (sym (same_numbers n 132 s))
named_read n small false false false false p q r s = number_alone n small

pub protocol_read : (p : Proto) → p.0 < 2 ^ 8 → protocol_in (protocol_text p) ≡ Some p
protocol_read p small =
    ap (option_map (λ n. record { 0 = n })) (named_read p.0 small (p.0 == 1) (p.0 == 6) (p.0 == 17) (p.0 == 132) refl refl refl refl)

module _ (mark : ℕ) (none : 10 ≤ digit_value mark) (icmp : has mark (codes "icmp") ≡ false) (tcp : has mark (codes "tcp") ≡ false) (udp : has mark (codes "udp") ≡ false) (sctp : has mark (codes "sctp") ≡ false) where
  named_free : (n : ℕ) → n < 2 ^ 8 → (a b c d : Bool) → has mark (named n a b c d) ≡ false
  named_free n small true b c d = icmp
  named_free n small false true c d = tcp
  named_free n small false false true d = udp
  named_free n small false false false true = sctp
  named_free n small false false false false = decimal_free mark n none (omega (arith, small))

  pub protocol_free : (p : Proto) → p.0 < 2 ^ 8 → has mark (protocol_text p) ≡ false
  protocol_free p small = named_free p.0 small (p.0 == 1) (p.0 == 6) (p.0 == 17) (p.0 == 132)

-- ---- ICMP

code_read : (kind : ℕ) (text : List ℕ) (code : ℕ) → 0 < length text → up_to 255 text ≡ Some code → icmp_with kind text ≡ Some (record { kind = kind; code = Some code })
code_read kind [] code some is = absurd (omega (arith, some))
code_read kind (c ∷ cs) code some is = ap (option_map (λ n. record { kind = kind; code = Some n })) is

kind_read : (kind : ℕ) → kind < 2 ^ 8 → (text later : List ℕ) → piece 47 text ≡ decimal kind → behind 47 text ≡ later → icmp_in text ≡ icmp_with kind later
kind_read kind small text later first second =
    ap (λ (l : List ℕ). option_and_then (λ k. icmp_with k l) (up_to 255 (piece 47 text))) second
    ∙ ap (λ (l : List ℕ). option_and_then (λ k. icmp_with k later) (up_to 255 l)) first
    ∙ ap (option_and_then (λ k. icmp_with k later)) (bounded_read 255 kind (omega (arith, small)) (omega (arith, small)))

icmp_coded : (kind : ℕ) (code : Option ℕ) → kind < 2 ^ 8 → IsCodeHeld code → icmp_in (decimal kind ++ code_text code) ≡ Some (record { kind = kind; code = code })
icmp_coded kind None small held =
    let free : has 47 (decimal kind) ≡ false = decimal_free 47 kind (lit≤ tt) (omega (arith, small)) in
    kind_read kind small (decimal kind ++ []) [] (ap (piece 47) (append-nil (decimal kind)) ∙ piece_whole 47 (decimal kind) free) (ap (behind 47) (append-nil (decimal kind)) ∙ behind_whole 47 (decimal kind) free)
icmp_coded kind (Some code) small held =
    let free : has 47 (decimal kind) ≡ false = decimal_free 47 kind (lit≤ tt) (omega (arith, small)) in
    kind_read kind small (decimal kind ++ 47 ∷ decimal code) (decimal code) (piece_marked 47 (decimal kind) (decimal code) free) (behind_marked 47 (decimal kind) (decimal code) free)
    ∙ code_read kind (decimal code) code (some_digits code (omega (arith, held))) (bounded_read 255 code (omega (arith, held)) (omega (arith, held)))

pub icmp_read : (m : Icmp) → m.kind < 2 ^ 8 → IsCodeHeld m.code → icmp_in (icmp_text m) ≡ Some m
icmp_read m small held = icmp_coded m.kind m.code small held

code_free : (mark : ℕ) → 10 ≤ digit_value mark → has mark (codes "/") ≡ false → (code : Option ℕ) → IsCodeHeld code → has mark (code_text code) ≡ false
code_free mark none slash None held = refl
code_free mark none slash (Some code) held = free_append mark (codes "/") (decimal code) slash (decimal_free mark code none (omega (arith, held)))

pub icmp_free : (mark : ℕ) → 10 ≤ digit_value mark → has mark (codes "/") ≡ false → (m : Icmp) → m.kind < 2 ^ 8 → IsCodeHeld m.code → has mark (icmp_text m) ≡ false
icmp_free mark none slash m small held = free_append mark (decimal m.kind) (code_text m.code) (decimal_free mark m.kind none (omega (arith, small))) (code_free mark none slash m.code held)

-- ---- addresses

byte_short : (n : ℕ) → n < 256 → length (decimal n) ≤ 3
byte_short n small = length-decimal-le 3 n (lit< tt) (omega (arith, small)) (omega (arith, small))

first_byte : (a : ℕ) → a < 2 ^ 32 → a / 2 ^ 24 < 256
first_byte a fits = omega (arith, fits)

pub is_address : (a : Ipv4) → a.0 < 2 ^ 32 → IsAddress (address_text a) a.0
is_address a fits = record {
  first = a.0 / 2 ^ 24;
  second = a.0 / 2 ^ 16 % 256;
  third = a.0 / 2 ^ 8 % 256;
  fourth = a.0 % 256;
  bytes = (first_byte a.0 fits, omega arith, omega arith, omega arith);
  written = refl;
  spells = omega (arith, fits);
}

address_short : (a : Ipv4) → a.0 < 2 ^ 32 → length (address_text a) ≤ 15
address_short a fits =
    let p = decimal (a.0 / 2 ^ 24) in
    let q = decimal (a.0 / 2 ^ 16 % 256) in
    let r = decimal (a.0 / 2 ^ 8 % 256) in
    let s = decimal (a.0 % 256) in
    let e : length (address_text a) ≡ length p + suc (length (q ++ 46 ∷ (r ++ 46 ∷ s))) = length-append p (46 ∷ (q ++ 46 ∷ (r ++ 46 ∷ s))) in
    let f : length (q ++ 46 ∷ (r ++ 46 ∷ s)) ≡ length q + suc (length (r ++ 46 ∷ s)) = length-append q (46 ∷ (r ++ 46 ∷ s)) in
    let g : length (r ++ 46 ∷ s) ≡ length r + suc (length s) = length-append r (46 ∷ s) in
    omega (arith, e, f, g, byte_short (a.0 / 2 ^ 24) (first_byte a.0 fits), byte_short (a.0 / 2 ^ 16 % 256) (omega arith), byte_short (a.0 / 2 ^ 8 % 256) (omega arith), byte_short (a.0 % 256) (omega arith))

pub address_read : (a : Ipv4) → a.0 < 2 ^ 32 → address_in (address_text a) ≡ Some a
address_read a fits =
    ap (option_map (λ n. record { 0 = n })) (passed (nat_le (length (address_text a)) 15) (address_of (address_text a)) None (le-leb _ 15 (address_short a fits)) ∙ address_computes.to (address_text a) a.0 (is_address a fits))

pub address_free : (mark : ℕ) → 10 ≤ digit_value mark → has mark (codes ".") ≡ false → (a : Ipv4) → a.0 < 2 ^ 32 → has mark (address_text a) ≡ false
address_free mark none dot a fits =
    let byte : (n : ℕ) → n < 256 → has mark (decimal n) ≡ false = λ n small. decimal_free mark n none (omega (arith, small)) in
    let p = decimal (a.0 / 2 ^ 24) in
    let q = decimal (a.0 / 2 ^ 16 % 256) in
    let r = decimal (a.0 / 2 ^ 8 % 256) in
    let s = decimal (a.0 % 256) in
    free_append mark p (codes "." ++ (q ++ (codes "." ++ (r ++ (codes "." ++ s))))) (byte _ (first_byte a.0 fits))
    (free_append mark (codes ".") (q ++ (codes "." ++ (r ++ (codes "." ++ s)))) dot
    (free_append mark q (codes "." ++ (r ++ (codes "." ++ s))) (byte _ (omega arith))
    (free_append mark (codes ".") (r ++ (codes "." ++ s)) dot
    (free_append mark r (codes "." ++ s) (byte _ (omega arith))
    (free_append mark (codes ".") s dot (byte _ (omega arith)))))))

-- ---- nets

pub is_cidr : (n : Net) (a : Ipv4) (len : ℕ) → len ≤ 32 → n.addr.0 ≡ net_address a.0 len → n.len ≡ len → n ≡ cidr a len
is_cidr n a len short address length =
    let same : min len 32 ≡ len = min-eq_left short in
    is_around n a.0 (min len 32) _ (address ∙ ap (net_address a.0) (sym same)) (length ∙ sym same)

pub net_read : (n : Net) → n.addr.0 < 2 ^ 32 → net_in (net_text n) ≡ Some n
net_read n fits =
    let free : has 47 (address_text n.addr) ≡ false = address_free 47 (lit≤ tt) refl n.addr fits in
    ap (λ (l : List ℕ). option_and_then (λ a. option_map (cidr a) (up_to 32 (behind 47 (net_text n)))) (address_in l)) (piece_marked 47 (address_text n.addr) (decimal n.len) free)
    ∙ ap (option_and_then (λ a. option_map (cidr a) (up_to 32 (behind 47 (net_text n))))) (address_read n.addr fits)
    ∙ ap (λ (l : List ℕ). option_map (cidr n.addr) (up_to 32 l)) (behind_marked 47 (address_text n.addr) (decimal n.len) free)
    ∙ ap (option_map (cidr n.addr)) (bounded_read 32 n.len n.short (omega (arith, n.short)))
    ∙ ap Some (sym (is_cidr n n.addr n.len n.short (sym n.no_host_bits) refl))

pub net_free : (mark : ℕ) → 10 ≤ digit_value mark → has mark (codes ".") ≡ false → has mark (codes "/") ≡ false → (n : Net) → n.addr.0 < 2 ^ 32 → has mark (net_text n) ≡ false
net_free mark none dot slash n fits =
    free_append mark (address_text n.addr) (codes "/" ++ decimal n.len) (address_free mark none dot n.addr fits)
    (free_append mark (codes "/") (decimal n.len) slash (decimal_free mark n.len none (omega (arith, n.short))))

-- ---- ports

pub is_range : (r : PortRange) → range r.low r.high ≡ r
is_range r = same_ports (range r.low r.high) r (min-eq_left r.ascending) refl

abbrev upper : ℕ → Bool → List ℕ
upper high same = if same then [] else codes ":" ++ decimal high

is_upper : (low high : ℕ) → low ≤ high → high < 2 ^ 16 → (b : Bool) → (low == high) ≡ b → IsOptional low 58 low 65535 (upper high b) high
is_upper low high ascending small true e = inl (refl, sym (same_numbers low high e))
is_upper low high ascending small false e = inr (decimal high, refl, record { digits = refl; least = ascending; most = omega (arith, small) })

is_ports : (r : PortRange) → r.high < 2 ^ 16 → IsPortRange (range_text r) (r.low, r.high)
is_ports r small = record {
  number = r.low;
  prefix = decimal r.low;
  rest = upper r.high (r.low == r.high);
  whole = refl;
  is = record { digits = refl; least = omega arith; most = omega (arith, r.ascending, small) };
  after = (refl, is_upper r.low r.high r.ascending small (r.low == r.high) refl);
}

port_short : (n : ℕ) → n < 2 ^ 16 → length (decimal n) ≤ 5
port_short n small = length-decimal-le 5 n (lit< tt) (omega (arith, small)) (omega (arith, small))

upper_short : (high : ℕ) → high < 2 ^ 16 → (b : Bool) → length (upper high b) ≤ 6
upper_short high small true = omega arith
upper_short high small false = omega (arith, port_short high small)

range_short : (r : PortRange) → r.high < 2 ^ 16 → length (range_text r) ≤ 11
range_short r small =
    omega (arith, length-append (decimal r.low) (upper r.high (r.low == r.high)), port_short r.low (omega (arith, r.ascending, small)), upper_short r.high small (r.low == r.high))

pub range_read : (r : PortRange) → r.high < 2 ^ 16 → range_in (range_text r) ≡ Some r
range_read r small =
    ap (option_map (λ ends. range ends.0 ends.1)) (passed (nat_le (length (range_text r)) 11) (ports_of (range_text r)) None (le-leb _ 11 (range_short r small)) ∙ ports_computes.to (range_text r) (r.low, r.high) (is_ports r small))
    ∙ ap Some (is_range r)

upper_free : (mark high : ℕ) → 10 ≤ digit_value mark → has mark (codes ":") ≡ false → high < 2 ^ 16 → (b : Bool) → has mark (upper high b) ≡ false
upper_free mark high none colon small true = refl
upper_free mark high none colon small false = free_append mark (codes ":") (decimal high) colon (decimal_free mark high none (omega (arith, small)))

range_free : (mark : ℕ) → 10 ≤ digit_value mark → has mark (codes ":") ≡ false → (r : PortRange) → r.high < 2 ^ 16 → has mark (range_text r) ≡ false
range_free mark none colon r small =
    free_append mark (decimal r.low) (upper r.high (r.low == r.high)) (decimal_free mark r.low none (omega (arith, r.ascending, small))) (upper_free mark r.high none colon small (r.low == r.high))

some_range : (r : PortRange) → r.high < 2 ^ 16 → 0 < length (range_text r)
some_range r small =
    omega (arith, length-append (decimal r.low) (upper r.high (r.low == r.high)), some_digits r.low (omega (arith, r.ascending, small)))

-- the first range and those behind commas
pieces_of_ranges : (r : PortRange) (rs : List PortRange) → r.high < 2 ^ 16 → AllByRecursion IsRangeHeld rs → pieces 44 (range_text r ++ later_ranges rs) ≡ range_text r ∷ map range_text rs
pieces_of_ranges r [] small held =
    ap (pieces 44) (append-nil (range_text r)) ∙ pieces_whole 44 (range_text r) (range_free 44 (lit≤ tt) refl r small) (some_range r small)
pieces_of_ranges r (s ∷ ss) small held =
    pieces_marked 44 (range_text r) (range_text s ++ later_ranges ss) (range_free 44 (lit≤ tt) refl r small)
    ∙ ap (λ (l : List (List ℕ)). range_text r ∷ l) (pieces_of_ranges s ss held.0 held.1)

all_read : (rs : List PortRange) → AllByRecursion IsRangeHeld rs → all_ranges (map range_text rs) ≡ Some rs
all_read [] held = refl
all_read (r ∷ rs) held =
    ap (option_and_then (λ first. option_map (λ later. first ∷ later) (all_ranges (map range_text rs)))) (range_read r held.0)
    ∙ ap (option_map (λ later. r ∷ later)) (all_read rs held.1)

pub ranges_read : (rs : List PortRange) → AllByRecursion IsRangeHeld rs → ranges_in (ranges_text rs) ≡ Some rs
ranges_read [] held = refl
ranges_read (r ∷ rs) held = ap all_ranges (pieces_of_ranges r rs held.0 held.1) ∙ all_read (r ∷ rs) held

later_free : (mark : ℕ) → 10 ≤ digit_value mark → has mark (codes ":") ≡ false → has mark (codes ",") ≡ false → (rs : List PortRange) → AllByRecursion IsRangeHeld rs → has mark (later_ranges rs) ≡ false
later_free mark none colon comma [] held = refl
later_free mark none colon comma (r ∷ rs) held =
    free_append mark (codes "," ++ range_text r) (later_ranges rs) (free_append mark (codes ",") (range_text r) comma (range_free mark none colon r held.0)) (later_free mark none colon comma rs held.1)

pub ranges_free : (mark : ℕ) → 10 ≤ digit_value mark → has mark (codes ":") ≡ false → has mark (codes ",") ≡ false → (rs : List PortRange) → AllByRecursion IsRangeHeld rs → has mark (ranges_text rs) ≡ false
ranges_free mark none colon comma [] held = refl
ranges_free mark none colon comma (r ∷ rs) held = free_append mark (range_text r) (later_ranges rs) (range_free mark none colon r held.0) (later_free mark none colon comma rs held.1)
