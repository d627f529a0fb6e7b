-- Rules and members are read exactly where they print so.
use Rattle.std.proofs.Common.{◌≡◌, ◌<◌, ◌^◌, ℕ, Bool, true, false, ◌&&◌, List, Option, Some, None, refl, sym, ap, ◌∙◌, arith, lit≤}
use Rattle.std.specs.Prelude.{if◌then◌else◌, option_map, option_and_then, ◌++◌, ◌∷◌}
use Rattle.std.specs.Str.{bytes_eq}
use Rattle.std.specs.Fmt.{decimal}
use Rattle.std.specs.Cmp.{unsigned_Decides}
use Rattle.std.proofs.lemmas.Bool.{and_parts, and_from}
use Rattle.std.proofs.lemmas.Slice.Eq.{slice_eq-Decides}
use Rattle.fx_base.specs.Same.{same_bytes}
use Rattle.fx_base.specs.SetName.{kind_of}
use Rattle.fx_base.specs.declared.set_name.SetKind.{SetKind}
use Rattle.fx_base.specs.declared.set_name.SetKind.TheVariants.{Nets, Ports}
use Rattle.fx_base.specs.declared.net.Ipv4.{Ipv4}
use Rattle.fx_base.specs.declared.net.Proto.{Proto}
use Rattle.fx_model.specs.declared.member.Member.{Member}
use Rattle.fx_model.specs.declared.member.Member.TheVariants as member
use Rattle.fx_model.specs.declared.chain.ChainRule.{ChainRule}
use Rattle.fx_model.specs.MemberTexts.{address_text, protocol_text, member_text}
use Rattle.fx_model.specs.Shapes.{has_shape, is_of, is_member_of}
use Rattle.fx_rows.specs.RowTexts.{rule_text}
use Rattle.fx_found.specs.Pieces.{piece, behind}
use Rattle.fx_found.specs.Values.{kept, up_to, protocol_in, address_in}
use Rattle.fx_found.specs.RuleRows.{rule_read, rule_of, IsRowRule, IsHeld}
use Rattle.fx_found.specs.MemberRows.{port_in, member_read, has_protocol, member_of, IsRowMember, AreHeld}
use Rattle.fx_found.proofs.PieceLemmas.{has, piece_marked, behind_marked}
use Rattle.fx_found.proofs.ValueForms.{address_read, address_free, protocol_read, protocol_free, net_read, bounded_read}
use Rattle.fx_found.proofs.RuleForms.{printed_rule_read}
use Rattle.fx_found.proofs.RuleReadings.{AreNamed, read_named}

pub same_text : (text : List ℕ) → bytes_eq text text ≡ true
same_text text = (slice_eq-Decides unsigned_Decides text text _ refl).1 refl

-- what is kept passes, and is what was there
kept_some : {A : Type 0} (test : A → Bool) (o : Option A) (x : A) → kept test o ≡ Some x → (o ≡ Some x) × (test x ≡ true)
kept_some test None x e = cc
kept_some test (Some y) x e = by (test y) refl e
  where
    by : (b : Bool) → test y ≡ b → (if b then Some y else None) ≡ Some x → (Some y ≡ Some x) × (test x ≡ true)
    by true passes is = (is, let same : y ≡ x = cc (is) in ap test (sym same) ∙ passes)
    by false fails is = cc (is)

kept_again : {A : Type 0} (test : A → Bool) (o : Option A) (x : A) → o ≡ Some x → test x ≡ true → kept test o ≡ Some x
kept_again test o x is passes = ap (kept test) is ∙ ap (λ (b : Bool). if b then Some x else None) passes

-- ---- rules

pub rule_printed : (text : List ℕ) (r : ChainRule) → rule_of text ≡ Some r → IsRowRule r × (rule_text r ≡ text)
unfolding rule_of
rule_printed text r e =
    let is = kept_some (λ s. has_shape s && bytes_eq (rule_text s) text) (rule_read text) r e in
    let parts = and_parts (has_shape r) (bytes_eq (rule_text r) text) is.1 in
    let named : AreNamed r = read_named text r is.0 in
    (record { untagged = named.untagged; shaped = parts.0; names = named.names; leads = named.leads }, same_bytes (rule_text r) text parts.1)

pub rule_read_back : (r : ChainRule) → IsRowRule r → IsHeld r → rule_of (rule_text r) ≡ Some r
unfolding rule_of
rule_read_back r is held =
    kept_again (λ s. has_shape s && bytes_eq (rule_text s) (rule_text r)) (rule_read (rule_text r)) r (printed_rule_read r is held)
    (and_from (has_shape r) (bytes_eq (rule_text r) (rule_text r)) is.shaped (same_text (rule_text r)))

-- ---- members

pub member_printed : (name text : List ℕ) (m : Member) → member_of name text ≡ Some m → IsRowMember name m × (member_text m ≡ text)
unfolding member_of
member_printed name text m e =
    let is = kept_some (λ x. is_member_of name x && (has_protocol x && bytes_eq (member_text x) text)) (member_read (kind_of name) text) m e in
    let parts = and_parts (is_member_of name m) (has_protocol m && bytes_eq (member_text m) text) is.1 in
    let later = and_parts (has_protocol m) (bytes_eq (member_text m) text) parts.1 in
    (record { kind = parts.0; numbered = later.0 }, same_bytes (member_text m) text later.1)

port_read : (address : Ipv4) (protocol : Proto) (number : ℕ) → address.0 < 2 ^ 32 → protocol.0 < 2 ^ 8 → number < 2 ^ 16 → port_in (member_text (member.PortAt address protocol number)) ≡ Some (member.PortAt address protocol number)
port_read address protocol number first second third =
    let port = protocol_text protocol ++ 58 ∷ decimal number in
    let text = address_text address ++ 44 ∷ port in
    let free : has 44 (address_text address) ≡ false = address_free 44 (lit≤ tt) refl address first in
    let other : has 58 (protocol_text protocol) ≡ false = protocol_free 58 (lit≤ tt) refl refl refl refl protocol second in
    let make = λ (a : Option Ipv4) (p : Option Proto) (n : Option ℕ). option_and_then (λ x. option_and_then (λ y. option_map (λ z. member.PortAt x y z) n) p) a in
    let front : piece 44 text ≡ address_text address = piece_marked 44 (address_text address) port free in
    let back : behind 44 text ≡ port = behind_marked 44 (address_text address) port free in
    let one : address_in (piece 44 text) ≡ Some address = ap address_in front ∙ address_read address first in
    let two : protocol_in (piece 58 (behind 44 text)) ≡ Some protocol = ap (λ (l : List ℕ). protocol_in (piece 58 l)) back ∙ ap protocol_in (piece_marked 58 (protocol_text protocol) (decimal number) other) ∙ protocol_read protocol second in
    let three : up_to 65535 (behind 58 (behind 44 text)) ≡ Some number = ap (λ (l : List ℕ). up_to 65535 (behind 58 l)) back ∙ ap (up_to 65535) (behind_marked 58 (protocol_text protocol) (decimal number) other) ∙ bounded_read 65535 number (omega (arith, third)) (omega (arith, third)) in
    λ i. make (one i) (two i) (three i)

member_read_back : (kind : SetKind) (m : Member) → is_of kind m ≡ true → AreHeld m → member_read kind (member_text m) ≡ Some m
member_read_back Nets (member.Net net) fits held = ap (option_map member.Net) (net_read net held)
member_read_back Nets (member.PortAt address protocol number) fits held = cc
member_read_back Ports (member.Net net) fits held = cc
member_read_back Ports (member.PortAt address protocol number) fits held = port_read address protocol number held.0 held.1 held.2

pub member_read_again : (name : List ℕ) (m : Member) → IsRowMember name m → AreHeld m → member_of name (member_text m) ≡ Some m
unfolding member_of
member_read_again name m is held =
    kept_again (λ x. is_member_of name x && (has_protocol x && bytes_eq (member_text x) (member_text m))) (member_read (kind_of name) (member_text m)) m (member_read_back (kind_of name) m is.kind held)
    (and_from (is_member_of name m) (has_protocol m && bytes_eq (member_text m) (member_text m)) is.kind (and_from (has_protocol m) (bytes_eq (member_text m) (member_text m)) is.numbered (same_text (member_text m))))
