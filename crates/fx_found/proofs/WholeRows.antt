-- Own rows are read exactly where they print so.
use Rattle.std.proofs.Common.{◌≡◌, ◌<◌, ◌⊎◌, inl, inr, ℕ, Bool, true, false, ◌&&◌, List, [], ◌∷◌, ◌++◌, length, take, drop, nat_eq, Option, Some, None, refl, sym, ap, ◌∙◌, subst, arith, length-append, take-append-drop}
use Rattle.std.specs.Prelude.{codes, if◌then◌else◌, ◌==◌}
use Rattle.std.specs.List.{starts_with, list_all}
use Rattle.std.specs.Str.{bytes_eq}
use Rattle.std.specs.Fmt.{decimal}
use Rattle.std.proofs.lemmas.Bool.{and_parts, and_from, or_cases}
use Rattle.fx_base.specs.Same.{same_bytes, same_numbers}
use Rattle.fx_base.specs.SetName.{head_of}
use Rattle.fx_base.specs.declared.set_name.SetKind.TheVariants.{Nets, Ports}
use Rattle.fx_model.specs.declared.member.Member.{Member}
use Rattle.fx_model.specs.declared.member.Member.TheVariants as member
use Rattle.fx_model.specs.declared.chain.ChainRule.{ChainRule}
use Rattle.fx_model.specs.MemberTexts.{address_text, protocol_text, member_text, type_text}
use Rattle.fx_rows.specs.RowTexts.{create_text, add_text, header_text, rule_text, chain_rule_text}
use Rattle.fx_found.specs.declared.row.Row.{Row}
use Rattle.fx_found.specs.declared.row.Row.TheVariants as row
use Rattle.fx_found.specs.Pieces.{word, rest}
use Rattle.fx_found.specs.NameForms.{is_own_set, has_kind, is_set_name, is_own_chain, is_chain_name, is_tail_byte}
use Rattle.fx_found.specs.RuleRows.{rule_of, IsRowRule, IsHeld}
use Rattle.fx_found.specs.MemberRows.{member_of, IsRowMember, AreHeld}
use Rattle.fx_found.specs.OwnRows.{says_own, row_text, IsOwnRow, IsOwnChain, IsRowHeld}
use Rattle.fx_found.specs.Rows.{is_empty, named_row, own_create, added, own_add, own_header, ruled, own_rule, uses_own, create_row, add_row, header_row, rule_row, row_of}
use Rattle.fx_found.proofs.PieceLemmas.{piece_marked, behind_marked}
use Rattle.fx_found.proofs.NameLemmas.{set_name_free, chain_name_free}
use Rattle.fx_found.proofs.RuleForms.{few_matches}
use Rattle.fx_found.proofs.RowLaws.{same_text, rule_printed, rule_read_back, member_printed, member_read_again}

-- a text that begins so
begins_with : (needle text : List ℕ) → starts_with nat_eq text needle ≡ true → text ≡ needle ++ drop (length needle) text
begins_with needle text e =
    sym (take-append-drop (length needle) text) ∙ ap (λ (l : List ℕ). l ++ drop (length needle) text) (sym (same_bytes needle (take (length needle) text) e))

-- ---- printed rows are read

chosen : (b : Bool) (x y : Row) → b ≡ true → (if b then x else y) ≡ x
chosen b x y e = ap (λ (t : Bool). if t then x else y) e

own_set : (name : List ℕ) → is_set_name name ≡ true → is_own_set name ≡ true
own_set name is =
    elim (or_cases (starts_with nat_eq name (head_of Nets)) (starts_with nat_eq name (head_of Ports)) (and_parts (has_kind name) (nat_eq (length name) 31 && list_all is_tail_byte (drop 8 name)) is).0) [
      | inl nets ↦ ap is_own_set (begins_with (head_of Nets) name nets)
      | inr ports ↦ ap is_own_set (begins_with (head_of Ports) name ports)
    ]

named_own : (is_own : List ℕ → Bool) (foreign : Row) (own : List ℕ → Row) (name front : List ℕ) (c : ℕ) → name ≡ c ∷ front → is_own name ≡ true → named_row is_own foreign own name ≡ own name
named_own is_own foreign own name front c some mine =
    ap (λ (b : Bool). if b then row.Bad else (if is_own name then own name else foreign)) (ap is_empty some) ∙ chosen (is_own name) (own name) foreign mine

create_read : (name : List ℕ) → is_set_name name ≡ true → row_of (create_text name) ≡ row.Create name
unfolding row_of
create_read name is =
    ap (named_row is_own_set row.ForeignSet (own_create (create_text name))) (piece_marked 32 name (type_text name) (set_name_free name is))
    ∙ named_own is_own_set row.ForeignSet (own_create (create_text name)) name _ _ (begins_with (codes "cali40") name (own_set name is)) (own_set name is)
    ∙ chosen (is_set_name name && bytes_eq (create_text name) (create_text name)) (row.Create name) row.Bad (and_from _ _ is (same_text (create_text name)))

add_read : (name : List ℕ) (m : Member) → is_set_name name ≡ true → IsRowMember name m → AreHeld m → row_of (add_text name m) ≡ row.Add name m
unfolding row_of
add_read name m is fits held =
    let free = set_name_free name is in
    (λ i. named_row is_own_set row.ForeignSet (own_add (behind_marked 32 name (member_text m) free i)) (piece_marked 32 name (member_text m) free i))
    ∙ named_own is_own_set row.ForeignSet (own_add (member_text m)) name _ _ (begins_with (codes "cali40") name (own_set name is)) (own_set name is)
    ∙ chosen (is_set_name name) (added name (member_of name (member_text m))) row.Bad is
    ∙ ap (added name) (member_read_again name m fits held)

header_read : (chain : List ℕ) → IsOwnChain chain → row_of (header_text chain) ≡ row.Header chain
unfolding row_of
header_read chain is =
    ap (named_row is_own_chain row.ForeignHeader (own_header (header_text chain))) (piece_marked 32 chain (codes "- [0:0]") (chain_name_free chain is.1))
    ∙ named_own is_own_chain row.ForeignHeader (own_header (header_text chain)) chain _ _ (begins_with (codes "cali-") chain is.0) is.0
    ∙ chosen (is_chain_name chain && bytes_eq (header_text chain) (header_text chain)) (row.Header chain) row.Bad (and_from _ _ is.1 (same_text (header_text chain)))

rule_read_in : (chain : List ℕ) (r : ChainRule) → IsOwnChain chain → IsRowRule r → IsHeld r → row_of (chain_rule_text chain r) ≡ row.Rule chain r
unfolding row_of
rule_read_in chain r is rule held =
    let free = chain_name_free chain is.1 in
    let foreign = row.ForeignRule (uses_own (chain_rule_text chain r)) in
    (λ i. named_row is_own_chain (row.ForeignRule (uses_own (chain_rule_text chain r))) (own_rule (behind_marked 32 chain (rule_text r) free i)) (piece_marked 32 chain (rule_text r) free i))
    ∙ named_own is_own_chain (row.ForeignRule (uses_own (chain_rule_text chain r))) (own_rule (rule_text r)) chain _ _ (begins_with (codes "cali-") chain is.0) is.0
    ∙ chosen (is_chain_name chain) (ruled chain (rule_of (rule_text r))) row.Bad is.1
    ∙ ap (ruled chain) (rule_read_back r rule held)

pub own_row_read : (r : Row) → IsOwnRow r → IsRowHeld r → row_of (row_text r) ≡ r
own_row_read row.Bad is held = absurd is
own_row_read row.Filter is held = absurd is
own_row_read row.Commit is held = absurd is
own_row_read (row.Create name) is held = create_read name is
own_row_read (row.Add name m) is held = add_read name m is.0 is.1 held
own_row_read (row.Header chain) is held = header_read chain is
own_row_read (row.Rule chain r) is held = rule_read_in chain r is.0 is.1 held
own_row_read row.ForeignSet is held = absurd is
own_row_read row.ForeignHeader is held = absurd is
own_row_read (row.ForeignRule uses) is held = absurd is

-- ---- what is read is printed

-- a text is its first word, a space and the rest, or nothing stands behind its first word
word_or_all : (text : List ℕ) → (text ≡ word text ++ 32 ∷ rest text) ⊎ (rest text ≡ [])
word_or_all [] = inr refl
word_or_all (c ∷ cs) = by_first (c == 32) refl (word_or_all cs)
  where
    by_first : (b : Bool) → (c == 32) ≡ b → (cs ≡ word cs ++ 32 ∷ rest cs) ⊎ (rest cs ≡ []) → (c ∷ cs ≡ (if b then [] else c ∷ word cs) ++ 32 ∷ (if b then cs else rest cs)) ⊎ ((if b then cs else rest cs) ≡ [])
    by_first true e later = inl (ap (λ (n : ℕ). n ∷ cs) (same_numbers c 32 e))
    by_first false e (inl whole) = inl (ap (λ (l : List ℕ). c ∷ l) whole)
    by_first false e (inr none) = inr none

some_rest : (text later : List ℕ) → later ≡ rest text → 0 < length later → text ≡ word text ++ 32 ∷ later
some_rest text later e some =
    elim (word_or_all text) [
      | inl whole ↦ whole ∙ ap (λ (l : List ℕ). word text ++ 32 ∷ l) (sym e)
      | inr none ↦ absurd (omega (arith, some, ap length (e ∙ none)))
    ]

-- an own row of this kind prints as the text
abbrev IsPrinted : List ℕ → Row → Type 0
IsPrinted text row.Bad = Unit {0}
IsPrinted text row.Filter = Unit {0}
IsPrinted text row.Commit = Unit {0}
IsPrinted text (row.Create name) = (is_set_name name ≡ true) × (create_text name ≡ text)
IsPrinted text (row.Add name m) = ((is_set_name name ≡ true) × IsRowMember name m) × (add_text name m ≡ text)
IsPrinted text (row.Header chain) = IsOwnChain chain × (header_text chain ≡ text)
IsPrinted text (row.Rule chain r) = (IsOwnChain chain × IsRowRule r) × (chain_rule_text chain r ≡ text)
IsPrinted text row.ForeignSet = Unit {0}
IsPrinted text row.ForeignHeader = Unit {0}
IsPrinted text (row.ForeignRule uses) = Unit {0}

given : (text : List ℕ) (b : Bool) (x y : Row) → (b ≡ true → IsPrinted text x) → IsPrinted text y → IsPrinted text (if b then x else y)
given text true x y first second = first refl
given text false x y first second = second

named_printed : (text : List ℕ) (is_own : List ℕ → Bool) (foreign : Row) (own : List ℕ → Row) (name : List ℕ) → IsPrinted text foreign → (is_own name ≡ true → IsPrinted text (own name)) → IsPrinted text (named_row is_own foreign own name)
named_printed text is_own foreign own name other mine =
    given text (is_empty name) row.Bad (if is_own name then own name else foreign) (λ e. tt) (given text (is_own name) (own name) foreign mine other)

create_printed : (text name : List ℕ) → IsPrinted text (own_create text name)
create_printed text name =
    given text (is_set_name name && bytes_eq (create_text name) text) (row.Create name) row.Bad
    (λ e. let parts = and_parts (is_set_name name) (bytes_eq (create_text name) text) e in (parts.0, same_bytes (create_text name) text parts.1)) tt

header_printed : (text chain : List ℕ) → is_own_chain chain ≡ true → IsPrinted text (own_header text chain)
header_printed text chain own =
    given text (is_chain_name chain && bytes_eq (header_text chain) text) (row.Header chain) row.Bad
    (λ e. let parts = and_parts (is_chain_name chain) (bytes_eq (header_text chain) text) e in ((own, parts.0), same_bytes (header_text chain) text parts.1)) tt

some_member : (m : Member) → 0 < length (member_text m)
some_member (member.Net net) = omega (arith, length-append (address_text net.addr) (codes "/" ++ decimal net.len))
some_member (member.PortAt address protocol number) = omega (arith, length-append (address_text address) (codes "," ++ (protocol_text protocol ++ (codes ":" ++ decimal number))))

added_printed : (text t : List ℕ) → text ≡ codes "add " ++ t → is_set_name (word t) ≡ true → (o : Option Member) → member_of (word t) (rest t) ≡ o → IsPrinted text (added (word t) o)
added_printed text t begins named None e = tt
added_printed text t begins named (Some m) e =
    let is = member_printed (word t) (rest t) m e in
    ((named, is.0), sym (begins ∙ ap (λ (l : List ℕ). codes "add " ++ l) (some_rest t (member_text m) is.1 (some_member m))))

ruled_printed : (text t : List ℕ) → text ≡ codes "-A " ++ t → IsOwnChain (word t) → (o : Option ChainRule) → rule_of (rest t) ≡ o → IsPrinted text (ruled (word t) o)
ruled_printed text t begins named None e = tt
ruled_printed text t begins named (Some r) e =
    let is = rule_printed (rest t) r e in
    let few = few_matches r.matches r.target in
    ((named, is.0), sym (begins ∙ ap (λ (l : List ℕ). codes "-A " ++ l) (some_rest t (rule_text r) is.1 (omega (arith, few)))))

add_printed : (text : List ℕ) → starts_with nat_eq text (codes "add ") ≡ true → IsPrinted text (add_row text)
add_printed text e =
    let t = drop 4 text in
    named_printed text is_own_set row.ForeignSet (own_add (rest t)) (word t) tt
    (λ own. given text (is_set_name (word t)) (added (word t) (member_of (word t) (rest t))) row.Bad (λ named. added_printed text (drop 4 text) (begins_with (codes "add ") text e) named (member_of (word t) (rest t)) refl) tt)

chain_printed : (text : List ℕ) → starts_with nat_eq text (codes "-A ") ≡ true → IsPrinted text (rule_row text)
chain_printed text e =
    let t = drop 3 text in
    named_printed text is_own_chain (row.ForeignRule (uses_own text)) (own_rule (rest t)) (word t) tt
    (λ own. given text (is_chain_name (word t)) (ruled (word t) (rule_of (rest t))) row.Bad (λ named. ruled_printed text (drop 3 text) (begins_with (codes "-A ") text e) (own, named) (rule_of (rest t)) refl) tt)

is_printed : (text : List ℕ) → IsPrinted text (row_of text)
unfolding row_of
is_printed text =
    let rules : Row = if starts_with nat_eq text (codes "-A ") then rule_row text else row.Bad in
    let headers : Row = if starts_with nat_eq text (codes ":") then header_row text else rules in
    let adds : Row = if starts_with nat_eq text (codes "add ") then add_row text else headers in
    let creates : Row = if starts_with nat_eq text (codes "create ") then create_row text else adds in
    let commit : Row = if bytes_eq text (codes "COMMIT") then row.Commit else creates in
    given text (bytes_eq text (codes "*filter")) row.Filter commit (λ e. tt)
    (given text (bytes_eq text (codes "COMMIT")) row.Commit creates (λ e. tt)
    (given text (starts_with nat_eq text (codes "create ")) (create_row text) adds (λ e. named_printed text is_own_set row.ForeignSet (own_create text) (word (drop 7 text)) tt (λ own. create_printed text (word (drop 7 text))))
    (given text (starts_with nat_eq text (codes "add ")) (add_row text) headers (add_printed text)
    (given text (starts_with nat_eq text (codes ":")) (header_row text) rules (λ e. named_printed text is_own_chain row.ForeignHeader (own_header text) (word (drop 1 text)) tt (header_printed text (word (drop 1 text))))
    (given text (starts_with nat_eq text (codes "-A ")) (rule_row text) row.Bad (chain_printed text) tt)))))

as_own : (text : List ℕ) (r : Row) → says_own r ≡ true → IsPrinted text r → IsOwnRow r × (row_text r ≡ text)
as_own text row.Bad own is = cc
as_own text row.Filter own is = cc
as_own text row.Commit own is = cc
as_own text (row.Create name) own is = is
as_own text (row.Add name m) own is = is
as_own text (row.Header chain) own is = is
as_own text (row.Rule chain r) own is = is
as_own text row.ForeignSet own is = cc
as_own text row.ForeignHeader own is = cc
as_own text (row.ForeignRule uses) own is = cc

pub own_row_printed : (text : List ℕ) (r : Row) → row_of text ≡ r → says_own r ≡ true → IsOwnRow r × (row_text r ≡ text)
own_row_printed text r e own = as_own text r own (subst (IsPrinted text) e (is_printed text))
