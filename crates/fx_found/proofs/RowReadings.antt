-- What is read of a row: a member that its set takes, a rule with the shape of rules.
use Rattle.std.proofs.Common.{◌≡◌, Bool, true, false, ◌&&◌, List, [], ◌∷◌, map, drop, nat_eq, Option, Some, None}
use Rattle.std.specs.Prelude.{ℕ, if◌then◌else◌, codes}
use Rattle.std.specs.List.{AllByRecursion, starts_with}
use Rattle.std.specs.Str.{bytes_eq}
use Rattle.std.proofs.lemmas.Bool.{and_parts}
use Rattle.fx_base.specs.SetName.{kind_of}
use Rattle.fx_model.specs.declared.member.Member.{Member}
use Rattle.fx_model.specs.declared.chain.ChainRule.{ChainRule}
use Rattle.fx_model.specs.MemberTexts.{member_text}
use Rattle.fx_model.specs.Shapes.{has_shape, is_member_of}
use Rattle.fx_rows.specs.RowTexts.{create_text, header_text, rule_text}
use Rattle.fx_found.specs.declared.row.Row.{Row}
use Rattle.fx_found.specs.declared.row.Row.TheVariants as row
use Rattle.fx_found.specs.Pieces.{word, rest}
use Rattle.fx_found.specs.Values.{kept}
use Rattle.fx_found.specs.NameForms.{is_own_set, is_set_name, is_own_chain, is_chain_name}
use Rattle.fx_found.specs.RuleRows.{rule_read, rule_of}
use Rattle.fx_found.specs.MemberRows.{member_read, has_protocol, member_of}
use Rattle.fx_found.specs.ReadRows.{IsReadRow}
use Rattle.fx_found.specs.Rows.{is_empty, uses_own, named_row, own_create, added, own_add, own_header, ruled, own_rule, create_row, add_row, header_row, rule_row, row_of}
use Rattle.fx_found.proofs.RuleReadings.{Every, every_kept}

every_passes : {A : Type 0} (test : A → Bool) (o : Option A) → Every (λ x. test x ≡ true) (kept test o)
every_passes test None = tt
every_passes test (Some x) = every_kept (λ y. test y ≡ true) (test x) x (λ e. e)

every_weaker : {A : Type 0} (P Q : A → Type 0) → ((x : A) → P x → Q x) → (o : Option A) → Every P o → Every Q o
every_weaker P Q weaker None is = tt
every_weaker P Q weaker (Some x) is = weaker x is

member_fits : (name text : List ℕ) → Every (λ m. is_member_of name m ≡ true) (member_of name text)
unfolding member_of
member_fits name text =
    every_weaker (λ m. (is_member_of name m && (has_protocol m && bytes_eq (member_text m) text)) ≡ true) (λ m. is_member_of name m ≡ true)
    (λ m e. (and_parts (is_member_of name m) (has_protocol m && bytes_eq (member_text m) text) e).0)
    (member_of name text) (every_passes (λ m. is_member_of name m && (has_protocol m && bytes_eq (member_text m) text)) (member_read (kind_of name) text))

rule_fits : (text : List ℕ) → Every (λ r. has_shape r ≡ true) (rule_of text)
unfolding rule_of
rule_fits text =
    every_weaker (λ r. (has_shape r && bytes_eq (rule_text r) text) ≡ true) (λ r. has_shape r ≡ true)
    (λ r e. (and_parts (has_shape r) (bytes_eq (rule_text r) text) e).0)
    (rule_of text) (every_passes (λ r. has_shape r && bytes_eq (rule_text r) text) (rule_read text))

-- ---- rows

choice_read : (b : Bool) (x y : Row) → IsReadRow x → IsReadRow y → IsReadRow (if b then x else y)
choice_read true x y first second = first
choice_read false x y first second = second

added_read : (name : List ℕ) (o : Option Member) → Every (λ m. is_member_of name m ≡ true) o → IsReadRow (added name o)
added_read name None is = tt
added_read name (Some m) is = is

ruled_read : (name : List ℕ) (o : Option ChainRule) → Every (λ r. has_shape r ≡ true) o → IsReadRow (ruled name o)
ruled_read name None is = tt
ruled_read name (Some r) is = is

named_row_read : (is_own : List ℕ → Bool) (foreign : Row) (own : List ℕ → Row) (name : List ℕ) → IsReadRow foreign → ((n : List ℕ) → IsReadRow (own n)) → IsReadRow (named_row is_own foreign own name)
named_row_read is_own foreign own name other mine =
    choice_read (is_empty name) row.Bad (if is_own name then own name else foreign) tt (choice_read (is_own name) (own name) foreign (mine name) other)

own_create_read : (text name : List ℕ) → IsReadRow (own_create text name)
own_create_read text name = choice_read (is_set_name name && bytes_eq (create_text name) text) (row.Create name) row.Bad tt tt

own_add_read : (text name : List ℕ) → IsReadRow (own_add text name)
own_add_read text name =
    choice_read (is_set_name name) (added name (member_of name text)) row.Bad (added_read name (member_of name text) (member_fits name text)) tt

own_header_read : (text name : List ℕ) → IsReadRow (own_header text name)
own_header_read text name = choice_read (is_chain_name name && bytes_eq (header_text name) text) (row.Header name) row.Bad tt tt

own_rule_read : (text name : List ℕ) → IsReadRow (own_rule text name)
own_rule_read text name =
    choice_read (is_chain_name name) (ruled name (rule_of text)) row.Bad (ruled_read name (rule_of text) (rule_fits text)) tt

pub row_read : (text : List ℕ) → IsReadRow (row_of text)
unfolding row_of
row_read text =
    let rules : Row = if starts_with nat_eq text (codes "-A ") then rule_row text else row.Bad in
    let headers : Row = if starts_with nat_eq text (codes ":") then header_row text else rules in
    let adds : Row = if starts_with nat_eq text (codes "add ") then add_row text else headers in
    let creates : Row = if starts_with nat_eq text (codes "create ") then create_row text else adds in
    let commit : Row = if bytes_eq text (codes "COMMIT") then row.Commit else creates in
    choice_read (bytes_eq text (codes "*filter")) row.Filter commit tt
    (choice_read (bytes_eq text (codes "COMMIT")) row.Commit creates tt
    (choice_read (starts_with nat_eq text (codes "create ")) (create_row text) adds (named_row_read is_own_set row.ForeignSet (own_create text) (word (drop 7 text)) tt (own_create_read text))
    (choice_read (starts_with nat_eq text (codes "add ")) (add_row text) headers (named_row_read is_own_set row.ForeignSet (own_add (rest (drop 4 text))) (word (drop 4 text)) tt (own_add_read (rest (drop 4 text))))
    (choice_read (starts_with nat_eq text (codes ":")) (header_row text) rules (named_row_read is_own_chain row.ForeignHeader (own_header text) (word (drop 1 text)) tt (own_header_read text))
    (choice_read (starts_with nat_eq text (codes "-A ")) (rule_row text) row.Bad (named_row_read is_own_chain (row.ForeignRule (uses_own text)) (own_rule (rest (drop 3 text))) (word (drop 3 text)) tt (own_rule_read (rest (drop 3 text)))) tt)))))

pub rows_read : (texts : List (List ℕ)) → AllByRecursion IsReadRow (map row_of texts)
rows_read [] = tt
rows_read (text ∷ texts) = (row_read text, rows_read texts)
