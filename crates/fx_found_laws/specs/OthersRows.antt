-- What rows have to do with an operation: the rows of a set or a chain, by ipset(8) and iptables-save(8), and rules that
-- name one. A name is the longest run of bytes other than the space.
use Rattle.std.specs.Prelude.{◌≡◌, ℕ, List, Bool, false, ◌&&◌, ◌||◌, length, drop, nat_eq, codes}
use Rattle.std.specs.List.{AllByRecursion, list_any, starts_with}
use Rattle.std.specs.Str.{bytes_eq}
use Rattle.fx_model.specs.Tables.{ChainName}
use Rattle.fx_found.specs.Pieces.{word, words}
use Rattle.fx_reconcile.specs.declared.op.Op.{Op}
use Rattle.fx_reconcile.specs.declared.op.Op.TheVariants.{CreateSet, AddMember, WriteChain, DeleteChain, RemoveMember, DestroySet}

-- ---- the rows of a set or a chain

-- the row begins so, and the name stands behind that
abbrev pub has_name_behind : List ℕ → List ℕ → List ℕ → Bool
has_name_behind front name text = starts_with nat_eq text front && bytes_eq (word (drop (length front) text)) name

-- the row creates the set, or adds to it
abbrev pub is_row_of_set : List ℕ → List ℕ → Bool
is_row_of_set name text = has_name_behind (codes "create ") name text || has_name_behind (codes "add ") name text

-- the row is the chain's header, or one of its rules
abbrev pub is_row_of_chain : ChainName → List ℕ → Bool
is_row_of_chain name text = has_name_behind (codes ":") name text || has_name_behind (codes "-A ") name text

-- the row is one of the set or the chain that the operation names
abbrev pub is_row_of : Op → List ℕ → Bool
is_row_of (CreateSet name) text = is_row_of_set name text
is_row_of (AddMember name x) text = is_row_of_set name text
is_row_of (WriteChain name) text = is_row_of_chain name text
is_row_of (DeleteChain name) text = is_row_of_chain name text
is_row_of (RemoveMember name x) text = is_row_of_set name text
is_row_of (DestroySet name) text = is_row_of_set name text

-- none of these rows is one of a set or a chain that an operation names
abbrev pub AllLeaveRows : List (List ℕ) → List Op → Type 0
AllLeaveRows texts ops = AllByRecursion (λ op. AllByRecursion (λ text. is_row_of op text ≡ false) texts) ops

-- ---- rules that name a set or a chain

-- the row is a rule, and the name is one of its words
abbrev pub is_rule_with : List ℕ → List ℕ → Bool
is_rule_with name text = starts_with nat_eq text (codes "-A ") && list_any (bytes_eq name) (words text)

-- the row is a rule that names the set or the chain that the operation takes away
abbrev pub names_taken : Op → List ℕ → Bool
names_taken (CreateSet name) text = false
names_taken (AddMember name x) text = false
names_taken (WriteChain name) text = false
names_taken (DeleteChain name) text = is_rule_with name text
names_taken (RemoveMember name x) text = false
names_taken (DestroySet name) text = is_rule_with name text

-- none of these rows names a set or a chain that an operation takes away
abbrev pub AllLeaveNames : List (List ℕ) → List Op → Type 0
AllLeaveNames texts ops = AllByRecursion (λ op. AllByRecursion (λ text. names_taken op text ≡ false) texts) ops
