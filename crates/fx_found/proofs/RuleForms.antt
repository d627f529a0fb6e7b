-- What the printed form of a rule is read as: the rule.
use Rattle.std.proofs.Common.{◌≡◌, ◌<◌, ◌-◌, ◌^◌, ℕ, zero, suc, Bool, true, false, ◌&&◌, not, List, [], ◌∷◌, ◌++◌, length, take, drop, Option, Some, None, refl, sym, ap, ◌∙◌, arith, lit≤, append-nil, append_assoc, length-append, take_at, drop_at}
use Rattle.std.specs.Prelude.{if◌then◌else◌, codes, option_map}
use Rattle.std.specs.List.{AllByRecursion}
use Rattle.std.specs.Str.{bytes_eq}
use Rattle.fx_base.specs.SetName.{kind_of}
use Rattle.fx_base.specs.declared.set_name.SetKind.{SetKind}
use Rattle.fx_base.specs.declared.set_name.SetKind.TheVariants.{Nets, Ports}
use Rattle.fx_base.specs.declared.net.Net.{Net}
use Rattle.fx_base.specs.declared.net.PortRange.{PortRange}
use Rattle.fx_base.specs.declared.net.Proto.{Proto}
use Rattle.fx_model.specs.declared.rules.Icmp.{Icmp}
use Rattle.fx_model.specs.declared.chain.End.{End}
use Rattle.fx_model.specs.declared.chain.End.TheVariants.{Source, Dest}
use Rattle.fx_model.specs.declared.chain.Match.{Match}
use Rattle.fx_model.specs.declared.chain.Match.TheVariants as match
use Rattle.fx_model.specs.declared.chain.Target.{Target}
use Rattle.fx_model.specs.declared.chain.Target.TheVariants as target
use Rattle.fx_model.specs.declared.chain.Tag.{Tag}
use Rattle.fx_model.specs.declared.chain.Tag.TheVariants as tag
use Rattle.fx_model.specs.declared.chain.ChainRule.{ChainRule}
use Rattle.fx_model.specs.MemberTexts.{net_text, protocol_text}
use Rattle.fx_model.specs.MatchTexts.{not_sign, set_flags, wild_sign, mark_text, ranges_text, icmp_text, match_text}
use Rattle.fx_model.specs.TableTexts.{matches_text, target_text}
use Rattle.fx_rows.specs.RowTexts.{rule_text}
use Rattle.fx_found.specs.declared.rules.RulePart.TheVariants as part
use Rattle.fx_found.specs.Pieces.{word, rest}
use Rattle.fx_found.specs.Values.{mark_in, protocol_in, icmp_in, net_in, ranges_in}
use Rattle.fx_found.specs.NameForms.{is_set_name, is_target_name}
use Rattle.fx_found.specs.RuleRows.{ends_wild, iface_match, end_of_flags, field_match, set_match, module_match, named_chain, jump_in, matched, aimed, module_in, option_in, part_in, taken, rule_after, rule_read, HasRowNames, LeadsByName, IsRowRule, IsRangeHeld, IsCodeHeld, AreNumbersHeld, IsMarkHeld, IsHeld}
use Rattle.fx_found.proofs.PieceLemmas.{has, piece_marked, behind_marked, piece_whole, free_append}
use Rattle.fx_found.proofs.ValueForms.{mark_read, mark_free, protocol_read, protocol_free, icmp_read, icmp_free, net_read, net_free, ranges_read, ranges_free}
use Rattle.fx_found.proofs.NameLemmas.{set_name_free, target_name_free, is_no_word}

chosen : {A : Type 0} (b : Bool) (x y : A) → b ≡ true → (if b then x else y) ≡ x
chosen b x y e = ap (λ (t : Bool). if t then x else y) e

left_out : {A : Type 0} (b : Bool) (x y : A) → b ≡ false → (if b then x else y) ≡ y
left_out b x y e = ap (λ (t : Bool). if t then x else y) e

-- ---- a value, a space and what follows

-- what is read of the first word, where that is a value
with_word : {A : Type 0} (read : List ℕ → Option A) (make : A → Match) (value later : List ℕ) (x : A) → has 32 value ≡ false → read value ≡ Some x → matched (rest (value ++ 32 ∷ later)) (option_map make (read (word (value ++ 32 ∷ later)))) ≡ Some (part.Match (make x), later)
with_word read make value later x free is =
    (λ i. matched (behind_marked 32 value later free i) (option_map make (read (piece_marked 32 value later free i))))
    ∙ ap (λ o. matched later (option_map make o)) is

-- the same of what is always read
with_any : (make : List ℕ → Match) (value later : List ℕ) → has 32 value ≡ false → matched (rest (value ++ 32 ∷ later)) (Some (make (word (value ++ 32 ∷ later)))) ≡ Some (part.Match (make value), later)
with_any make value later free = λ i. matched (behind_marked 32 value later free i) (Some (make (piece_marked 32 value later free i)))

-- ---- protocols and nets

proto_part : (p : Proto) (opposite : Bool) (later : List ℕ) → p.0 < 2 ^ 8 → part_in (match_text (match.Proto p opposite) ++ 32 ∷ later) ≡ Some (part.Match (match.Proto p opposite), later)
unfolding part_in option_in field_match
proto_part p true later held = with_word protocol_in (λ q. match.Proto q true) (protocol_text p) later p (protocol_free 32 (lit≤ tt) refl refl refl refl p held) (protocol_read p held)
proto_part p false later held = with_word protocol_in (λ q. match.Proto q false) (protocol_text p) later p (protocol_free 32 (lit≤ tt) refl refl refl refl p held) (protocol_read p held)

net_part : (end : End) (n : Net) (opposite : Bool) (later : List ℕ) → n.addr.0 < 2 ^ 32 → part_in (match_text (match.Net end n opposite) ++ 32 ∷ later) ≡ Some (part.Match (match.Net end n opposite), later)
unfolding part_in option_in field_match
net_part Source n true later held = with_word net_in (λ m. match.Net Source m true) (net_text n) later n (net_free 32 (lit≤ tt) refl refl n held) (net_read n held)
net_part Source n false later held = with_word net_in (λ m. match.Net Source m false) (net_text n) later n (net_free 32 (lit≤ tt) refl refl n held) (net_read n held)
net_part Dest n true later held = with_word net_in (λ m. match.Net Dest m true) (net_text n) later n (net_free 32 (lit≤ tt) refl refl n held) (net_read n held)
net_part Dest n false later held = with_word net_in (λ m. match.Net Dest m false) (net_text n) later n (net_free 32 (lit≤ tt) refl refl n held) (net_read n held)

-- ---- interfaces

wild_ends : (name : List ℕ) → ends_wild (name ++ codes "+") ≡ true
wild_ends name =
    let n : length (name ++ codes "+") - 1 ≡ length name = omega (arith, length-append name (codes "+")) in
    (λ i. bytes_eq (codes "+") (drop (n i) (name ++ codes "+"))) ∙ ap (bytes_eq (codes "+")) (drop_at name (codes "+") (length name) refl)

wild_name : (name : List ℕ) → take (length (name ++ codes "+") - 1) (name ++ codes "+") ≡ name
wild_name name =
    let n : length (name ++ codes "+") - 1 ≡ length name = omega (arith, length-append name (codes "+")) in
    ap (λ k. take k (name ++ codes "+")) n ∙ take_at name (codes "+") (length name) refl

tame : (b : Bool) → (b && not false) ≡ false → b ≡ false
tame true e = e
tame false e = refl

iface_read : (end : End) (name : List ℕ) (wild : Bool) → (ends_wild name && not wild) ≡ false → iface_match end (name ++ wild_sign wild) ≡ match.Iface end name wild
iface_read end name true e =
    chosen (ends_wild (name ++ codes "+")) (match.Iface end (take (length (name ++ codes "+") - 1) (name ++ codes "+")) true) (match.Iface end (name ++ codes "+") false) (wild_ends name)
    ∙ ap (λ n. match.Iface end n true) (wild_name name)
iface_read end name false e =
    ap (iface_match end) (append-nil name)
    ∙ left_out (ends_wild name) (match.Iface end (take (length name - 1) name) true) (match.Iface end name false) (tame (ends_wild name) e)

sign_free : (wild : Bool) → has 32 (wild_sign wild) ≡ false
sign_free true = refl
sign_free false = refl

iface_part : (end : End) (name : List ℕ) (wild : Bool) (later : List ℕ) → has 32 name ≡ false → (ends_wild name && not wild) ≡ false → part_in (match_text (match.Iface end name wild) ++ 32 ∷ later) ≡ Some (part.Match (match.Iface end name wild), later)
unfolding part_in option_in field_match
iface_part Source name wild later free e =
    with_any (iface_match Source) (name ++ wild_sign wild) later (free_append 32 name (wild_sign wild) free (sign_free wild))
    ∙ ap (λ m. Some (part.Match m, later)) (iface_read Source name wild e)
iface_part Dest name wild later free e =
    with_any (iface_match Dest) (name ++ wild_sign wild) later (free_append 32 name (wild_sign wild) free (sign_free wild))
    ∙ ap (λ m. Some (part.Match m, later)) (iface_read Dest name wild e)

-- ---- marks and states

mark_part : (value mask : ℕ) (later : List ℕ) → value < 2 ^ 32 → mask < 2 ^ 32 → part_in (match_text (match.Mark value mask) ++ 32 ∷ later) ≡ Some (part.Match (match.Mark value mask), later)
unfolding part_in option_in module_in module_match
mark_part value mask later first second =
    with_word mark_in (λ m. match.Mark m.0 m.1) (mark_text value mask) later (value, mask) (mark_free 32 value mask (lit≤ tt) refl refl first second) (mark_read value mask first second)

state_part : (related : Bool) (later : List ℕ) → part_in (match_text (match.State related) ++ 32 ∷ later) ≡ Some (part.Match (match.State related), later)
unfolding part_in option_in module_in module_match
state_part true later = refl
state_part false later = refl

-- ---- sets

set_values : (opposite : Bool) (end : End) (name flag later : List ℕ) → is_set_name name ≡ true → has 32 flag ≡ false → end_of_flags flag ≡ end → (values : List ℕ) → values ≡ (name ++ 32 ∷ flag) ++ 32 ∷ later → matched (rest (rest values)) (set_match opposite (word values) (word (rest values))) ≡ Some (part.Match (match.Set end name opposite), later)
set_values opposite end name flag later is free ends values e =
    let free_name = set_name_free name is in
    let whole : values ≡ name ++ 32 ∷ (flag ++ 32 ∷ later) = e ∙ append_assoc name (32 ∷ flag) (32 ∷ later) in
    let first : word values ≡ name = ap word whole ∙ piece_marked 32 name (flag ++ 32 ∷ later) free_name in
    let flags : rest values ≡ flag ++ 32 ∷ later = ap rest whole ∙ behind_marked 32 name (flag ++ 32 ∷ later) free_name in
    let second : word (rest values) ≡ flag = ap word flags ∙ piece_marked 32 flag later free in
    let behind_both : rest (rest values) ≡ later = ap rest flags ∙ behind_marked 32 flag later free in
    (λ i. matched (behind_both i) (set_match opposite (first i) (second i)))
    ∙ ap (matched later) (chosen (is_set_name name) (Some (match.Set (end_of_flags flag) name opposite)) None is)
    ∙ ap (λ d. Some (part.Match (match.Set d name opposite), later)) ends

set_of_kind : (kind : SetKind) (end : End) (name : List ℕ) (opposite : Bool) (later : List ℕ) → is_set_name name ≡ true → part_in ((codes "-m set " ++ (not_sign opposite ++ (codes "--match-set " ++ (name ++ set_flags kind end)))) ++ 32 ∷ later) ≡ Some (part.Match (match.Set end name opposite), later)
unfolding part_in option_in module_in
set_of_kind Nets Source name true later is = set_values true Source name (codes "src") later is refl refl _ refl
set_of_kind Nets Source name false later is = set_values false Source name (codes "src") later is refl refl _ refl
set_of_kind Nets Dest name true later is = set_values true Dest name (codes "dst") later is refl refl _ refl
set_of_kind Nets Dest name false later is = set_values false Dest name (codes "dst") later is refl refl _ refl
set_of_kind Ports Source name true later is = set_values true Source name (codes "src,src") later is refl refl _ refl
set_of_kind Ports Source name false later is = set_values false Source name (codes "src,src") later is refl refl _ refl
set_of_kind Ports Dest name true later is = set_values true Dest name (codes "dst,dst") later is refl refl _ refl
set_of_kind Ports Dest name false later is = set_values false Dest name (codes "dst,dst") later is refl refl _ refl

-- ---- ports and ICMP

ports_part : (end : End) (list : List PortRange) (opposite : Bool) (later : List ℕ) → AllByRecursion IsRangeHeld list → part_in (match_text (match.Ports end list opposite) ++ 32 ∷ later) ≡ Some (part.Match (match.Ports end list opposite), later)
unfolding part_in option_in module_in module_match
ports_part Source list true later held = with_word ranges_in (λ l. match.Ports Source l true) (ranges_text list) later list (ranges_free 32 (lit≤ tt) refl refl list held) (ranges_read list held)
ports_part Source list false later held = with_word ranges_in (λ l. match.Ports Source l false) (ranges_text list) later list (ranges_free 32 (lit≤ tt) refl refl list held) (ranges_read list held)
ports_part Dest list true later held = with_word ranges_in (λ l. match.Ports Dest l true) (ranges_text list) later list (ranges_free 32 (lit≤ tt) refl refl list held) (ranges_read list held)
ports_part Dest list false later held = with_word ranges_in (λ l. match.Ports Dest l false) (ranges_text list) later list (ranges_free 32 (lit≤ tt) refl refl list held) (ranges_read list held)

icmp_part : (m : Icmp) (opposite : Bool) (later : List ℕ) → m.kind < 2 ^ 8 → IsCodeHeld m.code → part_in (match_text (match.Icmp m opposite) ++ 32 ∷ later) ≡ Some (part.Match (match.Icmp m opposite), later)
unfolding part_in option_in module_in module_match
icmp_part m true later kind code = with_word icmp_in (λ n. match.Icmp n true) (icmp_text m) later m (icmp_free 32 (lit≤ tt) refl m kind code) (icmp_read m kind code)
icmp_part m false later kind code = with_word icmp_in (λ n. match.Icmp n false) (icmp_text m) later m (icmp_free 32 (lit≤ tt) refl m kind code) (icmp_read m kind code)

-- ---- each match

match_part : (m : Match) (later : List ℕ) → HasRowNames m → AreNumbersHeld m → part_in (match_text m ++ 32 ∷ later) ≡ Some (part.Match m, later)
match_part (match.Proto p opposite) later names held = proto_part p opposite later held
match_part (match.Net end n opposite) later names held = net_part end n opposite later held
match_part (match.Iface end name wild) later names held = iface_part end name wild later names.0 names.1
match_part (match.Mark value mask) later names held = mark_part value mask later held.0 held.1
match_part (match.State related) later names held = state_part related later
match_part (match.Set end name opposite) later names held = set_of_kind (kind_of name) end name opposite later names
match_part (match.Ports end list opposite) later names held = ports_part end list opposite later held
match_part (match.Icmp m opposite) later names held = icmp_part m opposite later held.0 held.1

-- ---- the target

jump_read : (chain : List ℕ) → is_target_name chain ≡ true → jump_in chain ≡ Some (target.Jump chain)
unfolding jump_in
jump_read chain is =
    let none = is_no_word chain is in
    let whole : word chain ≡ chain = piece_whole 32 chain (target_name_free chain is) in
    ap (λ (w : List ℕ). if bytes_eq w (codes "ACCEPT") then Some target.Accept else (if bytes_eq w (codes "DROP") then Some target.Drop else (if bytes_eq w (codes "RETURN") then Some target.Return else (if bytes_eq w (codes "LOG") then Some target.Log else (if bytes_eq w (codes "MARK") then option_map (λ m. target.Mark m.0 m.1) (mark_in (word (rest (rest chain)))) else option_map target.Jump (named_chain w)))))) whole
    ∙ left_out (bytes_eq chain (codes "ACCEPT")) (Some target.Accept) _ none.no_accept
    ∙ left_out (bytes_eq chain (codes "DROP")) (Some target.Drop) _ none.no_drop
    ∙ left_out (bytes_eq chain (codes "RETURN")) (Some target.Return) _ none.no_return
    ∙ left_out (bytes_eq chain (codes "LOG")) (Some target.Log) _ none.no_log
    ∙ left_out (bytes_eq chain (codes "MARK")) (option_map (λ m. target.Mark m.0 m.1) (mark_in (word (rest (rest chain))))) (option_map target.Jump (named_chain chain)) none.no_mark
    ∙ ap (option_map target.Jump) (chosen (is_target_name chain) (Some chain) None is)

accept_part : part_in (target_text target.Accept) ≡ Some (part.Target target.Accept, [])
unfolding part_in option_in jump_in
accept_part = refl

drop_part : part_in (target_text target.Drop) ≡ Some (part.Target target.Drop, [])
unfolding part_in option_in jump_in
drop_part = refl

return_part : part_in (target_text target.Return) ≡ Some (part.Target target.Return, [])
unfolding part_in option_in jump_in
return_part = refl

log_part : part_in (target_text target.Log) ≡ Some (part.Target target.Log, [])
unfolding part_in option_in jump_in
log_part = refl

jump_part : (chain : List ℕ) → is_target_name chain ≡ true → part_in (target_text (target.Jump chain)) ≡ Some (part.Target (target.Jump chain), [])
unfolding part_in option_in
jump_part chain is = ap aimed (jump_read chain is)

goto_part : (chain : List ℕ) → is_target_name chain ≡ true → part_in (target_text (target.Goto chain)) ≡ Some (part.Target (target.Goto chain), [])
unfolding part_in option_in
goto_part chain is =
    ap (λ (w : List ℕ). aimed (option_map target.Goto (named_chain w))) (piece_whole 32 chain (target_name_free chain is))
    ∙ ap (λ o. aimed (option_map target.Goto o)) (chosen (is_target_name chain) (Some chain) None is)

mark_read_in : (value mask : ℕ) → value < 2 ^ 32 → mask < 2 ^ 32 → jump_in (codes "MARK --set-xmark " ++ mark_text value mask) ≡ Some (target.Mark value mask)
unfolding jump_in
mark_read_in value mask first second =
    ap (λ (w : List ℕ). option_map (λ m. target.Mark m.0 m.1) (mark_in w)) (piece_whole 32 (mark_text value mask) (mark_free 32 value mask (lit≤ tt) refl refl first second))
    ∙ ap (option_map (λ m. target.Mark m.0 m.1)) (mark_read value mask first second)

mark_target_part : (value mask : ℕ) → value < 2 ^ 32 → mask < 2 ^ 32 → part_in (target_text (target.Mark value mask)) ≡ Some (part.Target (target.Mark value mask), [])
unfolding part_in option_in
mark_target_part value mask first second = ap aimed (mark_read_in value mask first second)

target_part : (t : Target) → LeadsByName t → IsMarkHeld t → part_in (target_text t) ≡ Some (part.Target t, [])
target_part target.Accept names held = accept_part
target_part target.Drop names held = drop_part
target_part target.Return names held = return_part
target_part (target.Jump chain) names held = jump_part chain names
target_part (target.Goto chain) names held = goto_part chain names
target_part (target.Mark value mask) names held = mark_target_part value mask held.0 held.1
target_part target.Log names held = log_part

-- ---- all parts

-- the first match, a space, and the other parts
first_apart : (m : Match) (ms : List Match) (t : Target) → matches_text (m ∷ ms) ++ target_text t ≡ match_text m ++ 32 ∷ (matches_text ms ++ target_text t)
first_apart m ms t =
    append_assoc (match_text m ++ codes " ") (matches_text ms) (target_text t) ∙ append_assoc (match_text m) (codes " ") (matches_text ms ++ target_text t)

parts_read : (n : ℕ) (ms : List Match) (t : Target) → length ms < n → AllByRecursion HasRowNames ms → LeadsByName t → AllByRecursion AreNumbersHeld ms → IsMarkHeld t → (before : List Match) → rule_after n before (matches_text ms ++ target_text t) ≡ Some (record { matches = before ++ ms; target = t; tag = tag.Plain })
parts_read zero ms t enough names leads held mark before = absurd (omega (arith, enough))
parts_read (suc n) [] t enough names leads held mark before =
    ap (taken (λ more behind. rule_after n more behind) before) (target_part t leads mark)
    ∙ ap (λ (ms : List Match). Some (record { matches = ms; target = t; tag = tag.Plain })) (sym (append-nil before))
parts_read (suc n) (m ∷ ms) t enough names leads held mark before =
    ap (rule_after (suc n) before) (first_apart m ms t)
    ∙ ap (taken (λ more behind. rule_after n more behind) before) (match_part m (matches_text ms ++ target_text t) names.0 held.0)
    ∙ parts_read n ms t (omega (arith, enough)) names.1 leads held.1 mark (before ++ m ∷ [])
    ∙ ap (λ (l : List Match). Some (record { matches = l; target = t; tag = tag.Plain })) (append_assoc before (m ∷ []) ms)

some_target : (t : Target) → 0 < length (target_text t)
some_target target.Accept = omega arith
some_target target.Drop = omega arith
some_target target.Return = omega arith
some_target (target.Jump chain) = omega arith
some_target (target.Goto chain) = omega arith
some_target (target.Mark value mask) = omega arith
some_target target.Log = omega arith

-- a rule has fewer matches than its text has bytes
pub few_matches : (ms : List Match) (t : Target) → length ms < length (matches_text ms ++ target_text t)
few_matches [] t = some_target t
few_matches (m ∷ ms) t =
    omega (arith, ap length (first_apart m ms t), length-append (match_text m) (32 ∷ (matches_text ms ++ target_text t)), few_matches ms t)

pub printed_rule_read : (r : ChainRule) → IsRowRule r → IsHeld r → rule_read (rule_text r) ≡ Some r
unfolding rule_read
printed_rule_read r is held =
    parts_read (length (rule_text r)) r.matches r.target (few_matches r.matches r.target) is.names is.leads held.matches held.target []
    ∙ ap (λ (t : Tag). Some (record { matches = r.matches; target = r.target; tag = t })) (sym is.untagged)
