-- What is read as a rule has names that rows can hold.
use Rattle.std.proofs.Common.{◌≡◌, ◌-◌, ℕ, zero, suc, Bool, true, false, ◌&&◌, not, List, [], ◌∷◌, ◌++◌, length, take, Option, Some, None, refl, ap, subst}
use Rattle.std.specs.Prelude.{if◌then◌else◌, option_map, codes}
use Rattle.std.specs.List.{AllByRecursion}
use Rattle.std.specs.Str.{bytes_eq}
use Rattle.fx_model.specs.declared.chain.End.{End}
use Rattle.fx_model.specs.declared.chain.End.TheVariants.{Source, Dest}
use Rattle.fx_model.specs.declared.chain.Match.{Match}
use Rattle.fx_model.specs.declared.chain.Match.TheVariants as match
use Rattle.fx_model.specs.declared.chain.Target.{Target}
use Rattle.fx_model.specs.declared.chain.Target.TheVariants as target
use Rattle.fx_model.specs.declared.chain.Tag.TheVariants as tag
use Rattle.fx_model.specs.declared.chain.ChainRule.{ChainRule}
use Rattle.fx_found.specs.declared.rules.RulePart.{RulePart}
use Rattle.fx_found.specs.declared.rules.RulePart.TheVariants as part
use Rattle.fx_found.specs.Pieces.{word, rest}
use Rattle.fx_found.specs.Values.{mark_in, protocol_in, icmp_in, net_in, ranges_in}
use Rattle.fx_found.specs.NameForms.{is_set_name, is_target_name}
use Rattle.fx_found.specs.RuleRows.{is_not, past_not, ends_wild, iface_match, end_of_flags, end_of_ports, field_match, set_match, module_match, named_chain, jump_in, matched, aimed, module_in, option_in, part_in, taken, rule_after, rule_read, HasRowNames, LeadsByName}
use Rattle.fx_found.proofs.PieceLemmas.{has, free_piece, free_take}

-- what an option holds, if it holds something
abbrev pub Every : {A : Type 0} → (A → Type 0) → Option A → Type 0
Every P None = Unit {0}
Every P (Some x) = P x

every_choice : {A : Type 0} (P : A → Type 0) (b : Bool) (x y : Option A) → Every P x → Every P y → Every P (if b then x else y)
every_choice P true x y first second = first
every_choice P false x y first second = second

pub every_kept : {A : Type 0} (P : A → Type 0) (b : Bool) (x : A) → (b ≡ true → P x) → Every P (if b then Some x else None)
every_kept P true x holds = holds refl
every_kept P false x holds = tt

every_made : {A B : Type 0} (P : B → Type 0) (make : A → B) (o : Option A) → ((x : A) → P (make x)) → Every P (option_map make o)
every_made P make None holds = tt
every_made P make (Some x) holds = holds x

every_from : {A B : Type 0} (Q : A → Type 0) (P : B → Type 0) (make : A → B) (o : Option A) → Every Q o → ((x : A) → Q x → P (make x)) → Every P (option_map make o)
every_from Q P make None is holds = tt
every_from Q P make (Some x) is holds = holds x is

-- ---- matches

never : (b : Bool) → (b && not true) ≡ false
never true = refl
never false = refl

iface_by : (end : End) (name : List ℕ) → has 32 name ≡ false → (b : Bool) → ends_wild name ≡ b → HasRowNames (if b then match.Iface end (take (length name - 1) name) true else match.Iface end name false)
iface_by end name free true e = (free_take 32 (length name - 1) name free, never (ends_wild (take (length name - 1) name)))
iface_by end name free false e = (free, ap (λ (b : Bool). b && not false) e)

iface_named : (end : End) (name : List ℕ) → has 32 name ≡ false → HasRowNames (iface_match end name)
iface_named end name free = iface_by end name free (ends_wild name) refl

field_named : (opposite : Bool) (option text : List ℕ) → Every HasRowNames (field_match opposite option (word text))
unfolding field_match
field_named opposite option text =
    let value : List ℕ = word text in
    let out : Option Match = if bytes_eq option (codes "-o") then Some (iface_match Dest value) else None in
    let into : Option Match = if bytes_eq option (codes "-i") then Some (iface_match Source value) else out in
    let dest : Option Match = if bytes_eq option (codes "-d") then option_map (λ n. match.Net Dest n opposite) (net_in value) else into in
    let source : Option Match = if bytes_eq option (codes "-s") then option_map (λ n. match.Net Source n opposite) (net_in value) else dest in
    every_choice HasRowNames (bytes_eq option (codes "-p")) (option_map (λ p. match.Proto p opposite) (protocol_in value)) source (every_made HasRowNames (λ p. match.Proto p opposite) (protocol_in value) (λ x. tt))
    (every_choice HasRowNames (bytes_eq option (codes "-s")) (option_map (λ n. match.Net Source n opposite) (net_in value)) dest (every_made HasRowNames (λ n. match.Net Source n opposite) (net_in value) (λ x. tt))
    (every_choice HasRowNames (bytes_eq option (codes "-d")) (option_map (λ n. match.Net Dest n opposite) (net_in value)) into (every_made HasRowNames (λ n. match.Net Dest n opposite) (net_in value) (λ x. tt))
    (every_choice HasRowNames (bytes_eq option (codes "-i")) (Some (iface_match Source value)) out (iface_named Source value (free_piece 32 text))
    (every_choice HasRowNames (bytes_eq option (codes "-o")) (Some (iface_match Dest value)) None (iface_named Dest value (free_piece 32 text)) tt))))

set_named : (opposite : Bool) (name flags : List ℕ) → Every HasRowNames (set_match opposite name flags)
set_named opposite name flags = every_kept HasRowNames (is_set_name name) (match.Set (end_of_flags flags) name opposite) (λ e. e)

module_named : (name : List ℕ) (opposite : Bool) (option value : List ℕ) → Every HasRowNames (module_match name opposite option value)
unfolding module_match
module_named name opposite option value =
    let icmp : Option Match = if bytes_eq name (codes "icmp") then option_map (λ i. match.Icmp i opposite) (icmp_in value) else None in
    let ports : Option Match = if bytes_eq name (codes "multiport") then option_map (λ l. match.Ports (end_of_ports option) l opposite) (ranges_in value) else icmp in
    let state : Option Match = if bytes_eq name (codes "conntrack") then Some (match.State (not (bytes_eq value (codes "INVALID")))) else ports in
    every_choice HasRowNames (bytes_eq name (codes "mark")) (option_map (λ m. match.Mark m.0 m.1) (mark_in value)) state (every_made HasRowNames (λ (m : ℕ × ℕ). match.Mark m.0 m.1) (mark_in value) (λ x. tt))
    (every_choice HasRowNames (bytes_eq name (codes "conntrack")) (Some (match.State (not (bytes_eq value (codes "INVALID"))))) ports tt
    (every_choice HasRowNames (bytes_eq name (codes "multiport")) (option_map (λ l. match.Ports (end_of_ports option) l opposite) (ranges_in value)) icmp (every_made HasRowNames (λ l. match.Ports (end_of_ports option) l opposite) (ranges_in value) (λ x. tt))
    (every_choice HasRowNames (bytes_eq name (codes "icmp")) (option_map (λ i. match.Icmp i opposite) (icmp_in value)) None (every_made HasRowNames (λ i. match.Icmp i opposite) (icmp_in value) (λ x. tt)) tt)))

-- ---- targets

chain_named : (make : List ℕ → Target) (name : List ℕ) → ((chain : List ℕ) → is_target_name chain ≡ true → LeadsByName (make chain)) → Every LeadsByName (option_map make (named_chain name))
chain_named make name holds =
    every_from (λ chain. is_target_name chain ≡ true) LeadsByName make (named_chain name) (every_kept (λ chain. is_target_name chain ≡ true) (is_target_name name) name (λ e. e)) holds

jump_named : (text : List ℕ) → Every LeadsByName (jump_in text)
unfolding jump_in
jump_named text =
    let name : List ℕ = word text in
    let marked : Option Target = option_map (λ m. target.Mark m.0 m.1) (mark_in (word (rest (rest text)))) in
    let jump : Option Target = option_map target.Jump (named_chain name) in
    let mark : Option Target = if bytes_eq name (codes "MARK") then marked else jump in
    let log : Option Target = if bytes_eq name (codes "LOG") then Some target.Log else mark in
    let back : Option Target = if bytes_eq name (codes "RETURN") then Some target.Return else log in
    let dropped : Option Target = if bytes_eq name (codes "DROP") then Some target.Drop else back in
    every_choice LeadsByName (bytes_eq name (codes "ACCEPT")) (Some target.Accept) dropped tt
    (every_choice LeadsByName (bytes_eq name (codes "DROP")) (Some target.Drop) back tt
    (every_choice LeadsByName (bytes_eq name (codes "RETURN")) (Some target.Return) log tt
    (every_choice LeadsByName (bytes_eq name (codes "LOG")) (Some target.Log) mark tt
    (every_choice LeadsByName (bytes_eq name (codes "MARK")) marked jump
    (every_made LeadsByName (λ (m : ℕ × ℕ). target.Mark m.0 m.1) (mark_in (word (rest (rest text)))) (λ x. tt))
    (chain_named target.Jump name (λ chain e. e))))))

-- ---- parts

abbrev IsNamed : RulePart × List ℕ → Type 0
IsNamed (part.Match m, text) = HasRowNames m
IsNamed (part.Target t, text) = LeadsByName t

matched_named : (text : List ℕ) (found : Option Match) → Every HasRowNames found → Every IsNamed (matched text found)
matched_named text found is = every_from HasRowNames IsNamed (λ m. (part.Match m, text)) found is (λ m h. h)

aimed_named : (found : Option Target) → Every LeadsByName found → Every IsNamed (aimed found)
aimed_named found is = every_from LeadsByName IsNamed (λ t. (part.Target t, [])) found is (λ t h. h)

modules_named : (name text : List ℕ) → Every IsNamed (module_in name text)
unfolding module_in
modules_named name text =
    let options : List ℕ = past_not text in
    let values : List ℕ = rest options in
    let set : Option Match = set_match (is_not text) (word values) (word (rest values)) in
    let other : Option Match = module_match name (is_not text) (word options) (word values) in
    every_choice IsNamed (bytes_eq name (codes "set")) (matched (rest (rest values)) set) (matched (rest values) other)
    (matched_named (rest (rest values)) set (set_named (is_not text) (word values) (word (rest values))))
    (matched_named (rest values) other (module_named name (is_not text) (word options) (word values)))

option_named : (opposite : Bool) (option text : List ℕ) → Every IsNamed (option_in opposite option text)
unfolding option_in
option_named opposite option text =
    let field : Option (RulePart × List ℕ) = matched (rest text) (field_match opposite option (word text)) in
    let goto : Option Target = option_map target.Goto (named_chain (word text)) in
    let leads : Option (RulePart × List ℕ) = if bytes_eq option (codes "-g") then aimed goto else field in
    let jumps : Option (RulePart × List ℕ) = if bytes_eq option (codes "-j") then aimed (jump_in text) else leads in
    every_choice IsNamed (bytes_eq option (codes "-m")) (module_in (word text) (rest text)) jumps (modules_named (word text) (rest text))
    (every_choice IsNamed (bytes_eq option (codes "-j")) (aimed (jump_in text)) leads (aimed_named (jump_in text) (jump_named text))
    (every_choice IsNamed (bytes_eq option (codes "-g")) (aimed goto) field (aimed_named goto (chain_named target.Goto (word text) (λ chain e. e)))
    (matched_named (rest text) (field_match opposite option (word text)) (field_named opposite option text))))

part_named : (text : List ℕ) → Every IsNamed (part_in text)
unfolding part_in
part_named [] = tt
part_named (c ∷ cs) = option_named (is_not (c ∷ cs)) (word (past_not (c ∷ cs))) (rest (past_not (c ∷ cs)))

-- ---- the rule

pub record AreNamed (r : ChainRule) : Type 0 where
  pub untagged : r.tag ≡ tag.Plain
  pub names : AllByRecursion HasRowNames r.matches
  pub leads : LeadsByName r.target

named_more : (ms : List Match) (m : Match) → AllByRecursion HasRowNames ms → HasRowNames m → AllByRecursion HasRowNames (ms ++ m ∷ [])
named_more [] m all one = (one, tt)
named_more (x ∷ ms) m all one = (all.0, named_more ms m all.1 one)

taken_named : (later : List Match → List ℕ → Option ChainRule) → ((ms : List Match) (text : List ℕ) → AllByRecursion HasRowNames ms → Every AreNamed (later ms text)) → (ms : List Match) → AllByRecursion HasRowNames ms → (o : Option (RulePart × List ℕ)) → Every IsNamed o → Every AreNamed (taken later ms o)
taken_named later holds ms all None is = tt
taken_named later holds ms all (Some (part.Match m, text)) is = holds (ms ++ m ∷ []) text (named_more ms m all is)
taken_named later holds ms all (Some (part.Target t, text)) is = record { untagged = refl; names = all; leads = is }

after_named : (n : ℕ) (ms : List Match) (text : List ℕ) → AllByRecursion HasRowNames ms → Every AreNamed (rule_after n ms text)
after_named zero ms text all = tt
after_named (suc n) ms text all = taken_named (λ more behind. rule_after n more behind) (λ more behind h. after_named n more behind h) ms all (part_in text) (part_named text)

pub read_named : (text : List ℕ) (r : ChainRule) → rule_read text ≡ Some r → AreNamed r
unfolding rule_read
read_named text r is = subst (Every AreNamed) is (after_named (length text) [] text tt)
