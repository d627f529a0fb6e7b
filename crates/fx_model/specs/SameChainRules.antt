-- `==` tells all rules of chains apart, and a clone is its source.
use Rattle.std.specs.Prelude.{◌≡◌, true}
use Rattle.fx_base.specs.Same.{same_numbers, same_bytes, same_list, same_truths, both_pass}
use Rattle.fx_model.specs.SameIds.{same_policy_id, copies_policy_id}
use Rattle.fx_model.specs.SameRules.{same_icmp, same_proto, same_cidr, same_range}
use Rattle.fx_model.specs.declared.chain.End.{End}
use Rattle.fx_model.specs.declared.chain.End.TheVariants.{Source, Dest}
use Rattle.fx_model.specs.contracts.chain.EndPartialEq.TheImpl as end
use Rattle.fx_model.specs.declared.chain.Match.{Match}
use Rattle.fx_model.specs.declared.chain.Match.TheVariants as match
use Rattle.fx_model.specs.contracts.chain.MatchPartialEq.TheImpl as match_eq
use Rattle.fx_model.specs.contracts.chain.MatchClone.TheImpl as match_clone
use Rattle.fx_model.specs.declared.chain.Target.{Target}
use Rattle.fx_model.specs.declared.chain.Target.TheVariants as target
use Rattle.fx_model.specs.contracts.chain.TargetPartialEq.TheImpl as target_eq
use Rattle.fx_model.specs.contracts.chain.TargetClone.TheImpl as target_clone
use Rattle.fx_model.specs.declared.chain.Reason.{Reason}
use Rattle.fx_model.specs.declared.chain.Reason.TheVariants as reason
use Rattle.fx_model.specs.contracts.chain.ReasonPartialEq.TheImpl as reason_eq
use Rattle.fx_model.specs.contracts.chain.ReasonClone.TheImpl as reason_clone
use Rattle.fx_model.specs.declared.chain.Tag.{Tag}
use Rattle.fx_model.specs.declared.chain.Tag.TheVariants as tag
use Rattle.fx_model.specs.contracts.chain.TagPartialEq.TheImpl as tag_eq
use Rattle.fx_model.specs.contracts.chain.TagClone.TheImpl as tag_clone
use Rattle.fx_model.specs.declared.chain.ChainRule.{ChainRule}
use Rattle.fx_model.specs.contracts.chain.ChainRulePartialEq.TheImpl as rule_eq
use Rattle.fx_model.specs.contracts.chain.ChainRuleClone.TheImpl as rule_clone

same_end : (x y : End) → end.eq-value.it x y ≡ true → x ≡ y
same_end Source Source e = λ i. Source
same_end Dest Dest e = λ i. Dest
same_end Source Dest e = cc
same_end Dest Source e = cc

pub same_match : (x y : Match) → match_eq.eq-value.it x y ≡ true → x ≡ y
same_match (match.Proto p a) (match.Proto q b) e =
    let s = both_pass _ _ e in
    λ i. match.Proto (same_proto p q s.0 i) (same_truths a b s.1 i)
same_match (match.Net from p a) (match.Net to q b) e =
    let s = both_pass _ _ e in
    let t = both_pass _ _ s.1 in
    λ i. match.Net (same_end from to s.0 i) (same_cidr p q t.0 i) (same_truths a b t.1 i)
same_match (match.Iface from p a) (match.Iface to q b) e =
    let s = both_pass _ _ e in
    let t = both_pass _ _ s.1 in
    λ i. match.Iface (same_end from to s.0 i) (same_bytes p q t.0 i) (same_truths a b t.1 i)
same_match (match.Mark u v) (match.Mark x y) e =
    let s = both_pass _ _ e in
    λ i. match.Mark (same_numbers u x s.0 i) (same_numbers v y s.1 i)
same_match (match.State a) (match.State b) e = λ i. match.State (same_truths a b e i)
same_match (match.Set from p a) (match.Set to q b) e =
    let s = both_pass _ _ e in
    let t = both_pass _ _ s.1 in
    λ i. match.Set (same_end from to s.0 i) (same_bytes p q t.0 i) (same_truths a b t.1 i)
same_match (match.Ports from p a) (match.Ports to q b) e =
    let s = both_pass _ _ e in
    let t = both_pass _ _ s.1 in
    λ i. match.Ports (same_end from to s.0 i) (same_list _ same_range p q t.0 i) (same_truths a b t.1 i)
same_match (match.Icmp p a) (match.Icmp q b) e =
    let s = both_pass _ _ e in
    λ i. match.Icmp (same_icmp p q s.0 i) (same_truths a b s.1 i)
same_match _ _ e = cc

pub copies_match : (x y : Match) → match_clone.is_clone-value.it x y → y ≡ x
copies_match (match.Proto p a) (match.Proto q b) h = λ i. match.Proto (h.0 i) (h.1 i)
copies_match (match.Net from p a) (match.Net to q b) h = λ i. match.Net (h.0 i) (h.1.0 i) (h.1.1 i)
copies_match (match.Iface from p a) (match.Iface to q b) h = λ i. match.Iface (h.0 i) (h.1.0 i) (h.1.1 i)
copies_match (match.Mark u v) (match.Mark x y) h = λ i. match.Mark (h.0 i) (h.1 i)
copies_match (match.State a) (match.State b) h = λ i. match.State (h i)
copies_match (match.Set from p a) (match.Set to q b) h = λ i. match.Set (h.0 i) (h.1.0 i) (h.1.1 i)
copies_match (match.Ports from p a) (match.Ports to q b) h = λ i. match.Ports (h.0 i) (h.1.0 i) (h.1.1 i)
copies_match (match.Icmp p a) (match.Icmp q b) h = λ i. match.Icmp (h.0 i) (h.1 i)
copies_match _ _ h = absurd h

pub same_target : (x y : Target) → target_eq.eq-value.it x y ≡ true → x ≡ y
same_target target.Accept target.Accept e = λ i. target.Accept
same_target target.Drop target.Drop e = λ i. target.Drop
same_target target.Return target.Return e = λ i. target.Return
same_target (target.Jump p) (target.Jump q) e = λ i. target.Jump (same_bytes p q e i)
same_target (target.Goto p) (target.Goto q) e = λ i. target.Goto (same_bytes p q e i)
same_target (target.Mark u v) (target.Mark x y) e =
    let s = both_pass _ _ e in
    λ i. target.Mark (same_numbers u x s.0 i) (same_numbers v y s.1 i)
same_target target.Log target.Log e = λ i. target.Log
same_target _ _ e = cc

pub copies_target : (x y : Target) → target_clone.is_clone-value.it x y → y ≡ x
copies_target target.Accept target.Accept h = λ i. target.Accept
copies_target target.Drop target.Drop h = λ i. target.Drop
copies_target target.Return target.Return h = λ i. target.Return
copies_target (target.Jump p) (target.Jump q) h = λ i. target.Jump (h i)
copies_target (target.Goto p) (target.Goto q) h = λ i. target.Goto (h i)
copies_target (target.Mark u v) (target.Mark x y) h = λ i. target.Mark (h.0 i) (h.1 i)
copies_target target.Log target.Log h = λ i. target.Log
copies_target _ _ h = absurd h

pub same_reason : (x y : Reason) → reason_eq.eq-value.it x y ≡ true → x ≡ y
same_reason (reason.Policy p m) (reason.Policy q n) e =
    let s = both_pass _ _ e in
    λ i. reason.Policy (same_policy_id p q s.0 i) (same_numbers m n s.1 i)
same_reason (reason.EndOfTier p) (reason.EndOfTier q) e = λ i. reason.EndOfTier (same_bytes p q e i)
same_reason (reason.Profile p m) (reason.Profile q n) e =
    let s = both_pass _ _ e in
    λ i. reason.Profile (same_bytes p q s.0 i) (same_numbers m n s.1 i)
same_reason (reason.MissingProfile p) (reason.MissingProfile q) e = λ i. reason.MissingProfile (same_bytes p q e i)
same_reason reason.NoProfileRule reason.NoProfileRule e = λ i. reason.NoProfileRule
same_reason reason.UnknownInterface reason.UnknownInterface e = λ i. reason.UnknownInterface
same_reason reason.Established reason.Established e = λ i. reason.Established
same_reason reason.Invalid reason.Invalid e = λ i. reason.Invalid
same_reason _ _ e = cc

pub copies_reason : (x y : Reason) → reason_clone.is_clone-value.it x y → y ≡ x
copies_reason (reason.Policy p m) (reason.Policy q n) h = λ i. reason.Policy (copies_policy_id p q h.0 i) (h.1 i)
copies_reason (reason.EndOfTier p) (reason.EndOfTier q) h = λ i. reason.EndOfTier (h i)
copies_reason (reason.Profile p m) (reason.Profile q n) h = λ i. reason.Profile (h.0 i) (h.1 i)
copies_reason (reason.MissingProfile p) (reason.MissingProfile q) h = λ i. reason.MissingProfile (h i)
copies_reason reason.NoProfileRule reason.NoProfileRule h = λ i. reason.NoProfileRule
copies_reason reason.UnknownInterface reason.UnknownInterface h = λ i. reason.UnknownInterface
copies_reason reason.Established reason.Established h = λ i. reason.Established
copies_reason reason.Invalid reason.Invalid h = λ i. reason.Invalid
copies_reason _ _ h = absurd h

pub same_tag : (x y : Tag) → tag_eq.eq-value.it x y ≡ true → x ≡ y
same_tag tag.Plain tag.Plain e = λ i. tag.Plain
same_tag tag.Log tag.Log e = λ i. tag.Log
same_tag (tag.Why p) (tag.Why q) e = λ i. tag.Why (same_reason p q e i)
same_tag _ _ e = cc

pub copies_tag : (x y : Tag) → tag_clone.is_clone-value.it x y → y ≡ x
copies_tag tag.Plain tag.Plain h = λ i. tag.Plain
copies_tag tag.Log tag.Log h = λ i. tag.Log
copies_tag (tag.Why p) (tag.Why q) h = λ i. tag.Why (copies_reason p q h i)
copies_tag _ _ h = absurd h

pub same_chain_rule : (x y : ChainRule) → rule_eq.eq-value.it x y ≡ true → x ≡ y
same_chain_rule x y e =
    let p = both_pass _ _ e in
    let q = both_pass _ _ p.1 in
    λ i. record { matches = same_list _ same_match x.matches y.matches p.0 i; target = same_target x.target y.target q.0 i; tag = same_tag x.tag y.tag q.1 i }

pub copies_chain_rule : (x y : ChainRule) → rule_clone.is_clone-value.it x y → y ≡ x
copies_chain_rule x y h =
    let target = copies_target x.target y.target h.1.0 in
    let tag = copies_tag x.tag y.tag h.1.1 in
    λ i. record { matches = h.0 i; target = target i; tag = tag i }
