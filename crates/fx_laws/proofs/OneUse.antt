-- Uses with one holder are one use: a canonical text spells one tree, and the name of a port has no comma.
use Rattle.std.proofs.Common.{◌≡◌, ℕ, Bool, true, false, ◌||◌, List, ◌∷◌, ◌++◌, refl, sym, ap, ◌∙◌, subst}
use Rattle.std.specs.Prelude.{codes, nat_eq}
use Rattle.std.proofs.lemmas.List.{append_cancel_left}
use Rattle.fx_base.specs.Same.{same_numbers}
use Rattle.fx_base.specs.declared.net.Proto.{Proto}
use Rattle.fx_selector.specs.Tree.{Tree, IsTree}
use Rattle.fx_selector.specs.Canonical.{canonical_text}
use Rattle.fx_selector.specs.Places.{Spells}
use Rattle.fx_selector.proofs.Parsing.{one_spelled}
use Rattle.fx_selector.proofs.Spelling.{canonical_spells}
use Rattle.fx_model.specs.declared.set_use.SetUse.{SetUse}
use Rattle.fx_model.specs.Claims.{set_holder}
use Rattle.fx_model.specs.Criteria.{has_ports}
use Rattle.fx_model.specs.Formed.{is_formed_port_name}
use Rattle.fx_model.specs.Sets.{nets_use, ports_use, ports_protocol_text, ports_text}
use Rattle.fx_laws.proofs.Parted.{parted, unlike}

-- a use of a selector that a text spells: of nets, or of a port of a protocol that has ports
pub data Made (u : SetUse) : Type 0 where
  OfNets : (t : Tree) → IsTree t → u ≡ nets_use t → Made u
  OfPort : (p : Proto) (name : List ℕ) (t : Tree) → has_ports p.0 ≡ true → is_formed_port_name name ≡ true → IsTree t → u ≡ ports_use p name t → Made u

one_tree : (t s : Tree) → IsTree t → IsTree s → canonical_text t ≡ canonical_text s → t ≡ s
one_tree t s g h e = one_spelled (canonical_text s) t s (subst (λ (text : List ℕ). Spells text t) e (canonical_spells t g)) (canonical_spells s h)

-- ---- protocols

abbrev tcp : Proto
tcp = record { 0 = 6 }

abbrev udp : Proto
udp = record { 0 = 17 }

abbrev sctp : Proto
sctp = record { 0 = 132 }

-- what holds of these three holds of each protocol that has ports
by_protocol : (P : Proto → Type 0) → P tcp → P udp → P sctp → (p : Proto) → has_ports p.0 ≡ true → P p
by_protocol P a b c p h = by_first (nat_eq p.0 6) refl h
  where
    by_third : nat_eq p.0 132 ≡ true → P p
    by_third e = subst (λ (n : ℕ). P (record { 0 = n })) (sym (same_numbers p.0 132 e)) c

    by_second : (t : Bool) → nat_eq p.0 17 ≡ t → (t || nat_eq p.0 132) ≡ true → P p
    by_second true e g = subst (λ (n : ℕ). P (record { 0 = n })) (sym (same_numbers p.0 17 e)) b
    by_second false e g = by_third g

    by_first : (t : Bool) → nat_eq p.0 6 ≡ t → (t || (nat_eq p.0 17 || nat_eq p.0 132)) ≡ true → P p
    by_first true e g = subst (λ (n : ℕ). P (record { 0 = n })) (sym (same_numbers p.0 6 e)) a
    by_first false e g = by_second (nat_eq p.0 17) refl g

-- texts that begin with those of two protocols
abbrev IsOneProtocol : Proto → Proto → Type 0
IsOneProtocol p q = (m n : List ℕ) → ports_protocol_text p ++ m ≡ ports_protocol_text q ++ n → (p ≡ q) × (m ≡ n)

with_tcp : (q : Proto) → has_ports q.0 ≡ true → IsOneProtocol tcp q
with_tcp = by_protocol (IsOneProtocol tcp)
    (λ m n e. (refl, append_cancel_left (codes "tcp") m n e))
    (λ m n e. unlike 116 117 refl refl _ _ e)
    (λ m n e. unlike 116 115 refl refl _ _ e)

with_udp : (q : Proto) → has_ports q.0 ≡ true → IsOneProtocol udp q
with_udp = by_protocol (IsOneProtocol udp)
    (λ m n e. unlike 117 116 refl refl _ _ e)
    (λ m n e. (refl, append_cancel_left (codes "udp") m n e))
    (λ m n e. unlike 117 115 refl refl _ _ e)

with_sctp : (q : Proto) → has_ports q.0 ≡ true → IsOneProtocol sctp q
with_sctp = by_protocol (IsOneProtocol sctp)
    (λ m n e. unlike 115 116 refl refl _ _ e)
    (λ m n e. unlike 115 117 refl refl _ _ e)
    (λ m n e. (refl, append_cancel_left (codes "sctp") m n e))

one_protocol : (p : Proto) → has_ports p.0 ≡ true → (q : Proto) → has_ports q.0 ≡ true → IsOneProtocol p q
one_protocol = by_protocol (λ p. (q : Proto) → has_ports q.0 ≡ true → IsOneProtocol p q) with_tcp with_udp with_sctp

-- ---- uses

one_port : (p q : Proto) (name other : List ℕ) (t s : Tree) → has_ports p.0 ≡ true → has_ports q.0 ≡ true → is_formed_port_name name ≡ true → is_formed_port_name other ≡ true → IsTree t → IsTree s → ports_text p name t ≡ ports_text q other s → ports_use p name t ≡ ports_use q other s
one_port p q name other t s hp hq hn ho ht hs e =
    let first = one_protocol p hp q hq (codes "," ++ (name ++ (codes "," ++ canonical_text t))) (codes "," ++ (other ++ (codes "," ++ canonical_text s))) e in
    let rest : name ++ 44 ∷ canonical_text t ≡ other ++ 44 ∷ canonical_text s = append_cancel_left (codes ",") (name ++ 44 ∷ canonical_text t) (other ++ 44 ∷ canonical_text s) first.1 in
    let parts = parted 44 refl name other (canonical_text t) (canonical_text s) hn ho rest in
    let trees : t ≡ s = one_tree t s ht hs parts.1 in
    λ i. ports_use (first.0 i) (parts.0 i) (trees i)

pub one_use : (u v : SetUse) → Made u → Made v → set_holder u ≡ set_holder v → u ≡ v
one_use u v (OfNets t g p) (OfNets s h q) e =
    let same : set_holder (nets_use t) ≡ set_holder (nets_use s) = sym (ap set_holder p) ∙ e ∙ ap set_holder q in
    p ∙ ap nets_use (one_tree t s g h (append_cancel_left (codes "set s ") (canonical_text t) (canonical_text s) same)) ∙ sym q
one_use u v (OfNets t g p) (OfPort r name s hr hn hs q) e =
    let same : set_holder (nets_use t) ≡ set_holder (ports_use r name s) = sym (ap set_holder p) ∙ e ∙ ap set_holder q in
    unlike 115 110 refl refl _ _ (append_cancel_left (codes "set ") (codes "s " ++ canonical_text t) (codes "n " ++ ports_text r name s) same)
one_use u v (OfPort r name s hr hn hs p) (OfNets t g q) e =
    let same : set_holder (ports_use r name s) ≡ set_holder (nets_use t) = sym (ap set_holder p) ∙ e ∙ ap set_holder q in
    unlike 110 115 refl refl _ _ (append_cancel_left (codes "set ") (codes "n " ++ ports_text r name s) (codes "s " ++ canonical_text t) same)
one_use u v (OfPort r name t hr hn ht p) (OfPort k other s hk ho hs q) e =
    let same : set_holder (ports_use r name t) ≡ set_holder (ports_use k other s) = sym (ap set_holder p) ∙ e ∙ ap set_holder q in
    p ∙ one_port r k name other t s hr hk hn ho ht hs (append_cancel_left (codes "set n ") (ports_text r name t) (ports_text k other s) same) ∙ sym q
