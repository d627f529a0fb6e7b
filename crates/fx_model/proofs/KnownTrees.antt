-- The tree of known interfaces, whole.
use Rattle.std.proofs.Common.{◌≡◌, [], ◌∷◌, refl}
use Rattle.std.specs.Prelude.{codes}
use Rattle.fx_model.specs.Directions.{Ingress, Egress}
use Rattle.fx_model.specs.Tables.{root_of, dispatch_rules}
use Rattle.fx_model.specs.Tree.{own_rule, prefix_rule, dispatch_chains_of}

-- without interfaces each root drops all
no_interface : dispatch_chains_of [] ≡ (root_of Ingress, dispatch_rules Ingress []) ∷ (root_of Egress, dispatch_rules Egress []) ∷ []
no_interface = refl

one_interface : dispatch_chains_of (codes "cali1" ∷ []) ≡
    (root_of Ingress, own_rule Ingress (codes "cali1") ∷ dispatch_rules Ingress [])
    ∷ (root_of Egress, own_rule Egress (codes "cali1") ∷ dispatch_rules Egress [])
    ∷ []
one_interface = refl

-- two that part at one byte
two_bytes : dispatch_chains_of (codes "cali1" ∷ codes "cali2" ∷ []) ≡
    (root_of Ingress, dispatch_rules Ingress (codes "cali1" ∷ codes "cali2" ∷ []))
    ∷ (root_of Egress, dispatch_rules Egress (codes "cali1" ∷ codes "cali2" ∷ []))
    ∷ []
two_bytes = refl

-- two that go on with 1, and one that goes on with 2
one_child : dispatch_chains_of (codes "cali1" ∷ codes "cali12" ∷ codes "cali2" ∷ []) ≡
    (codes "cali-to-wl-dispatch-1", dispatch_rules Ingress (codes "cali1" ∷ codes "cali12" ∷ []))
    ∷ (root_of Ingress, prefix_rule Ingress (codes "cali1") (codes "1") ∷ own_rule Ingress (codes "cali2") ∷ dispatch_rules Ingress [])
    ∷ (codes "cali-from-wl-dispatch-1", dispatch_rules Egress (codes "cali1" ∷ codes "cali12" ∷ []))
    ∷ (root_of Egress, prefix_rule Egress (codes "cali1") (codes "1") ∷ own_rule Egress (codes "cali2") ∷ dispatch_rules Egress [])
    ∷ []
one_child = refl

-- one that is what all share
shared_itself : dispatch_chains_of (codes "cali" ∷ codes "cali1" ∷ codes "cali12" ∷ []) ≡
    (codes "cali-to-wl-dispatch-1", dispatch_rules Ingress (codes "cali1" ∷ codes "cali12" ∷ []))
    ∷ (root_of Ingress, own_rule Ingress (codes "cali") ∷ prefix_rule Ingress (codes "cali1") (codes "1") ∷ dispatch_rules Ingress [])
    ∷ (codes "cali-from-wl-dispatch-1", dispatch_rules Egress (codes "cali1" ∷ codes "cali12" ∷ []))
    ∷ (root_of Egress, own_rule Egress (codes "cali") ∷ prefix_rule Egress (codes "cali1") (codes "1") ∷ dispatch_rules Egress [])
    ∷ []
shared_itself = refl

-- one that all others begin with, as in a row of endpoints on cali1, cali12 and cali123
beginning_of_all : dispatch_chains_of (codes "cali1" ∷ codes "cali12" ∷ codes "cali123" ∷ []) ≡
    (codes "cali-to-wl-dispatch-2", dispatch_rules Ingress (codes "cali12" ∷ codes "cali123" ∷ []))
    ∷ (root_of Ingress, own_rule Ingress (codes "cali1") ∷ prefix_rule Ingress (codes "cali12") (codes "2") ∷ dispatch_rules Ingress [])
    ∷ (codes "cali-from-wl-dispatch-2", dispatch_rules Egress (codes "cali12" ∷ codes "cali123" ∷ []))
    ∷ (root_of Egress, own_rule Egress (codes "cali1") ∷ prefix_rule Egress (codes "cali12") (codes "2") ∷ dispatch_rules Egress [])
    ∷ []
beginning_of_all = refl
