-- A rule for a failsafe port matches the packets that are open to it.
use Rattle.std.proofs.Common.{◌≡◌, ◌≤◌, ℕ, Bool, true, false, ◌&&◌, ◌||◌, nat_eq, nat_le, refl, sym, ap, ◌∙◌, arith, eqb-true, eq-eqb}
use Rattle.std.proofs.lemmas.Bool.{le-leb, leb-true}
use Rattle.fx_model.specs.declared.packet.Packet.{Packet}
use Rattle.fx_model.specs.Criteria.{has_ports}
use Rattle.fx_model.specs.Machine.{holds, hold_all}
use Rattle.fx_model.specs.Tables.{Sets}
use Rattle.fx_hostep.specs.declared.failsafe.FailsafePort.{FailsafePort}
use Rattle.fx_hostep.specs.FailsafePorts.{is_open_to, has_port_protocol}
use Rattle.fx_hostep.specs.HostTables.{failsafe_rule}

-- the range of one port
within_one : (n y : ℕ) → (nat_le n y && nat_le y n) ≡ nat_eq y n
within_one n y = by_tests (nat_le n y) (nat_le y n) (nat_eq y n) refl refl refl
  where
    by_tests : (b c t : Bool) → nat_le n y ≡ b → nat_le y n ≡ c → nat_eq y n ≡ t → (b && c) ≡ t
    by_tests true true true l r e = refl
    by_tests true true false l r e = (let low : n ≤ y = leb-true n y l in let high : y ≤ n = leb-true y n r in let same : y ≡ n = omega arith in sym (eq-eqb y n same) ∙ e)
    by_tests true false true l r e = (let same : y ≡ n = eqb-true y n e in let high : y ≤ n = omega arith in sym r ∙ le-leb y n high)
    by_tests true false false l r e = refl
    by_tests false c true l r e = (let same : y ≡ n = eqb-true y n e in let low : n ≤ y = omega arith in sym l ∙ le-leb n y low)
    by_tests false c false l r e = refl

ranged : (h w : Bool) → h ≡ true → ((h && (w || false)) && true) ≡ w
ranged true true e = refl
ranged true false e = refl
ranged false w e = cc

pub port_met : (sets : Sets) (a : Packet) (m : ℕ) (p : FailsafePort) → has_port_protocol p ≡ true → hold_all (holds sets a) m (failsafe_rule p).matches ≡ is_open_to a p
unfolding holds
port_met sets a m p has = by_protocol (nat_eq a.proto.0 p.proto.0) refl
  where
    in_one : Bool
    in_one = nat_le p.number a.dport && nat_le a.dport p.number

    by_protocol : (b : Bool) → nat_eq a.proto.0 p.proto.0 ≡ b → (b && ((has_ports a.proto.0 && (in_one || false)) && true)) ≡ (b && nat_eq a.dport p.number)
    by_protocol true e = ranged (has_ports a.proto.0) in_one (ap has_ports (eqb-true a.proto.0 p.proto.0 e) ∙ has) ∙ within_one p.number a.dport
    by_protocol false e = refl
