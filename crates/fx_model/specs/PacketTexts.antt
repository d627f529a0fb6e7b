-- What became of a packet as text, each line with its newline. Chains and places are those of iptables(8).
use Rattle.std.specs.Prelude.{ℕ, List, [], ◌∷◌, ◌++◌, Option, Some, None, codes, decimal}
use Rattle.std.specs.List.{flat_map}
use Rattle.fx_model.specs.declared.chain.Reason.{Reason}
use Rattle.fx_model.specs.declared.chain.Reason.TheVariants as reason
use Rattle.fx_model.specs.declared.packet.Verdict.{Verdict}
use Rattle.fx_model.specs.declared.packet.Verdict.TheVariants.{Allow, Deny}
use Rattle.fx_model.specs.PolicyIdTexts.{policy_id_text}

-- ---- the path

-- a chain and a place there, from 1
abbrev pub hop_text : List ℕ × ℕ → List ℕ
hop_text h = codes " " ++ (h.0 ++ (codes ":" ++ decimal h.1))

abbrev pub hops_text : List (List ℕ × ℕ) → List ℕ
hops_text hops = flat_map hop_text hops

-- `-` where no rule is shown
abbrev pub path_line : List (List ℕ × ℕ) → List ℕ
path_line [] = codes "path -\n"
path_line (h ∷ hops) = codes "path" ++ (hops_text (h ∷ hops) ++ codes "\n")

-- ---- the reasons

abbrev pub reason_text : Reason → List ℕ
reason_text (reason.Policy id place) = codes "policy " ++ (policy_id_text id ++ (codes " " ++ decimal place))
reason_text (reason.EndOfTier tier) = codes "end-of-tier " ++ tier
reason_text (reason.Profile name place) = codes "profile " ++ (name ++ (codes " " ++ decimal place))
reason_text (reason.MissingProfile name) = codes "missing-profile " ++ name
reason_text reason.NoProfileRule = codes "no-profile-rule"
reason_text reason.UnknownInterface = codes "unknown-interface"
reason_text reason.Established = codes "established"
reason_text reason.Invalid = codes "invalid"

-- why the workload behind this interface lets the packet pass, or not, on a side of its way
abbrev pub side_line : List ℕ → List ℕ → Reason → List ℕ
side_line side iface why = side ++ (iface ++ (codes " " ++ (reason_text why ++ codes "\n")))

-- a side without a reason has no line
abbrev pub side_lines : List ℕ → List ℕ → Option Reason → List (List ℕ)
side_lines side iface None = []
side_lines side iface (Some why) = side_line side iface why ∷ []

-- ---- all of it

abbrev pub verdict_line : Verdict → List ℕ
verdict_line Allow = codes "verdict allow\n"
verdict_line Deny = codes "verdict deny\n"

-- the path of a packet from one interface to another, the reason on each side, and the verdict
abbrev pub packet_lines : List (List ℕ × ℕ) → List ℕ → List ℕ → Option Reason → Option Reason → Verdict → List (List ℕ)
packet_lines hops iface_in iface_out egress ingress verdict =
    path_line hops ∷ (side_lines (codes "egress ") iface_in egress ++ (side_lines (codes "ingress ") iface_out ingress ++ verdict_line verdict ∷ []))
