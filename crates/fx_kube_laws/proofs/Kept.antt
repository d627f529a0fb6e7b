-- Of the resources that a cluster becomes, the policy reference says of each packet what Kubernetes says of the cluster.
use Rattle.std.proofs.Common.{◌≡◌, ℕ, Bool, true, false, not, ◌&&◌, cond, List, [], ◌∷◌, map, Option, Some, None, refl, sym, ap, ◌∙◌, subst}
use Rattle.std.specs.Prelude.{filter, if◌then◌else◌}
use Rattle.std.specs.List.{AllByRecursion}
use Rattle.std.specs.Str.{bytes_eq}
use Rattle.fx_model.specs.declared.ids.ItemKey.{ItemKey}
use Rattle.fx_model.specs.declared.packet.Packet.{Packet}
use Rattle.fx_model.specs.declared.packet.Verdict.{Verdict}
use Rattle.fx_model.specs.declared.packet.Verdict.TheVariants.{Allow, Deny}
use Rattle.fx_model.specs.declared.chain.Reason.{Reason}
use Rattle.fx_model.specs.declared.resources.Endpoint.{Endpoint}
use Rattle.fx_model.specs.declared.resources.Resources.{Resources}
use Rattle.fx_model.specs.Directions.{Direction, Ingress, Egress}
use Rattle.fx_model.specs.Policy.{Decision, Outcome, with_iface, endpoint_at, verdict_at, is_workload, unknown_or_free, side_verdict, with_ingress, both_sides}
use Rattle.fx_model.specs.Resources.{is_served}
use Rattle.fx_k8s.specs.Clusters.{endpoint_of, endpoint_entry, IsConverted, IsPodOf, IsPlain, KubernetesVerdictIsKept}
use Rattle.fx_k8s.specs.KubeVerdict.{Pod, Cluster, first_on, pod_on, side_takes, takes}
use Rattle.fx_kube_laws.proofs.Chain.{verdict_if, on_interface, InterfacesAreKept}
use Rattle.fx_kube_laws.proofs.KeptPods.{pods_are_kept}

-- ---- interfaces

-- the first endpoint that is served on an interface is the first pod of the node there
served-first : (R : Resources) (pods : List Pod) (iface : List ℕ) → R.in_sync ≡ true → with_iface (filter (λ x. is_served R x.1) (map endpoint_entry pods)) iface ≡ on_interface (first_on pods R.node iface)
served-first R [] iface sync = refl
served-first R (p ∷ ps) iface sync = ap (λ b. with_iface (cond (b && bytes_eq p.node R.node) (endpoint_entry p ∷ filter (λ x. is_served R x.1) (map endpoint_entry ps)) (filter (λ x. is_served R x.1) (map endpoint_entry ps))) iface) sync ∙ by (served-first R ps iface sync) (bytes_eq p.node R.node) (bytes_eq iface p.iface) refl
  where
    by : with_iface (filter (λ x. is_served R x.1) (map endpoint_entry ps)) iface ≡ on_interface (first_on ps R.node iface) → (b c : Bool) → bytes_eq iface p.iface ≡ c → with_iface (cond b (endpoint_entry p ∷ filter (λ x. is_served R x.1) (map endpoint_entry ps)) (filter (λ x. is_served R x.1) (map endpoint_entry ps))) iface ≡ on_interface (if b && c then Some p else first_on ps R.node iface)
    by later true c e =
        ap (λ (t : Bool). elim t as (λ _. Option Endpoint) [ true ↦ Some (endpoint_of p) | false ↦ with_iface (filter (λ x. is_served R x.1) (map endpoint_entry ps)) iface ]) e ∙ by_iface c
      where
        by_iface : (c : Bool) → elim c [ true ↦ Some (endpoint_of p) | false ↦ with_iface (filter (λ x. is_served R x.1) (map endpoint_entry ps)) iface ] ≡ on_interface (if c then Some p else first_on ps R.node iface)
        by_iface true = refl
        by_iface false = later
    by later false c e = later

pub interfaces_are_kept : InterfacesAreKept
interfaces_are_kept K R iface converted =
    ap (λ (es : List (ItemKey × Endpoint)). with_iface (filter (λ x. is_served R x.1) es) iface) converted.endpoints
    ∙ served-first R K.pods iface converted.in_sync
    ∙ ap (λ (n : List ℕ). on_interface (first_on K.pods n iface)) converted.node

-- what holds of all pods holds of the one that is found
found_on : (P : Pod → Type 0) (pods : List Pod) (node iface : List ℕ) (pod : Pod) → AllByRecursion P pods → first_on pods node iface ≡ Some pod → P pod
found_on P [] node iface pod h e = cc
found_on P (p ∷ ps) node iface pod h e = by (bytes_eq p.node node && bytes_eq iface p.iface) e (found_on P ps node iface pod h.1)
  where
    by : (b : Bool) → (if b then Some p else first_on ps node iface) ≡ Some pod → (first_on ps node iface ≡ Some pod → P pod) → P pod
    by true is later = let same : p ≡ pod = cc in subst P same h.0
    by false is later = later is

-- ---- one side

-- what is decided there, if anything, says whether the side takes the packet
abbrev Says : Option Decision → Bool → Type 0
Says None b = b ≡ true
Says (Some x) b = x.verdict ≡ verdict_if b

module _ (K : Cluster) (R : Resources) (a : Packet) (converted : IsConverted K R) (plain : IsPlain K) where
  at_none : (iface : List ℕ) (b : Bool) → is_workload iface ≡ b → Says (unknown_or_free b) (not b)
  at_none iface true e = refl
  at_none iface false e = refl

  side_says : (d : Direction) (iface : List ℕ) → Says (side_verdict (verdict_at R d a (endpoint_at R iface)) iface) (side_takes K d a iface (pod_on K iface))
  side_says d iface =
      subst (λ (o : Option Endpoint). Says (side_verdict (verdict_at R d a o) iface) (side_takes K d a iface (pod_on K iface))) (sym (interfaces_are_kept K R iface converted)) (by (pod_on K iface) refl)
    where
      by : (o : Option Pod) → pod_on K iface ≡ o → Says (side_verdict (verdict_at R d a (on_interface o)) iface) (side_takes K d a iface o)
      by None e = at_none iface (is_workload iface) refl
      by (Some pod) e = pods_are_kept K R d pod a converted plain (found_on (IsPodOf K) K.pods K.node iface pod plain.pods e)

  -- ---- both sides

  ingress-says : (egress : Option Reason) (y : Option Decision) (c : Bool) → Says y c → (with_ingress egress y).verdict ≡ verdict_if c
  ingress-says egress None c h = sym (ap verdict_if h)
  ingress-says egress (Some y) c h = h

  both-say : (x y : Option Decision) (b c : Bool) → Says x b → Says y c → (both_sides x y).verdict ≡ verdict_if (b && c)
  both-say None y b c h g = ingress-says None y c g ∙ sym (ap (λ t. verdict_if (t && c)) h)
  both-say (Some x) y true c h g =
      ap (λ (v : Verdict). (elim v as (λ _. Outcome) [ Allow ↦ with_ingress (Some x.why) y | Deny ↦ record { verdict = Deny; egress = Some x.why; ingress = None } ]).verdict) h ∙ ingress-says (Some x.why) y c g
  both-say (Some x) y false c h g =
      ap (λ (v : Verdict). (elim v as (λ _. Outcome) [ Allow ↦ with_ingress (Some x.why) y | Deny ↦ record { verdict = Deny; egress = Some x.why; ingress = None } ]).verdict) h

chosen : (b : Bool) → verdict_if b ≡ (if b then Allow else Deny)
chosen true = refl
chosen false = refl

pub kubernetes_verdict_is_kept : KubernetesVerdictIsKept
kubernetes_verdict_is_kept K R a converted plain =
    both-say K R a converted plain _ _ (side_takes K Egress a a.iface_in (pod_on K a.iface_in)) (side_takes K Ingress a a.iface_out (pod_on K a.iface_out))
    (side_says K R a converted plain Egress a.iface_in) (side_says K R a converted plain Ingress a.iface_out)
    ∙ chosen (takes K a)
