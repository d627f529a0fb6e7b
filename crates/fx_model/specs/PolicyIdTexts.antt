-- Policies' names as text, each with its kind: `gnp/NAME`, `np/NS/NAME` and `knp/NS/NAME`, by calicoctl's short names of the kinds
-- GlobalNetworkPolicy and NetworkPolicy, and Kubernetes' NetworkPolicy.
use Rattle.std.specs.Prelude.{ℕ, List, ◌++◌, codes}
use Rattle.fx_model.specs.declared.ids.PolicyId.{PolicyId}
use Rattle.fx_model.specs.declared.ids.PolicyId.TheVariants.{Global, Namespaced, Kube}

abbrev pub policy_id_text : PolicyId → List ℕ
policy_id_text (Global name) = codes "gnp/" ++ name
policy_id_text (Namespaced ns name) = codes "np/" ++ (ns ++ (codes "/" ++ name))
policy_id_text (Kube ns name) = codes "knp/" ++ (ns ++ (codes "/" ++ name))
