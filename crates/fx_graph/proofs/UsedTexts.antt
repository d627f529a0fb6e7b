-- A used set's text counts.
use Rattle.std.proofs.Common.{◌≡◌, ℕ, ◌+◌, ◌<◌, true, cond, List, Some, ap, ◌∙◌, arith}
use Rattle.std.specs.Cmp.{tied_itself}
use Rattle.std.specs.Cmp.Lexicographic.{nat_list_cmp_total}
use Rattle.std.specs.Ordering.{is_eq}
use Rattle.std.specs.FinMap as map
use Rattle.fx_label_index.specs.Matched.{text_eq}
use Rattle.fx_members.specs.UseText.{text_of}
use Rattle.fx_model.specs.Sinks.{Uses}
use Rattle.fx_model.specs.declared.set_use.SetUse.{SetUse}
use Rattle.fx_graph.specs.Used.{weight_at, used_in}
use Rattle.fx_graph.proofs.Sums.{used_apart}

own_text : (t : List ℕ) → text_eq t t ≡ true
own_text t = ap is_eq (tied_itself nat_list_cmp_total t)

positive : (n k : ℕ) → n ≡ 1 + k → 0 < n
positive n k e = omega (arith, e)

pub use_counted : (uses : Uses) (name : List ℕ) (u : SetUse) → map.get uses name ≡ Some u → 0 < used_in uses (text_of u)
use_counted uses name u at =
    let t = text_of u in
    let r = used_in (map.remove uses name) t in
    positive (used_in uses t) r (used_apart uses name t ∙ ap (λ o. weight_at t o + r) at ∙ ap (λ b. cond b 1 0 + r) (own_text t))
