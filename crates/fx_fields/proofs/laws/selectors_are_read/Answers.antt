use Rattle.std.proofs.Common.{subst}
use Rattle.fx_fields.proofs.SelectorTexts.{IsRead, is_read, reads, refuses}
use Rattle.fx_fields.proofs.laws.selectors_are_read.Goals as goal

pub returns-clause-tree : goal.returns-clause-tree
returns-clause-tree c = λ text t. (λ e. subst (IsRead text) e (is_read text), reads text t)

pub returns-clause-place : goal.returns-clause-place
returns-clause-place c = λ text at. (λ e. let r = subst (IsRead text) e (is_read text) in (r.0, r.2, r.1), λ h. refuses text h.0 at h.1 h.2)
