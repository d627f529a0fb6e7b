-- The empty view and the views that resources call for can be driven.
use Rattle.std.proofs.Common.{◌≡◌, true, None, Some, sym, ◌∙◌, refl}
use Rattle.std.specs.Ordering.{nat_cmp}
use Rattle.std.specs.Cmp.Lexicographic.{slice_cmp}
use Rattle.fx_base.proofs.AtKey.{get_empty}
use Rattle.fx_base.proofs.Entries.{entries-empty}
use Rattle.fx_names.specs.Digests.{Digest}
use Rattle.fx_model.specs.declared.resources.Resources.{Resources}
use Rattle.fx_model.specs.declared.view.ViewEndpoint.{ViewEndpoint}
use Rattle.fx_model.specs.declared.view.ViewPolicy.{ViewPolicy}
use Rattle.fx_model.specs.declared.view.ViewProfile.{ViewProfile}
use Rattle.fx_model.specs.Closed.{IsClosedView}
use Rattle.fx_model.specs.Formed.{are_formed, is_formed_view}
use Rattle.fx_model.specs.Messages.{Members}
use Rattle.fx_model.specs.Shapes.{AreOfKinds}
use Rattle.fx_model.specs.Views.{empty_view, view_of}
use Rattle.fx_laws.proofs.FormedLemmas.{is_formed_view-view_of}
use Rattle.fx_laws.proofs.SetKinds.{wanted_sets-of-kinds}
use Rattle.fx_laws.proofs.ViewClosed.{view_of-closed}
use Rattle.fx_driver.specs.Stepping.{IsDrivable}

nothing_there : {A : Type 0} (e : ViewEndpoint) → None ≡ Some e → A
nothing_there e is = cc

no_policy : {A : Type 0} (p : ViewPolicy) → None ≡ Some p → A
no_policy p is = cc

no_profile : {A : Type 0} (p : ViewProfile) → None ≡ Some p → A
no_profile p is = cc

empty_view-closed : IsClosedView empty_view
empty_view-closed = record {
  endpoints = λ iface e is. nothing_there e (sym (get_empty iface) ∙ is);
  policies = λ d key p is. no_policy p (sym (get_empty key) ∙ is);
  profiles = λ d key p is. no_profile p (sym (get_empty key) ∙ is);
}

no_set : {A : Type 0} (ms : Members) → None ≡ Some ms → A
no_set ms is = cc

empty_view-kinds : AreOfKinds empty_view.sets
empty_view-kinds name ms is = no_set ms (sym (get_empty name) ∙ is)

empty_view-formed : is_formed_view empty_view ≡ true
empty_view-formed = rw (entries-empty (slice_cmp nat_cmp), entries-empty (slice_cmp nat_cmp)) refl

pub empty_view-drivable : IsDrivable empty_view
empty_view-drivable = record { closed = empty_view-closed; formed = empty_view-formed; kinds = empty_view-kinds }

-- what resources call for can be driven
pub wanted-drivable : (dg : Digest) (R : Resources) → are_formed R ≡ true → IsDrivable (view_of dg R)
wanted-drivable dg R formed = record {
  closed = view_of-closed dg R;
  formed = is_formed_view-view_of dg R formed;
  kinds = wanted_sets-of-kinds dg R;
}
