use Rattle.std.proofs.Common.{◌≡◌, true, sym, ap, ◌∙◌, subst}
use Rattle.std.specs.List.{list_all}
use Rattle.fx_model.specs.declared.resources.Item.TheVariants as item
use Rattle.fx_model.specs.declared.resources.Update.TheVariants as update
use Rattle.fx_fields.specs.declared.policy_fields.PolicyType.TheVariants.{Ingress, Egress}
use Rattle.fx_fields.proofs.Readings.{first_of, second_of}
use Rattle.fx_services.specs.Lowerable.{is_lowerable}
use Rattle.fx_services.specs.Lowering.{written_rules, ingress_of, egress_of, lowered_rules, places_from}
use Rattle.fx_services.proofs.RuleLists.{Services}
use Rattle.fx_services.proofs.lowered.lowered_profile.Goals as goal

pub lower_rules-requires : goal.lower_rules-requires
lower_rules-requires c =
    let p = c.args.profile in
    let services = c.args.services.now in
    subst (λ (ss : Services). list_all (is_lowerable Ingress) (written_rules p.ingress ss) ≡ true) (sym c.as_slice-to.ensures)
    (first_of (list_all (is_lowerable Ingress) (ingress_of services p.ingress)) (list_all (is_lowerable Egress) (egress_of services p.egress)) c.requires)

pub lower_rules-requires-2 : goal.lower_rules-requires-2
lower_rules-requires-2 c =
    let p = c.args.profile in
    let services = c.args.services.now in
    subst (λ (ss : Services). list_all (is_lowerable Egress) (written_rules p.egress ss) ≡ true) (sym c.as_slice-from.ensures)
    (second_of (list_all (is_lowerable Ingress) (ingress_of services p.ingress)) (list_all (is_lowerable Egress) (egress_of services p.egress)) c.requires)

pub returns : goal.returns
returns c =
    let p = c.args.profile in
    let to_rules = c.in_ok-ingress.ensures.rules ∙ ap (λ (ss : Services). lowered_rules Ingress (written_rules p.ingress ss)) c.as_slice-to.ensures in
    let to_places = c.in_ok-ingress.ensures.places ∙ ap (λ (ss : Services). places_from Ingress 1 (written_rules p.ingress ss)) c.as_slice-to.ensures in
    let from_rules = c.in_ok-egress.ensures.rules ∙ ap (λ (ss : Services). lowered_rules Egress (written_rules p.egress ss)) c.as_slice-from.ensures in
    let from_places = c.in_ok-egress.ensures.places ∙ ap (λ (ss : Services). places_from Egress 1 (written_rules p.egress ss)) c.as_slice-from.ensures in
    λ i. record {
      update = update.Put c.args.key (item.Profile (record p { ingress = to_rules i; egress = from_rules i }));
      ingress_places = to_places i;
      egress_places = from_places i;
    }
