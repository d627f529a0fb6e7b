use Rattle.std.proofs.Common.{◌≡◌, ℕ, ◌+◌, ◌++◌, List, Bool, Option, drop, sym, ap, ◌∙◌, subst}
use Rattle.fx_model.specs.declared.rules.Rule.{Rule}
use Rattle.fx_fields.specs.declared.names.NamespacedName.{NamespacedName}
use Rattle.fx_services.specs.Lowering.{written_rules, is_tripled, rule_places, places_from}
use Rattle.fx_services.proofs.RuleLists.{Services, next_placed, all_placed}
use Rattle.fx_services.proofs.lowering.places_of.Goals as goal

pub loop-i-preserved : goal.loop-i-preserved
loop-i-preserved c =
    let d = c.args.direction in
    let rules : List Rule = c.args.rules.now in
    let all : List ℕ = places_from d 1 (written_rules rules c.args.services.now) in
    let i = c.loop-i.i in
    let r : Rule = c.index-rules-i.result in
    let places : List ℕ = c.loop-i.places.items in
    let now : List ℕ = c.push_place.new.places.items in
    let longer =
    c.in_ok-push_place.ensures
    ∙ ap (λ (b : Bool). places ++ rule_places b (i + 1)) (c.is_tripled-tripled.ensures ∙ ap (λ (s : Option NamespacedName). is_tripled d (record { plain = r; service = s })) c.first_service.ensures) in
    subst (λ (services : Services). now ++ places_from d (i + 1 + 1) (written_rules (drop (i + 1) rules) services) ≡ all) (sym c.later_services-left.ensures)
    (next_placed d rules all places c.loop-i.left.now i c.loop-i.invariant r now c.loop-i-test.true c.index-rules-i.is longer)

pub returns : goal.returns
returns c =
    let d = c.args.direction in
    let rules : List Rule = c.args.rules.now in
    c.from_vec.ensures
    ∙ all_placed d rules (places_from d 1 (written_rules rules c.args.services.now)) c.loop-i.places.items c.loop-i.left.now c.loop-i.i c.loop-i.invariant c.loop-i-test.false
