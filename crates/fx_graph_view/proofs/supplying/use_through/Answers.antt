use Rattle.std.proofs.Common.{refl, sym, ap, ◌∙◌, subst}
use Rattle.std.specs.Option.{option_copied}
use Rattle.std.specs.Cmp.Lexicographic.{nat_list_cmp_total}
use Rattle.std.specs.FinMap as map
use Rattle.fx_base.proofs.KeyCases.{bytes_exact}
use Rattle.fx_graph_view.proofs.Brought.{IsBrought, begun, head_touched, put, off, pass, ended}
use Rattle.fx_graph_view.proofs.NotedLemmas.{unnoted, noted_was}
use Rattle.fx_graph_view.proofs.supplying.use_through.Goals as goal

pub loop-name-init : goal.loop-name-init
loop-name-init g c = record {
  brought = subst (IsBrought nat_list_cmp_total bytes_exact c.args.before.now (map.get c.args.members.now.uses) (map.get c.args.uses.now) c.args.members.now.uses)
      (sym (c.into_iter-name-iterator.ensures.into_iter_gives ∙ c.iter-name-items.ensures))
      (begun nat_list_cmp_total bytes_exact c.args.before.now _ _ c.args.members.now.uses (λ k. refl) (λ k e. unnoted _ _ _ (c.requires.noted.at k) e));
  items = refl;
  matched = refl;
  members = c.requires.members;
}

pub use_on-requires-clause-kind : goal.use_on-requires-clause-kind
use_on-requires-clause-kind g c = (c.requires.formed _ _ (sym c.get.ensures ∙ ap option_copied c.in-Some-get.is)).kind

pub use_on-requires-clause-set : goal.use_on-requires-clause-set
use_on-requires-clause-set g c = (c.requires.formed _ _ (sym c.get.ensures ∙ ap option_copied c.in-Some-get.is)).made

pub use_on-requires-clause-selector : goal.use_on-requires-clause-selector
use_on-requires-clause-selector g c = (c.requires.formed _ _ (sym c.get.ensures ∙ ap option_copied c.in-Some-get.is)).selector

pub loop-name-preserved-in_default : goal.loop-name-preserved-in_default
loop-name-preserved-in_default g c =
    let here = subst (IsBrought nat_list_cmp_total bytes_exact c.args.before.now (map.get c.args.members.now.uses) (map.get c.args.uses.now) c.loop-name.members.uses) c.in-Some.ensures.steps c.loop-name.invariant.brought in
    record {
      brought = off nat_list_cmp_total bytes_exact c.args.before.now _ _ c.loop-name.members.uses _ _ here c.use_off.new.self.uses (ap (λ n. n.uses) c.in_ok-use_off.ensures.inputs) (sym c.get.ensures ∙ ap option_copied c.in_default.is);
      items = ap (λ n. n.items) c.in_ok-use_off.ensures.inputs ∙ c.loop-name.invariant.items;
      matched = ap (λ n. n.matched) c.in_ok-use_off.ensures.inputs ∙ c.loop-name.invariant.matched;
      members = c.in_ok-use_off.ensures.members;
    }

pub loop-name-preserved-in-Continue-branch-2 : goal.loop-name-preserved-in-Continue-branch-2
loop-name-preserved-in-Continue-branch-2 g c =
    let here = subst (IsBrought nat_list_cmp_total bytes_exact c.args.before.now (map.get c.args.members.now.uses) (map.get c.args.uses.now) c.loop-name.members.uses) c.in-Some.ensures.steps c.loop-name.invariant.brought in
    record {
      brought = put nat_list_cmp_total bytes_exact c.args.before.now _ _ c.loop-name.members.uses _ _ here c.use_on.new.self.uses _ (ap (λ n. n.uses) c.in_ok-use_on.ensures.inputs) (sym c.get.ensures ∙ ap option_copied c.in-Some-get.is);
      items = ap (λ n. n.items) c.in_ok-use_on.ensures.inputs ∙ c.loop-name.invariant.items;
      matched = ap (λ n. n.matched) c.in_ok-use_on.ensures.inputs ∙ c.loop-name.invariant.matched;
      members = c.in_ok-use_on.ensures.members;
    }

-- one that is as it was at the start
pub loop-name-preserved : goal.loop-name-preserved
loop-name-preserved g c =
    let here = subst (IsBrought nat_list_cmp_total bytes_exact c.args.before.now (map.get c.args.members.now.uses) (map.get c.args.uses.now) c.loop-name.members.uses) c.in-Some.ensures.steps c.loop-name.invariant.brought in
    let was = noted_was _ _ _ c.in-Some.before.now (c.requires.noted.at c.in-Some.name.now) (head_touched nat_list_cmp_total bytes_exact c.args.before.now _ _ c.loop-name.members.uses _ _ here) in
    record {
      brought = pass nat_list_cmp_total bytes_exact c.args.before.now _ _ c.loop-name.members.uses _ _ here (sym was ∙ c.was_same.ensures c.if-not-was_same.false ∙ sym (sym c.get.ensures ∙ ap option_copied c.in-Some-get.is));
      items = c.loop-name.invariant.items;
      matched = c.loop-name.invariant.matched;
      members = c.loop-name.invariant.members;
    }

pub returns-clause-inputs : goal.returns-clause-inputs
returns-clause-inputs g c =
    let all = ended nat_list_cmp_total bytes_exact c.args.before.now _ _ c.loop-name.members.uses (subst (IsBrought nat_list_cmp_total bytes_exact c.args.before.now (map.get c.args.members.now.uses) (map.get c.args.uses.now) c.loop-name.members.uses) c.in-None.ensures.steps.0 c.loop-name.invariant.brought) in
    λ j. record { uses = map.same_map nat_list_cmp_total bytes_exact c.loop-name.members.uses c.args.uses.now all j; items = c.loop-name.invariant.items j; matched = c.loop-name.invariant.matched j }
