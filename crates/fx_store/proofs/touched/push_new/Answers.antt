use Rattle.std.proofs.Common.{[], ◌∷◌, ◌++◌, sym, ap, ◌∙◌}
use Rattle.std.specs.FinMap as map
use Rattle.fx_base.specs.Set as set
use Rattle.fx_model.specs.SameIds.{copies_key}
use Rattle.fx_store.proofs.Touching.{key_known, key_pushed}
use Rattle.fx_store.proofs.touched.push_new.Goals as goal

pub returns-then-is_some-clause-seen : goal.returns-then-is_some-clause-seen
returns-then-is_some-clause-seen c = c.in_ok-before.ensures.ok ∙ ap (set.insert c.args.seen.now) (copies_key _ _ c.in_ok-clone.ensures.cases)

pub returns-then-is_some-clause-keys : goal.returns-then-is_some-clause-keys
returns-then-is_some-clause-keys c =
    key_known c.args.keys.now.items c.args.seen.now c.args.key.now c.in_ok-before.before
    (c.in_ok-before.ensures.before ∙ ap (map.get c.args.seen.now) (copies_key _ _ c.in_ok-clone.ensures.cases))
    (sym c.is_some.ensures ∙ c.if-is_some.true)

pub returns-clause-seen : goal.returns-clause-seen
returns-clause-seen c = c.in_ok-before.ensures.ok ∙ ap (set.insert c.args.seen.now) (copies_key _ _ c.in_ok-clone.ensures.cases)

pub returns-clause-keys : goal.returns-clause-keys
returns-clause-keys c =
    let keys = c.args.keys.now.items in
    c.in_ok-push.ensures.items ∙ ap (λ k. keys ++ k ∷ []) (copies_key _ _ c.in_ok-clone-2.ensures.cases)
    ∙ key_pushed keys c.args.seen.now c.args.key.now c.in_ok-before.before
    (c.in_ok-before.ensures.before ∙ ap (map.get c.args.seen.now) (copies_key _ _ c.in_ok-clone.ensures.cases))
    (sym c.is_some.ensures ∙ c.if-is_some.false)
