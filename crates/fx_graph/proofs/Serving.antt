-- Walks over the endpoints that wait: what those that are left bring is what all of them were to bring.
use Rattle.std.proofs.Common.{◌≡◌, ℕ, List, [], ◌∷◌, inr, map as each, Some, refl, sym, ap, ◌∙◌}
use Rattle.std.specs.FinMap as map
use Rattle.fx_base.specs.Extended.{extended}
use Rattle.fx_names.specs.Digests.{Digest}
use Rattle.fx_model.proofs.Orders.{item_total, exact_item}
use Rattle.fx_model.specs.contracts.ids.ItemKeyOrd.TheImpl as item_cmp
use Rattle.fx_model.specs.declared.ids.ItemKey.{ItemKey}
use Rattle.fx_resolver.specs.declared.known.KnownEndpoint.{KnownEndpoint}
use Rattle.fx_resolver.specs.Resolved.{HaveOwnInterfaces}
use Rattle.fx_node_laws.specs.Changes.{Taken}
use Rattle.fx_node_laws.specs.Waits.{Queue, known_waiting}
use Rattle.fx_model.specs.declared.waiting.Waiting.{Waiting}
use Rattle.fx_node_laws.proofs.OneKey.{at_each, here_inserted, there_inserted}
use Rattle.fx_graph.specs.Taking.{AreOwnTogether, IsThereOrWaits, with_local}

abbrev pub Served : Type 0
Served = map.FinMap item_cmp.cmp-value.it (List (List ℕ))

abbrev pub Placed : Type 0
Placed = map.FinMap item_cmp.cmp-value.it KnownEndpoint

-- ---- their profiles
pub record IsServing (whole now : Served) (es : List (ItemKey × Waiting)) : Type 0 where
  pub left : extended now (each (λ x. (x.0, x.1.profiles)) es) ≡ whole

pub serving_first : (now : Served) (es : List (ItemKey × Waiting)) → IsServing (extended now (each (λ x. (x.0, x.1.profiles)) es)) now es
serving_first now es = record { left = refl }

pub serving_next : (whole now : Served) (e : ItemKey × Waiting) (es : List (ItemKey × Waiting)) → IsServing whole now (e ∷ es)
    → (next : Served) → next ≡ map.insert now e.0 e.1.profiles → IsServing whole next es
serving_next whole now e es h next is = record { left = ap (λ m. extended m (each (λ x. (x.0, x.1.profiles)) es)) is ∙ h.left }

pub serving_last : (whole now : Served) → IsServing whole now [] → now ≡ whole
serving_last whole now h = h.left

-- ---- what the resolver knows of them
module _ (dg : Digest) where
  pub record IsPlacing (whole now : Placed) (es : List (ItemKey × Waiting)) : Type 0 where
    pub left : extended now (each (λ x. (x.0, known_waiting dg x.1)) es) ≡ whole

  pub placing_first : (now : Placed) (es : List (ItemKey × Waiting)) → IsPlacing (extended now (each (λ x. (x.0, known_waiting dg x.1)) es)) now es
  placing_first now es = record { left = refl }

  pub placing_next : (whole now : Placed) (e : ItemKey × Waiting) (es : List (ItemKey × Waiting)) → IsPlacing whole now (e ∷ es)
      → (next : Placed) → next ≡ map.insert now e.0 (known_waiting dg e.1) → IsPlacing whole next es
  placing_next whole now e es h next is = record { left = ap (λ m. extended m (each (λ x. (x.0, known_waiting dg x.1)) es)) is ∙ h.left }

  pub placing_last : (whole now : Placed) → IsPlacing whole now [] → now ≡ whole
  placing_last whole now h = h.left

  -- each that is held there was there or waited
  module _ (w : Queue) (t : Taken) where
    abbrev pub AreThere : Placed → Type 0
    AreThere m = (k : ItemKey) (e : KnownEndpoint) → map.get m k ≡ Some e → IsThereOrWaits dg w t k e

    the_one : (x y : KnownEndpoint) → Some x ≡ Some y → x ≡ y
    the_one x y e = cc

    pub there_next : (m : Placed) (k : ItemKey) (x : Waiting) → map.get w k ≡ Some x → AreThere m → AreThere (map.insert m k (known_waiting dg x))
    there_next m k x waits there =
        at_each item_total exact_item (λ q. (e : KnownEndpoint) → map.get (map.insert m k (known_waiting dg x)) q ≡ Some e → IsThereOrWaits dg w t q e) k
        (λ e at. inr (x, (waits, the_one (known_waiting dg x) e (sym (here_inserted item_total exact_item m k (known_waiting dg x)) ∙ at))))
        (λ q other e at. there q e (sym (there_inserted item_total exact_item m k (known_waiting dg x) q other) ∙ at))

    -- and so none has another one's interface
    pub own_there : (m : Placed) → AreOwnTogether dg w t → AreThere m → HaveOwnInterfaces m
    own_there m own there i j e f at at_other same = own i j e f (there i e at) (there j f at_other) same

-- ---- the rest stays
pub others_next : (t before after : Taken) (k : ItemKey) (e : KnownEndpoint) → before ≡ record t { locals = before.locals }
    → after ≡ with_local k e before → after ≡ record t { locals = after.locals }
others_next t before after k e was is =
    is ∙ ap (with_local k e) was ∙ ap (λ (l : Placed). record t { locals = l }) (sym (ap (λ (x : Taken). x.locals) is))
