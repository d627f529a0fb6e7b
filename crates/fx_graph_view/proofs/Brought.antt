-- A walk of touched keys, each step of which brings one entry to what it is to become.
use Rattle.std.proofs.Common.{◌≡◌, true, false, cond, List, [], ◌∷◌, Option, Some, None, is_some, refl, sym, ap, ◌∙◌}
use Rattle.std.specs.declared.cmp.Ordering.{Ordering}
use Rattle.std.specs.Ordering.{is_eq, eq_by_cmp}
use Rattle.std.specs.Cmp.{IsTotalOrder, tied_itself}
use Rattle.std.specs.FinMap.{FinMap, IsAntisymmetric, find, entries, get, insert, remove, get-insert, get-remove, get-entries}
use Rattle.fx_base.proofs.Walk.{IsRest, IsHalf, IsRest-start, IsRest-head, IsRest-next, IsHalf-head, IsHalf-next}

module _ {K V : Type 0} {R : K → K → Ordering} (o : IsTotalOrder R) (exact : IsAntisymmetric R) {X : Type 0} (touched : FinMap R V) where
  abbrev pub row : (K → Option X) → K → Unit {0} → Option X
  row f k u = f k

  -- the entries of the keys that are left are as before, and the others as after
  pub record IsBrought (before after : K → Option X) (state : FinMap R X) (es : List (K × V)) : Type 0 where
    pub rest : IsRest touched es
    pub half : IsHalf R (row before) (row after) (row (get state)) es

  pub begun : (before after : K → Option X) (state : FinMap R X) → ((k : K) → before k ≡ get state k) → ((k : K) → get touched k ≡ None → before k ≡ after k) → IsBrought before after state (entries touched)
  begun before after state same h = record {
    rest = IsRest-start o touched;
    half = record {
      at = λ k u.
          sym (same k)
          ∙ elim (get touched k) as (λ t. get touched k ≡ t → before k ≡ cond (is_some t) (before k) (after k)) [
            | Some v ↦ λ _. refl
            | None ↦ λ e. h k e
          ] refl
          ∙ ap (λ t. cond (is_some t) (before k) (after k)) (get-entries touched k);
    };
  }

  module _ (before after : K → Option X) (state : FinMap R X) (e : K × V) (es : List (K × V)) (h : IsBrought before after state (e ∷ es)) where
    pub head_touched : get touched e.0 ≡ Some e.1
    head_touched = IsRest-head o touched e es h.rest

    pub head_before : get state e.0 ≡ before e.0
    head_before = IsHalf-head o exact (row before) (row after) (row (get state)) e es h.half tt

    pub step : (next : FinMap R X) → get next e.0 ≡ after e.0 → ((k : K) → eq_by_cmp R k e.0 ≡ false → get next k ≡ get state k) → IsBrought before after next es
    step next first others = record {
      rest = IsRest-next o exact touched e es h.rest;
      half = IsHalf-next o exact (row before) (row after) touched (row (get state)) (row (get next)) e es h.rest h.half (λ u. first) (λ k u other. others k other);
    }

    pub put : (next : FinMap R X) (x : X) → next ≡ insert state e.0 x → after e.0 ≡ Some x → IsBrought before after next es
    put next x is to = step next
        (ap (λ m. get m e.0) is ∙ get-insert o state e.0 x e.0 ∙ ap (λ r. cond (is_eq r) (Some x) (get state e.0)) (tied_itself o e.0) ∙ sym to)
        (λ k other. ap (λ m. get m k) is ∙ get-insert o state e.0 x k ∙ ap (λ b. cond b (Some x) (get state k)) other)

    pub off : (next : FinMap R X) → next ≡ remove state e.0 → after e.0 ≡ None → IsBrought before after next es
    off next is to = step next
        (ap (λ m. get m e.0) is ∙ get-remove o state e.0 e.0 ∙ ap (λ r. cond (is_eq r) None (get state e.0)) (tied_itself o e.0) ∙ sym to)
        (λ k other. ap (λ m. get m k) is ∙ get-remove o state e.0 k ∙ ap (λ b. cond b None (get state k)) other)

    pub pass : before e.0 ≡ after e.0 → IsBrought before after state es
    pass same = step state (head_before ∙ same) (λ k other. refl)

  pub ended : (before after : K → Option X) (state : FinMap R X) → IsBrought before after state [] → (k : K) → get state k ≡ after k
  ended before after state h k = h.half.at k tt

  -- what is so before and after is so on the way
  pub on_the_way : (before after whole : K → Option X) (state : FinMap R X) (es : List (K × V)) → ((k : K) (x : X) → before k ≡ Some x → whole k ≡ Some x) → ((k : K) (x : X) → after k ≡ Some x → whole k ≡ Some x) → IsBrought before after state es → (k : K) (x : X) → get state k ≡ Some x → whole k ≡ Some x
  on_the_way before after whole state es first last h k x e =
      elim (is_some (find R k es)) as (λ b. cond b (before k) (after k) ≡ Some x → whole k ≡ Some x) [
        | true ↦ λ p. first k x p
        | false ↦ λ p. last k x p
      ] (sym (h.half.at k tt) ∙ e)
