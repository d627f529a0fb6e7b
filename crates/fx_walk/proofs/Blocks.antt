-- What the blocks of a rule do: each keeps the all-blocks mark where what it asks holds, and clears it otherwise.
use Rattle.std.proofs.Common.{◌≡◌, ℕ, suc, Bool, true, false, cond, not, ◌&&◌, ◌||◌, List, [], ◌∷◌, ◌++◌, map, refl, sym, ap, ◌∙◌, subst, arith, lit<, append_assoc}
use Rattle.std.proofs.lemmas.List.{append-nil}
use Rattle.std.specs.Int.{bit_at}
use Rattle.std.specs.List.{list_any}
use Rattle.std.specs.Str.{bytes_eq}
use Rattle.fx_model.specs.declared.packet.Packet.{Packet}
use Rattle.fx_model.specs.declared.chain.Match.{Match}
use Rattle.fx_model.specs.declared.chain.Target.TheVariants as target
use Rattle.fx_model.specs.declared.chain.ChainRule.{ChainRule}
use Rattle.fx_model.specs.Tables.{ChainName, Sets, forward}
use Rattle.fx_model.specs.Rendering.{plain, set_mark, clear_mark, is_set, is_clear, all_blocks, this_block, positive_block, negative_block, joined, block_rules, block_match}
use Rattle.fx_model.specs.Machine.{holds, hold_all, marked, Reasons, with_tag, last_reason}
use Rattle.fx_model.specs.Walk.{Onward, Ended, over_rules}
use Rattle.fx_walk.specs.Endings.{KeepsBits}
use Rattle.fx_walk.proofs.Walks.{walk_hit, walk_miss}
use Rattle.fx_walk.proofs.Marks.{set_same, set_other, clear_same, clear_other, is_one, is_not_one, is_zero, is_not_zero}

pub keeps_same : (m : ℕ) → KeepsBits m m
keeps_same m = record { accept = refl; pass = refl }

pub keeps_on : (m n k : ℕ) → KeepsBits m n → KeepsBits n k → KeepsBits m k
keeps_on m n k f g = record { accept = g.accept ∙ f.accept; pass = g.pass ∙ f.pass }

set_this_keeps : (m : ℕ) → KeepsBits m (marked m this_block this_block)
set_this_keeps m = record { accept = set_other m 19 16 (lit< tt) (lit< tt) (omega arith); pass = set_other m 19 17 (lit< tt) (lit< tt) (omega arith) }

clear_this_keeps : (m : ℕ) → KeepsBits m (marked m 0 this_block)
clear_this_keeps m = record { accept = clear_other m 19 16 (lit< tt) (lit< tt) (omega arith); pass = clear_other m 19 17 (lit< tt) (lit< tt) (omega arith) }

set_all_keeps : (m : ℕ) → KeepsBits m (marked m all_blocks all_blocks)
set_all_keeps m = record { accept = set_other m 18 16 (lit< tt) (lit< tt) (omega arith); pass = set_other m 18 17 (lit< tt) (lit< tt) (omega arith) }

clear_all_keeps : (m : ℕ) → KeepsBits m (marked m 0 all_blocks)
clear_all_keeps m = record { accept = clear_other m 18 16 (lit< tt) (lit< tt) (omega arith); pass = clear_other m 18 17 (lit< tt) (lit< tt) (omega arith) }

cond_both : (b : Bool) (x : ℕ) → cond b x x ≡ x
cond_both true x = refl
cond_both false x = refl

cond_and : (b c : Bool) (x : ℕ) → cond c (cond b x 0) 0 ≡ cond (b && c) x 0
cond_and true true x = refl
cond_and true false x = refl
cond_and false true x = refl
cond_and false false x = refl

joined-append : (xs ys : List (List ChainRule)) → joined (xs ++ ys) ≡ joined xs ++ joined ys
joined-append [] ys = refl
joined-append (x ∷ xs) ys = ap (λ t. x ++ t) (joined-append xs ys) ∙ sym (append_assoc x (joined xs) (joined ys))

pub only : (sets : Sets) (a : Packet) (m : ℕ) (x : Match) (b : Bool) → holds sets a m x ≡ b → hold_all (holds sets a) m (x ∷ []) ≡ b
only sets a m x true e = ap (λ t. t && true) e
only sets a m x false e = ap (λ t. t && true) e

-- within a chain that isn't the first one
module _ (sets : Sets) (a : Packet) (call : ChainName → Onward Reasons) (c : ChainName) (inner : bytes_eq c forward ≡ false) where
  abbrev pub walk : ℕ → List ChainRule → ℕ → Reasons → Ended Reasons
  walk p rs m s = over_rules last_reason (holds sets a) call c p rs m s

  pub noted_as : (p : ℕ) (r : ChainRule) (s : Reasons) → last_reason c p r s ≡ with_tag r.tag s
  unfolding last_reason
  noted_as p r s = rw (inner, last_reason) refl

  -- a rule that only marks
  pub plain_hit : (p : ℕ) (ms : List Match) (v k : ℕ) (rs : List ChainRule) (m : ℕ) (s : Reasons) → hold_all (holds sets a) m ms ≡ true → walk p (plain ms (target.Mark v k) ∷ rs) m s ≡ walk (suc p) rs (marked m v k) s
  plain_hit p ms v k rs m s h =
      walk_hit last_reason (holds sets a) call c p (plain ms (target.Mark v k)) rs m s h ∙ ap (λ t. walk (suc p) rs (marked m v k) t) (noted_as p (plain ms (target.Mark v k)) s)

  pub miss : (p : ℕ) (r : ChainRule) (rs : List ChainRule) (m : ℕ) (s : Reasons) → hold_all (holds sets a) m r.matches ≡ false → walk p (r ∷ rs) m s ≡ walk (suc p) rs m s
  miss p r rs m s h = walk_miss last_reason (holds sets a) call c p r rs m s h

  -- ---- one block

  -- these rules go on to the rules behind them, keep the all-blocks bit if `ok`, and clear it otherwise
  abbrev pub DoesBlock : List ChainRule → Bool → Type 0
  DoesBlock rs ok = (rest : List ChainRule) (p m : ℕ) (s : Reasons) → (q : ℕ) × (n : ℕ) × (walk p (rs ++ rest) m s ≡ walk q rest n s) × KeepsBits m n × (bit_at n 18 ≡ cond ok (bit_at m 18) 0)

  no_block : DoesBlock [] true
  no_block rest p m s = (p, m, refl, keeps_same m, refl)

  two_blocks : (rs ts : List ChainRule) (b c : Bool) → DoesBlock rs b → DoesBlock ts c → DoesBlock (rs ++ ts) (b && c)
  two_blocks rs ts b c f g rest p m s = both (f (ts ++ rest) p m s)
    where
      both : (q : ℕ) × (n : ℕ) × (walk p (rs ++ (ts ++ rest)) m s ≡ walk q (ts ++ rest) n s) × KeepsBits m n × (bit_at n 18 ≡ cond b (bit_at m 18) 0) → (q : ℕ) × (n : ℕ) × (walk p ((rs ++ ts) ++ rest) m s ≡ walk q rest n s) × KeepsBits m n × (bit_at n 18 ≡ cond (b && c) (bit_at m 18) 0)
      both x =
          let y = g rest x.0 x.1 s in
          (y.0, y.1, ap (λ l. walk p l m s) (append_assoc rs ts rest) ∙ x.2 ∙ y.2, keeps_on m x.1 y.1 x.3 y.3, y.4 ∙ ap (λ t. cond c t 0) x.4 ∙ cond_and b c (bit_at m 18))

  module _ (X : Type 0) (f : X → List Match) (test : X → Bool) (fits : (m : ℕ) (x : X) → hold_all (holds sets a) m (f x) ≡ test x) where
    -- an alternative that matches sets the this-block bit
    any_set : (xs : List X) (rest : List ChainRule) (p m : ℕ) (s : Reasons) → (q : ℕ) × (n : ℕ) × (walk p (map (λ y. plain y (set_mark this_block)) (map f xs) ++ rest) m s ≡ walk q rest n s) × KeepsBits m n × (bit_at n 18 ≡ bit_at m 18) × (bit_at n 19 ≡ cond (list_any test xs) 1 (bit_at m 19))
    any_set [] rest p m s = (p, m, refl, keeps_same m, refl, refl)
    any_set (x ∷ xs) rest p m s = by_test (test x) refl (λ q n. any_set xs rest q n s)
      where
        after : List ChainRule
        after = map (λ y. plain y (set_mark this_block)) (map f xs) ++ rest

        by_test : (b : Bool) → test x ≡ b → ((q n : ℕ) → (q' : ℕ) × (n' : ℕ) × (walk q (map (λ y. plain y (set_mark this_block)) (map f xs) ++ rest) n s ≡ walk q' rest n' s) × KeepsBits n n' × (bit_at n' 18 ≡ bit_at n 18) × (bit_at n' 19 ≡ cond (list_any test xs) 1 (bit_at n 19))) → (q : ℕ) × (n : ℕ) × (walk p (map (λ y. plain y (set_mark this_block)) (map f (x ∷ xs)) ++ rest) m s ≡ walk q rest n s) × KeepsBits m n × (bit_at n 18 ≡ bit_at m 18) × (bit_at n 19 ≡ cond (test x || list_any test xs) 1 (bit_at m 19))
        by_test true h ih =
            let n1 = marked m this_block this_block in
            let y = ih (suc p) n1 in (
              y.0,
              y.1,
              plain_hit p (f x) this_block this_block after m s (fits m x ∙ h) ∙ y.2,
              keeps_on m n1 y.1 (set_this_keeps m) y.3,
              y.4 ∙ set_other m 19 18 (lit< tt) (lit< tt) (omega arith),
              y.5 ∙ ap (λ t. cond (list_any test xs) 1 t) (set_same m 19 (lit< tt)) ∙ cond_both (list_any test xs) 1 ∙ ap (λ t. cond (t || list_any test xs) 1 (bit_at m 19)) (sym h),
            )
        by_test false h ih =
            let y = ih (suc p) m in (
              y.0,
              y.1,
              miss p (plain (f x) (set_mark this_block)) after m s (fits m x ∙ h) ∙ y.2,
              y.3,
              y.4,
              y.5 ∙ ap (λ t. cond (t || list_any test xs) 1 (bit_at m 19)) (sym h),
            )

    pub positive_does : (xs : List X) → DoesBlock (positive_block (map f xs)) (list_any test xs)
    positive_does xs rest p m s = by_any (list_any test xs) refl (any_set xs (z ∷ rest) (suc p) (marked m 0 this_block) s)
      where
        z : ChainRule
        z = plain (is_clear this_block ∷ []) (clear_mark all_blocks)

        alternatives : List ChainRule
        alternatives = map (λ y. plain y (set_mark this_block)) (map f xs)

        m1 : ℕ
        m1 = marked m 0 this_block

        begun : walk p (positive_block (map f xs) ++ rest) m s ≡ walk (suc p) (alternatives ++ (z ∷ rest)) m1 s
        begun = plain_hit p [] 0 this_block ((alternatives ++ (z ∷ [])) ++ rest) m s refl ∙ ap (λ l. walk (suc p) l m1 s) (append_assoc alternatives (z ∷ []) rest)

        by_any : (b : Bool) → list_any test xs ≡ b → (q : ℕ) × (n : ℕ) × (walk (suc p) (alternatives ++ (z ∷ rest)) m1 s ≡ walk q (z ∷ rest) n s) × KeepsBits m1 n × (bit_at n 18 ≡ bit_at m1 18) × (bit_at n 19 ≡ cond (list_any test xs) 1 (bit_at m1 19)) → (q : ℕ) × (n : ℕ) × (walk p (positive_block (map f xs) ++ rest) m s ≡ walk q rest n s) × KeepsBits m n × (bit_at n 18 ≡ cond (list_any test xs) (bit_at m 18) 0)
        by_any true h y =
            let one : bit_at y.1 19 ≡ 1 = y.5 ∙ ap (λ t. cond t 1 (bit_at m1 19)) h in (
              suc y.0,
              y.1,
              begun ∙ y.2 ∙ miss y.0 z rest y.1 s (only sets a y.1 (is_clear this_block) false (is_not_zero sets a y.1 19 one)),
              keeps_on m m1 y.1 (clear_this_keeps m) y.3,
              y.4 ∙ clear_other m 19 18 (lit< tt) (lit< tt) (omega arith) ∙ ap (λ t. cond t (bit_at m 18) 0) (sym h),
            )
        by_any false h y =
            let none : bit_at y.1 19 ≡ 0 = y.5 ∙ ap (λ t. cond t 1 (bit_at m1 19)) h ∙ clear_same m 19 (lit< tt) in (
              suc y.0,
              marked y.1 0 all_blocks,
              begun ∙ y.2 ∙ plain_hit y.0 (is_clear this_block ∷ []) 0 all_blocks rest y.1 s (only sets a y.1 (is_clear this_block) true (is_zero sets a y.1 19 none)),
              keeps_on m m1 (marked y.1 0 all_blocks) (clear_this_keeps m) (keeps_on m1 y.1 (marked y.1 0 all_blocks) y.3 (clear_all_keeps y.1)),
              clear_same y.1 18 (lit< tt) ∙ ap (λ t. cond t (bit_at m 18) 0) (sym h),
            )

    pub negative_does : (xs : List X) → DoesBlock (negative_block (map f xs)) (not (list_any test xs))
    negative_does [] rest p m s = (p, m, refl, keeps_same m, refl)
    negative_does (x ∷ xs) rest p m s = by_test (test x) refl (λ q n. negative_does xs rest q n s)
      where
        after : List ChainRule
        after = negative_block (map f xs) ++ rest

        by_test : (b : Bool) → test x ≡ b → ((q n : ℕ) → (q' : ℕ) × (n' : ℕ) × (walk q (negative_block (map f xs) ++ rest) n s ≡ walk q' rest n' s) × KeepsBits n n' × (bit_at n' 18 ≡ cond (not (list_any test xs)) (bit_at n 18) 0)) → (q : ℕ) × (n : ℕ) × (walk p (negative_block (map f (x ∷ xs)) ++ rest) m s ≡ walk q rest n s) × KeepsBits m n × (bit_at n 18 ≡ cond (not (test x || list_any test xs)) (bit_at m 18) 0)
        by_test true h ih =
            let n1 = marked m 0 all_blocks in
            let y = ih (suc p) n1 in (
              y.0,
              y.1,
              plain_hit p (f x) 0 all_blocks after m s (fits m x ∙ h) ∙ y.2,
              keeps_on m n1 y.1 (clear_all_keeps m) y.3,
              y.4 ∙ ap (λ t. cond (not (list_any test xs)) t 0) (clear_same m 18 (lit< tt)) ∙ cond_both (not (list_any test xs)) 0 ∙ ap (λ t. cond (not (t || list_any test xs)) (bit_at m 18) 0) (sym h),
            )
        by_test false h ih =
            let y = ih (suc p) m in (
              y.0,
              y.1,
              miss p (plain (f x) (clear_mark all_blocks)) after m s (fits m x ∙ h) ∙ y.2,
              y.3,
              y.4 ∙ ap (λ t. cond (not (t || list_any test xs)) (bit_at m 18) 0) (sym h),
            )

  -- ---- some blocks together

  -- these blocks ask this; with none of them nothing is asked
  abbrev pub Part : List (List ChainRule) → Bool → Type 0
  Part bs ok = DoesBlock (joined bs) ok × (bs ≡ [] → ok ≡ true)

  pub part_none : Part [] true
  part_none = (no_block, λ e. refl)

  pub part_one : (b : List ChainRule) (ok : Bool) → DoesBlock b ok → Part (b ∷ []) ok
  part_one b ok h = (subst (λ l. DoesBlock l ok) (sym (append-nil b)) h, λ e. cc)

  pub part_join : (xs ys : List (List ChainRule)) (b c : Bool) → Part xs b → Part ys c → Part (xs ++ ys) (b && c)
  part_join xs ys b c f g =
      (subst (λ l. DoesBlock l (b && c)) (sym (joined-append xs ys)) (two_blocks (joined xs) (joined ys) b c f.0 g.0), empty xs f.1)
    where
      empty : (l : List (List ChainRule)) → (l ≡ [] → b ≡ true) → l ++ ys ≡ [] → (b && c) ≡ true
      empty [] h e = ap (λ t. t && c) (h refl) ∙ g.1 e
      empty (x ∷ l) h e = cc

  -- the blocks of a rule lead to its main rule, whose match on them says what they asked
  pub before_main : (bs : List (List ChainRule)) (ok : Bool) → Part bs ok → (rest : List ChainRule) (p m : ℕ) (s : Reasons) → (q : ℕ) × (n : ℕ) × (walk p (block_rules bs ++ rest) m s ≡ walk q rest n s) × KeepsBits m n × (hold_all (holds sets a) n (block_match bs) ≡ ok)
  before_main [] ok h rest p m s = (p, m, refl, keeps_same m, sym (h.1 refl))
  before_main (b ∷ bs) ok h rest p m s = by_ok ok refl (h.0 rest (suc p) (marked m all_blocks all_blocks) s)
    where
      m1 : ℕ
      m1 = marked m all_blocks all_blocks

      by_ok : (t : Bool) → ok ≡ t → (q : ℕ) × (n : ℕ) × (walk (suc p) (joined (b ∷ bs) ++ rest) m1 s ≡ walk q rest n s) × KeepsBits m1 n × (bit_at n 18 ≡ cond ok (bit_at m1 18) 0) → (q : ℕ) × (n : ℕ) × (walk p (block_rules (b ∷ bs) ++ rest) m s ≡ walk q rest n s) × KeepsBits m n × (hold_all (holds sets a) n (block_match (b ∷ bs)) ≡ ok)
      by_ok true e y = (
        y.0,
        y.1,
        plain_hit p [] all_blocks all_blocks (joined (b ∷ bs) ++ rest) m s refl ∙ y.2,
        keeps_on m m1 y.1 (set_all_keeps m) y.3,
        only sets a y.1 (is_set all_blocks) true (is_one sets a y.1 18 (y.4 ∙ ap (λ t. cond t (bit_at m1 18) 0) e ∙ set_same m 18 (lit< tt))) ∙ sym e,
      )
      by_ok false e y = (
        y.0,
        y.1,
        plain_hit p [] all_blocks all_blocks (joined (b ∷ bs) ++ rest) m s refl ∙ y.2,
        keeps_on m m1 y.1 (set_all_keeps m) y.3,
        only sets a y.1 (is_set all_blocks) false (is_not_one sets a y.1 18 (y.4 ∙ ap (λ t. cond t (bit_at m1 18) 0) e)) ∙ sym e,
      )
