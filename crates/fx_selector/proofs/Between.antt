-- A row of texts, one more at a time.
use Rattle.std.proofs.lemmas.List.{take_more, map_push}
use Rattle.std.proofs.Common.{◌≡◌, ℕ, zero, suc, ◌==◌, ◌+◌, ◌<◌, if◌then◌else◌, List, [], ◌∷◌, ◌++◌, length, map, take, get_or, refl, sym, ap, ◌∙◌, append_assoc, arith, Vec, Global}
use Rattle.std.proofs.lemmas.Bool.Decides.{nat_tests}
use Rattle.fx_selector.specs.Tree.{each, some}
use Rattle.fx_selector.specs.Canonical.{between, canonical_text, texts}
use Rattle.fx_selector.specs.Nodes.{tree, trees_of}
use Rattle.fx_selector.specs.declared.node.Node.{Node, And, Or}
use Rattle.fx_selector.proofs.Rows.{tree-And, tree-Or}

pub between-push : (mark : List ℕ) (t : List ℕ) (ts : List (List ℕ)) (u : List ℕ) → between mark (t ∷ (ts ++ u ∷ [])) ≡ between mark (t ∷ ts) ++ (mark ++ u)
between-push mark t [] u = refl
between-push mark t (x ∷ xs) u =
    ap (λ z. t ++ (mark ++ z)) (between-push mark x xs u)
    ∙ (ap (λ z. t ++ z) (sym (append_assoc mark (between mark (x ∷ xs)) (mark ++ u))) ∙ sym (append_assoc t (mark ++ between mark (x ∷ xs)) (mark ++ u)))

later_mark : (mark : List ℕ) (i : ℕ) → (if suc i == 0 then [] else mark) ≡ mark
later_mark mark i = grind (arith, nat_tests)

-- a mark before each but the first
pub between-more : {A : Type 0} (f : A → List ℕ) (mark : List ℕ) (xs : List A) (i : ℕ) (d : A) → i < length xs → between mark (map f (take (i + 1) xs)) ≡ between mark (map f (take i xs)) ++ ((if i == 0 then [] else mark) ++ f (get_or xs i d))
between-more f mark [] i d h = absurd (omega arith)
between-more f mark (x ∷ xs) zero d h = refl
between-more f mark (x ∷ xs) (suc i) d h =
    ap (λ ys. between mark (map f ys)) (take_more (x ∷ xs) (suc i) d h)
    ∙ (ap (between mark) (map_push f (x ∷ take i xs) (get_or xs i d))
    ∙ (between-push mark (f x) (map f (take i xs)) (f (get_or xs i d))
    ∙ ap (λ m. between mark (f x ∷ map f (take i xs)) ++ (m ++ f (get_or xs i d))) (sym (later_mark mark i))))

-- what a loop has written, and what it writes in one step
pub written_more : {A : Type 0} (f : A → List ℕ) (mark : List ℕ) (xs : List A) (i : ℕ) (x : A) → i < length xs → x ≡ get_or xs i x → (start a b c : List ℕ) → a ≡ start ++ between mark (map f (take i xs)) → b ≡ a ++ (if i == 0 then [] else mark) → c ≡ b ++ f x → c ≡ start ++ between mark (map f (take (i + 1) xs))
written_more f mark xs i x h is start a b c e1 e2 e3 =
    let prefix : List ℕ = between mark (map f (take i xs)) in
    let sep : List ℕ = if i == 0 then [] else mark in
    let moved : ((start ++ prefix) ++ sep) ++ f x ≡ start ++ (prefix ++ (sep ++ f x)) = simp append_assoc in
    e3 ∙ (ap (λ z. z ++ f x) (e2 ∙ ap (λ z. z ++ sep) e1) ∙ (moved ∙ ap (λ z. start ++ z) (ap (λ y. prefix ++ (sep ++ f y)) is ∙ sym (between-more f mark xs i x h))))

pub texts-trees_of : (ns : List Node) → map (λ n. canonical_text (tree n)) ns ≡ texts (trees_of ns)
texts-trees_of [] = refl
texts-trees_of (n ∷ ns) = ap (λ ts. canonical_text (tree n) ∷ ts) (texts-trees_of ns)

pub group-And : (v : Vec Node Global) (xs : List Node) → xs ≡ v.items → (n : Node) → n ≡ And v → canonical_text (tree n) ≡ canonical_text (each (trees_of xs))
group-And v xs e n is = ap (λ m. canonical_text (tree m)) is ∙ (ap canonical_text (tree-And v) ∙ ap (λ ns. canonical_text (each (trees_of ns))) (sym e))

pub group-Or : (v : Vec Node Global) (xs : List Node) → xs ≡ v.items → (n : Node) → n ≡ Or v → canonical_text (tree n) ≡ canonical_text (some (trees_of xs))
group-Or v xs e n is = ap (λ m. canonical_text (tree m)) is ∙ (ap canonical_text (tree-Or v) ∙ ap (λ ns. canonical_text (some (trees_of ns))) (sym e))
