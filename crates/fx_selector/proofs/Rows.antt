-- The operands of a node as a list.
use Rattle.std.proofs.Common.{◌≡◌, ◌≢◌, ◌<◌, Bool, IsTrue, List, [], ◌∷◌, length, map, refl, sym, ap, ◌∙◌, arith, Vec, Global}
use Rattle.std.proofs.lemmas.List.{length-map}
use mathlib.Core.Former.{Count}
use Rattle.fx_selector.specs.Tree.{Tree, Trees, each, some, more, many, together}
use Rattle.fx_selector.specs.Nodes.{tree, trees, trees_of}
use Rattle.fx_selector.specs.declared.node.Node.{Node, And, Or, And', Or', Row_of-Node, end_of-Node, more_of-Node, items-the_row-Node, items_hidden-the_row-Node-0}

abbrev row_of : Node → (n : Count) × Row_of-Node n
row_of (And' _ row) = (_, row)
row_of (Or' _ row) = (_, row)
row_of _ = (_, end_of-Node)

pub trees_items : (n : _) (row : Row_of-Node n) → trees row ≡ many (map tree (items-the_row-Node n row))
trees_items n end_of-Node = refl
trees_items n (more_of-Node m rest) = ap (more (tree m)) (trees_items _ rest)

pub two_and_more : (f : Trees → Tree) (ts : List Tree) → 0 < length ts → length ts ≢ 1 → together f ts ≡ f (many ts)
two_and_more f [] h k = absurd (omega arith)
two_and_more f (t ∷ []) h k = absurd (k refl)
two_and_more f (t ∷ u ∷ us) h k = refl

pub tree-And : (v : Vec Node Global) → tree (And v) ≡ each (many (map tree v.items))
tree-And v = let row = row_of (And v) in ap each (trees_items row.0 row.1 ∙ ap (λ l. many (map tree l)) (items_hidden-the_row-Node-0 v))

pub tree-Or : (v : Vec Node Global) → tree (Or v) ≡ some (many (map tree v.items))
tree-Or v = let row = row_of (Or v) in ap some (trees_items row.0 row.1 ∙ ap (λ l. many (map tree l)) (items_hidden-the_row-Node-0 v))

-- what two operands and more make
pub made-And : (v : Vec Node Global) → 0 < length v.items → length v.items ≢ 1 → tree (And v) ≡ together each (map tree v.items)
made-And v h k = tree-And v ∙ sym (two_and_more each (map tree v.items) (omega (arith, length-map v.items tree)) (λ e. k (omega (arith, length-map v.items tree))))

pub made-Or : (v : Vec Node Global) → 0 < length v.items → length v.items ≢ 1 → tree (Or v) ≡ together some (map tree v.items)
made-Or v h k = tree-Or v ∙ sym (two_and_more some (map tree v.items) (omega (arith, length-map v.items tree)) (λ e. k (omega (arith, length-map v.items tree))))

-- Ands and Ors are equal where their operands are
pub same-And : (v w : Vec Node Global) (r : Bool) → (IsTrue r → trees_of v.items ≡ trees_of w.items) × (trees_of v.items ≡ trees_of w.items → IsTrue r) → (IsTrue r → tree (And v) ≡ tree (And w)) × (tree (And v) ≡ tree (And w) → IsTrue r)
same-And v w r h = (
  λ t. tree-And v ∙ (ap each (h.0 t) ∙ sym (tree-And w)),
  λ e. h.1 (let k : each (trees_of v.items) ≡ each (trees_of w.items) = sym (tree-And v) ∙ (e ∙ tree-And w) in cc),
)

pub same-Or : (v w : Vec Node Global) (r : Bool) → (IsTrue r → trees_of v.items ≡ trees_of w.items) × (trees_of v.items ≡ trees_of w.items → IsTrue r) → (IsTrue r → tree (Or v) ≡ tree (Or w)) × (tree (Or v) ≡ tree (Or w) → IsTrue r)
same-Or v w r h = (
  λ t. tree-Or v ∙ (ap some (h.0 t) ∙ sym (tree-Or w)),
  λ e. h.1 (let k : some (trees_of v.items) ≡ some (trees_of w.items) = sym (tree-Or v) ∙ (e ∙ tree-Or w) in cc),
)

-- copies of the operands make a copy
pub copied-And : (v w : Vec Node Global) → map tree w.items ≡ map tree v.items → tree (And w) ≡ tree (And v)
copied-And v w h = tree-And w ∙ (ap (λ ts. each (many ts)) h ∙ sym (tree-And v))

pub copied-Or : (v w : Vec Node Global) → map tree w.items ≡ map tree v.items → tree (Or w) ≡ tree (Or v)
copied-Or v w h = tree-Or w ∙ (ap (λ ts. some (many ts)) h ∙ sym (tree-Or v))
