-- The trees of a label selector have two levels at most, and so that of a peer is low. Its keys and values may stand in a selector.
use Rattle.std.proofs.Common.{◌≡◌, ◌≤◌, ◌<◌, ◌+◌, ℕ, List, [], ◌∷◌, ◌++◌, map, length, get_or, Option, Some, None, ap, arith}
use Rattle.std.specs.Prelude.{All, Result, Ok, Err, IfOk, codes}
use Rattle.std.proofs.lemmas.List.Elements.{All-nil, All-cons, All-head, All-tail, All-append, All-weaker, All-get_or}
use Rattle.fx_selector.specs.Tree.{Tree, many, and_of, height, heights}
use Rattle.fx_selector.specs.Rewriting.{namespace_tree}
use Rattle.fx_selector.proofs.Rewritten.{height-rewritten}
use Rattle.fx_k8s.specs.declared.expressions.Expression.{Expression}
use Rattle.fx_k8s.specs.declared.expressions.Expression.TheVariants.{In, NotIn, Exists, DoesNotExist}
use Rattle.fx_k8s.specs.declared.label_selectors.LabelPair.{LabelPair}
use Rattle.fx_k8s.specs.declared.label_selectors.LabelSelector.{LabelSelector}
use Rattle.fx_k8s.specs.declared.peers.PodPeer.{PodPeer}
use Rattle.fx_k8s.specs.Conversion.{pair_tree, expression_tree, selector_trees, given_trees, orchestrated, some_namespace, namespace_trees, peer_tree}

abbrev IsLow : Tree → Type 0
IsLow t = height t ≤ 2

low_expression : (x : Expression) → IsLow (expression_tree x)
low_expression (In k vs) = omega arith
low_expression (NotIn k vs) = omega arith
low_expression (Exists k) = omega arith
low_expression (DoesNotExist k) = omega arith

low_pairs : (ps : List LabelPair) → All IsLow (map pair_tree ps)
low_pairs [] = All-nil IsLow
low_pairs (p ∷ ps) = All-cons IsLow (pair_tree p) (map pair_tree ps) (omega arith) (low_pairs ps)

low_expressions : (xs : List Expression) → All IsLow (map expression_tree xs)
low_expressions [] = All-nil IsLow
low_expressions (x ∷ xs) = All-cons IsLow (expression_tree x) (map expression_tree xs) (low_expression x) (low_expressions xs)

pub low_trees : (s : LabelSelector) → All (λ t. height t ≤ 2) (selector_trees s)
low_trees s = All-append IsLow (map pair_tree s.labels) (map expression_tree s.expressions) (low_pairs s.labels) (low_expressions s.expressions)

pub shallow_trees : (ts : List Tree) → All (λ t. height t ≤ 2) ts → All (λ t. height t ≤ 139) ts
shallow_trees ts low = All-weaker IsLow (λ t. height t ≤ 139) (λ t h. omega (arith, h)) ts low

-- one of low trees
pub low_item : (ts : List Tree) (i : ℕ) (t : Tree) → i < length ts → t ≡ get_or ts i t → All (λ t. height t ≤ 2) ts → height t ≤ 2
low_item ts i t within here low =
    let is : height (get_or ts i t) ≤ 2 = All-get_or IsLow ts i t within low in
    omega (arith, ap height here, is)

-- ---- the tree of a peer

-- rewriting adds one level
abbrev IsLowPart : Tree → Type 0
IsLowPart t = height t ≤ 3

low_rewritten : (ts : List Tree) → All IsLow ts → All IsLowPart (map namespace_tree ts)
low_rewritten [] low = All-nil IsLowPart
low_rewritten (t ∷ ts) low =
    All-cons IsLowPart (namespace_tree t) (map namespace_tree ts)
    (omega (arith, height-rewritten (codes "pcns.") (codes "projectcalico.org/namespace") t, All-head IsLow t ts low))
    (low_rewritten ts (All-tail IsLow t ts low))

low_given : (o : Option LabelSelector) → All IsLowPart (given_trees o)
low_given None = All-nil IsLowPart
low_given (Some s) = All-weaker IsLow IsLowPart (λ t h. omega (arith, h)) (selector_trees s) (low_trees s)

low_some : (ts : List Tree) → All IsLowPart ts → All IsLowPart (some_namespace ts)
low_some [] low = All-cons IsLowPart _ [] (omega arith) (All-nil IsLowPart)
low_some (t ∷ ts) low = low

low_namespaces : (ns : List ℕ) (o : Option LabelSelector) → All IsLowPart (namespace_trees ns o)
low_namespaces ns None = All-cons IsLowPart _ [] (omega arith) (All-nil IsLowPart)
low_namespaces ns (Some s) = low_some (map namespace_tree (selector_trees s)) (low_rewritten (selector_trees s) (low_trees s))

heights-low : (ts : List Tree) → All IsLowPart ts → heights (many ts) ≤ 3
heights-low [] low = omega arith
heights-low (t ∷ ts) low = omega (arith, All-head IsLowPart t ts low, heights-low ts (All-tail IsLowPart t ts low))

height-and : (ts : List Tree) → height (and_of ts) ≤ heights (many ts) + 1
height-and [] = omega arith
height-and (t ∷ []) = omega arith
height-and (t ∷ u ∷ us) = omega arith

pub low_peer : (ns : List ℕ) (p : PodPeer) → height (peer_tree ns p) ≤ 139
low_peer ns p =
    let parts = given_trees p.pods ++ orchestrated ∷ namespace_trees ns p.namespaces in
    let low : All IsLowPart parts =
    All-append IsLowPart (given_trees p.pods) (orchestrated ∷ namespace_trees ns p.namespaces) (low_given p.pods)
    (All-cons IsLowPart orchestrated (namespace_trees ns p.namespaces) (omega arith) (low_namespaces ns p.namespaces)) in
    omega (arith, height-and parts, heights-low parts low)

-- ---- what is weaker

pub weaker-ok : {A E : Type 0} (r : Result A E) (P Q : A → Type 0) → ((x : A) → P x → Q x) → IfOk r P → IfOk r Q
weaker-ok (Ok x) P Q f h = f x h
weaker-ok (Err e) P Q f h = tt
