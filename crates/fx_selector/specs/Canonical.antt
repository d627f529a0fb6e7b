-- The canonical text of a selector's tree: each tree has one, and it spells its tree.
use Rattle.std.specs.Prelude.{ℕ, List, [], ◌∷◌, ◌++◌, codes, map}
use Rattle.fx_selector.specs.Tree.{Tree, Trees, all, global, has, equal, unequal, within, outside, contains, starts, ends, negated, each, some, none, more, quote_of}

abbrev pub quoted : List ℕ → List ℕ
quoted v = quote_of v ∷ v ++ quote_of v ∷ []

-- the texts with a mark between each two
abbrev pub between : List ℕ → List (List ℕ) → List ℕ
between mark [] = []
between mark (t ∷ []) = t
between mark (t ∷ u ∷ us) = t ++ (mark ++ between mark (u ∷ us))

abbrev pub braced : List (List ℕ) → List ℕ
braced vs = codes "{" ++ (between (codes ", ") (map quoted vs) ++ codes "}")

abbrev mutual
  pub canonical_text : Tree → List ℕ
  canonical_text all = codes "all()"
  canonical_text global = codes "global()"
  canonical_text (has k) = codes "has(" ++ (k ++ codes ")")
  canonical_text (equal k v) = k ++ (codes " == " ++ quoted v)
  canonical_text (unequal k v) = k ++ (codes " != " ++ quoted v)
  canonical_text (within k vs) = k ++ (codes " in " ++ braced vs)
  canonical_text (outside k vs) = k ++ (codes " not in " ++ braced vs)
  canonical_text (contains k v) = k ++ (codes " contains " ++ quoted v)
  canonical_text (starts k v) = k ++ (codes " starts with " ++ quoted v)
  canonical_text (ends k v) = k ++ (codes " ends with " ++ quoted v)
  canonical_text (negated t) = codes "!" ++ canonical_text t
  canonical_text (each ts) = codes "(" ++ (between (codes " && ") (texts ts) ++ codes ")")
  canonical_text (some ts) = codes "(" ++ (between (codes " || ") (texts ts) ++ codes ")")

  pub texts : Trees → List (List ℕ)
  texts none = []
  texts (more t ts) = canonical_text t ∷ texts ts
