-- Where a value stands in the one that is read, as JavaScript names members and items: `spec.ingress[0].source.nets[1]`.
use Rattle.std.specs.Prelude.{ℕ, List, [], ◌∷◌, ◌++◌, decimal}
use Rattle.fx_fields.specs.declared.path.Path.{Path, fold-Path}
use Rattle.fx_fields.specs.declared.path.Path.TheOpen.{Path-F}

abbrev pub member_path : List ℕ → List ℕ → List ℕ
member_path path key = path ++ 46 ∷ key

abbrev pub item_path : List ℕ → ℕ → List ℕ
item_path path index = path ++ 91 ∷ (decimal index ++ 93 ∷ [])

-- the text of a path, step by step from the whole value on
abbrev pub steps : Path-F (List ℕ) → List ℕ
steps (Path-F.Top key) = key.now
steps (Path-F.Member of key) = member_path of.now key.now
steps (Path-F.Item of index) = item_path of.now index

unfoldable pub text_of : Path → List ℕ
text_of = fold-Path (List ℕ) steps
