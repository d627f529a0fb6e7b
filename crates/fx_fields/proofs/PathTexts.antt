-- The text of a path by its last step.
use Rattle.std.proofs.Common.{◌≡◌, ℕ, List, Bor, rules}
use Rattle.fx_fields.specs.declared.path.Path.{Path, Top, Member, Item, the_lemmas}
use Rattle.fx_fields.specs.Paths.{member_path, item_path, text_of}

pub text_of_top : (key : Bor (List ℕ)) → text_of (Top key) ≡ key.now
unfolding text_of
text_of_top key = search (rules, the_lemmas)

pub text_of_member : (of : Bor Path) (key : Bor (List ℕ)) → text_of (Member of key) ≡ member_path (text_of of.now) key.now
unfolding text_of
text_of_member of key = search (rules, the_lemmas)

pub text_of_item : (of : Bor Path) (index : ℕ) → text_of (Item of index) ≡ item_path (text_of of.now) index
unfolding text_of
text_of_item of index = search (rules, the_lemmas)
